-- `plan::walks::count_of` meets its contract: the first walk and the closing call, none for an empty text, the second walk.
-- Assumes nothing.
use Rattle.std.proofs.Common.{ap, arith, eq-eqb, le-ltb, ne_eqb, ℕ, ◌%◌, ◌-◌, ◌<◌, ◌≡◌, ◌≤◌, ◌∙◌, refl}
use Rattle.s1p.specs.Parts.{unless_empty}
use Rattle.s1p.specs.Counts.{unless_none, unless_some, walk_calls, blocks_some}
use Rattle.plan.specs.declared.walks.Stage.{Stage}
use Rattle.plan.specs.declared.walks.Stage.TheVariants.{Seed, Start, Data, Text, Closing}
use Rattle.plan.specs.KindNumbers.{stage_number}
use Rattle.plan.specs.Walks.{calls_of}
use Rattle.plan.proofs.walks.count_of.Goals as goal

-- a part of the second walk is one of the first once more
once_more : (part : ℕ) → 5 ≤ part → part < 9 → part % 5 ≡ part - 5
once_more part h l = omega arith

-- the text's part, of a text that is not empty, has a call
some_text : (a m : ℕ) → (m ≡ 0 → ⊥) → 0 < walk_calls a m 3
unfolding walk_calls
some_text a m f = blocks_some m (omega (arith, f))

not_text : (k : Stage) → (k ≡ Text → ⊥) → stage_number k ≡ 3 → ⊥
not_text Seed f e = omega (arith, e)
not_text Start f e = omega (arith, e)
not_text Data f e = omega (arith, e)
not_text Text f e = f refl
not_text Closing f e = omega (arith, e)

pub returns-then-outline-eq0 : goal.returns-then-outline-eq0
unfolding calls_of
returns-then-outline-eq0 c =
    let a = c.args in
    let none : (k : ℕ) → unless_empty a.outline.text k ≡ 0 = λ k. unless_none a.outline.text k c.if-outline-eq0.true in
    (simp (le-ltb a.part 5 c.if-part-lt5.false, none), omega arith)

pub overflow_sub-result : goal.overflow_sub-result
overflow_sub-result c =
    let a = c.args in
    let calls : c.walk_calls-calls.result ≡ walk_calls a.outline.assoc a.outline.text 3 = rw c.in-Text.is at c.walk_calls-calls.ensures.0 in
    omega (arith, calls, some_text a.outline.assoc a.outline.text c.if-outline-eq0.false)

pub returns-in-Text : goal.returns-in-Text
unfolding calls_of
returns-in-Text c =
    let a = c.args in
    let all : (k : ℕ) → unless_empty a.outline.text k ≡ k = λ k. unless_some a.outline.text k (omega (arith, c.if-outline-eq0.false)) in
    let e : 3 ≡ a.part % 5 = rw c.in-Text.is at c.stage_of-stage.ensures in
    let is : a.part ≡ 8 = omega (arith, e, c.if-part-lt5.false, c.requires) in
    let calls : c.walk_calls-calls.result ≡ walk_calls a.outline.assoc a.outline.text 3 = rw c.in-Text.is at c.walk_calls-calls.ensures.0 in (
      simp (le-ltb a.part 5 c.if-part-lt5.false, all, eq-eqb a.part 8 is) (rw is (ap (λ (n : ℕ). n - 1) calls)),
      omega (arith, c.walk_calls-calls.ensures.1),
    )

pub returns-in_default : goal.returns-in_default
unfolding calls_of
returns-in_default c =
    let a = c.args in
    let all : (k : ℕ) → unless_empty a.outline.text k ≡ k = λ k. unless_some a.outline.text k (omega (arith, c.if-outline-eq0.false)) in
    let e : stage_number c.stage_of-stage.result ≡ a.part - 5 = c.stage_of-stage.ensures ∙ once_more a.part c.if-part-lt5.false c.requires in
    let other : a.part ≡ 8 → ⊥ = λ is. not_text c.stage_of-stage.result c.in_default.not-Text (omega (arith, e, is)) in (
      simp (le-ltb a.part 5 c.if-part-lt5.false, all, ne_eqb a.part 8 other) (c.walk_calls-calls.ensures.0 ∙ ap (walk_calls a.outline.assoc a.outline.text) e),
      omega (arith, c.walk_calls-calls.ensures.1),
    )
