-- `isap::Job::stands` meets its contract: each test is the definition's, in its order.
-- Assumes nothing.
use Rattle.std.proofs.Common.{Bool, [], ap, arith, eqb, false, le-leb, leb, leb-true, refl, sym, true, ℕ, ◌+◌, ◌∙◌, ◌∷◌, ◌≡◌, ◌≤◌}
use borrow.Author.Tests.{lt-leb}
use Rattle.bits.specs.Pick.{pick}
use Rattle.bits.specs.Every.{passes, passes_at}
use Rattle.stopping.specs.Follows.{ends_true}
use Rattle.instances.specs.Schemes.{scheme_of}
use Rattle.instances.specs.Limits.{most_assoc, most_text}
use Rattle.isap.specs.declared.Job.{Job}
use Rattle.isap.specs.Records.{sealing_of, front_of, back_of, total_of}
use Rattle.isap.specs.Slices.{ending_right, place_right, limits_right, stands_of}
use Rattle.isap.specs.Sofar.{Timed}
use Rattle.isap.proofs.Tests.{last_test}
use Rattle.isap.proofs.Job.stands.Goals as goal

-- the lengths of a record within its limits
lengths_fit : (j : Job) (b : Bool) → b ≡ limits_right j.instance j.direction j.assoc j.text → b ≡ true → (j.assoc ≤ most_assoc) × (j.text ≤ most_text)
unfolding limits_right
lengths_fit j b e h =
    let t = passes_at _ (sym e ∙ h) in
    (leb-true j.assoc most_assoc (t 3), leb-true j.text most_text (t 4))

-- the definition, from the four tests
four : (j : Job) (a b c d : Bool) → limits_right j.instance j.direction j.assoc j.text ≡ a → leb j.done (total_of scheme_of j) ≡ b → ending_right scheme_of j ≡ c → place_right scheme_of j ≡ d
    → stands_of scheme_of j ≡ passes (a ∷ b ∷ c ∷ d ∷ [])
unfolding stands_of
four j a b c d ea eb ec ed = λ i. passes (ea i ∷ eb i ∷ ec i ∷ ed i ∷ [])

-- the ending, by the two counts
ending_of_lem : (j : Job) (front back : ℕ) → Timed scheme_of j front back → (b : Bool) → b ≡ sealing_of j.direction
    → pick (eqb j.ending 2) (pick b false (eqb j.done front)) (eqb j.ending (pick (eqb j.done (front + back)) 1 0)) ≡ ending_right scheme_of j
unfolding ending_right
ending_of_lem j front back t b e =
    let right = ends_true (front_of scheme_of j) (back_of scheme_of j) j.done in
    (λ i. pick (eqb j.ending 2) (pick (e i) false (eqb j.done (t.front_is i))) (eqb j.ending (pick (eqb j.done (t.front_is i + t.back_is i)) 1 0)))
    ∙ ap (λ (k : ℕ). pick (eqb j.ending 2) (pick (sealing_of j.direction) false (eqb j.done (front_of scheme_of j))) (eqb j.ending k)) (sym right)

pub returns-then-not-limits_right : goal.returns-then-not-limits_right
returns-then-not-limits_right c =
    let j = c.args.self in
    sym (four j false _ _ _ (sym c.limits_right.ensures ∙ c.if-not-limits_right.true) refl refl refl ∙ unfold passes in refl)

pub of-counts-requires : goal.of-counts-requires
of-counts-requires c = lengths_fit c.args.self _ c.limits_right.ensures c.if-not-limits_right.false

pub returns-then-total-self : goal.returns-then-total-self
returns-then-total-self c =
    let j = c.args.self in
    let t = c.of-counts.ensures in
    sym
    (four j true false _ _ (sym c.limits_right.ensures ∙ c.if-not-limits_right.false) (lt-leb j.done (total_of scheme_of j) (omega (arith, t.front_is, t.back_is))) refl refl
    ∙ unfold passes in refl)

pub place_right-requires : goal.place_right-requires
place_right-requires c = lengths_fit c.args.self _ c.limits_right.ensures c.if-not-limits_right.false

pub returns-then-ending_right : goal.returns-then-ending_right
returns-then-ending_right c =
    let j = c.args.self in
    let t = c.of-counts.ensures in
    let e = ending_of_lem j _ _ t _ c.sealing.ensures in
    c.place_right.ensures
    ∙ sym
    (four j true true true _ (sym c.limits_right.ensures ∙ c.if-not-limits_right.false) (le-leb j.done (total_of scheme_of j) (omega (arith, t.front_is, t.back_is)))
    (sym (sym c.if-ending_right.true ∙ c.ending_right.ensures ∙ e)) refl
    ∙ unfold passes in sym (last_test (place_right scheme_of j)))

pub returns-else-ending_right : goal.returns-else-ending_right
returns-else-ending_right c =
    let j = c.args.self in
    let t = c.of-counts.ensures in
    let e = ending_of_lem j _ _ t _ c.sealing.ensures in
    c.if-ending_right.false
    ∙ sym
    (four j true true false _ (sym c.limits_right.ensures ∙ c.if-not-limits_right.false) (le-leb j.done (total_of scheme_of j) (omega (arith, t.front_is, t.back_is)))
    (sym (sym c.if-ending_right.false ∙ c.ending_right.ensures ∙ e)) refl
    ∙ unfold passes in refl)
