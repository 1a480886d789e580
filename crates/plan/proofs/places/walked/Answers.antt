use Rattle.std.proofs.Common.{Bool, ap, arith, length, subst, sym, ℕ, ◌∙◌, ◌≡◌}
use Rattle.scheme.specs.Scheme.{all_shapes, parts_of}
use Rattle.instances.specs.Schemes.{scheme_of, lawful-scheme}
use Rattle.plan.specs.Planned.{placed}
use Rattle.plan.proofs.Walk.{Left, left_none, found, passed}
use Rattle.plan.proofs.places.walked.Goals as goal

-- the parts that the code counts are the shapes'
all_of : (i : ℕ) (s : Bool) (a m parts : ℕ) → parts ≡ parts_of (scheme_of i) s → parts ≡ length (all_shapes (scheme_of i) s a m)
all_of i s a m parts e = e ∙ sym ((lawful-scheme i).fixed s a m)

pub returns-then-left-cells : goal.returns-then-left-cells
returns-then-left-cells c =
    let a = c.args in
    let all = all_of a.outline.instance a.outline.sealing a.outline.assoc a.outline.text c.parts_of-parts.result c.parts_of-parts.ensures.0 in
    ap placed
    (sym
    (found (all_shapes (scheme_of a.outline.instance) a.outline.sealing a.outline.assoc a.outline.text) a.n c.loop-part.part c.loop-part.left c.count_at.result c.rounds_at-rounds.result
    (omega (arith, all)) c.loop-part.invariant c.count_at.ensures.0 (c.rounds_at-rounds.ensures.0 a.outline.assoc a.outline.text) c.if-left-cells.true))

pub loop-part-preserved : goal.loop-part-preserved
loop-part-preserved c =
    let a = c.args in
    let all = all_of a.outline.instance a.outline.sealing a.outline.assoc a.outline.text c.parts_of-parts.result c.parts_of-parts.ensures.0 in
    passed (all_shapes (scheme_of a.outline.instance) a.outline.sealing a.outline.assoc a.outline.text) a.n c.loop-part.part c.loop-part.left c.count_at.result c.rounds_at-rounds.result
    (omega (arith, all)) c.loop-part.invariant c.count_at.ensures.0 (c.rounds_at-rounds.ensures.0 a.outline.assoc a.outline.text) c.if-left-cells.false

pub returns : goal.returns
returns c =
    let a = c.args in
    let hs = all_shapes (scheme_of a.outline.instance) a.outline.sealing a.outline.assoc a.outline.text in
    let end : c.loop-part.part ≡ c.parts_of-parts.result = omega arith in
    c.start_of.ensures
    ∙ ap placed
    (sym
    (left_none hs a.n c.parts_of-parts.result c.loop-part.left (all_of a.outline.instance a.outline.sealing a.outline.assoc a.outline.text c.parts_of-parts.result c.parts_of-parts.ensures.0)
    (subst (λ (j : ℕ). Left hs a.n j c.loop-part.left) end c.loop-part.invariant)))
