use Rattle.std.proofs.Common.{Bool, List, ap, arith, length, sym, ℕ, ◌∙◌, ◌≡◌}
use Rattle.stopping.specs.Parts.{Shape}
use Rattle.stopping.specs.PlaceLaws.{start_of, start_end}
use Rattle.stopping.specs.Places.{place}
use Rattle.scheme.specs.Scheme.{all_shapes, parts_of}
use Rattle.scheme.specs.Lawful.{all_some}
use Rattle.instances.specs.Schemes.{scheme_of, lawful-scheme}
use Rattle.plan.specs.Planned.{placed}
use Rattle.plan.proofs.Walk.{starts_here, starts_on}
use Rattle.plan.proofs.outlines.Outline.first_from.Goals as goal

all_of : (i : ℕ) (s : Bool) (a m parts : ℕ) → parts ≡ parts_of (scheme_of i) s → parts ≡ length (all_shapes (scheme_of i) s a m)
all_of i s a m parts e = e ∙ sym ((lawful-scheme i).fixed s a m)

-- at the end of the parts
at_end : (hs : List Shape) (j parts : ℕ) → j ≡ parts → parts ≡ length hs → start_of hs j ≡ place parts 0 0
at_end hs j parts e f = ap (start_of hs) (e ∙ f) ∙ start_end hs ∙ ap (λ (n : ℕ). place n 0 0) (sym f)

pub returns-then-count_at-gt0 : goal.returns-then-count_at-gt0
returns-then-count_at-gt0 c =
    let a = c.args in
    let all = all_of a.self.instance a.self.sealing a.self.assoc a.self.text c.parts_of-parts.result c.parts_of-parts.ensures.0 in
    c.start_of.ensures
    ∙ ap placed
    (sym
    (c.loop-j.invariant
    ∙ starts_here (all_shapes (scheme_of a.self.instance) a.self.sealing a.self.assoc a.self.text) (all_some (scheme_of a.self.instance) (lawful-scheme a.self.instance) a.self.sealing a.self.assoc a.self.text) c.loop-j.j
    c.count_at.result (omega (arith, all)) c.count_at.ensures.0 c.if-count_at-gt0.true))

pub loop-j-preserved : goal.loop-j-preserved
loop-j-preserved c =
    let a = c.args in
    let all = all_of a.self.instance a.self.sealing a.self.assoc a.self.text c.parts_of-parts.result c.parts_of-parts.ensures.0 in
    c.loop-j.invariant
    ∙ starts_on (all_shapes (scheme_of a.self.instance) a.self.sealing a.self.assoc a.self.text) (all_some (scheme_of a.self.instance) (lawful-scheme a.self.instance) a.self.sealing a.self.assoc a.self.text) c.loop-j.j
    c.count_at.result (omega (arith, all)) c.count_at.ensures.0 (omega arith)

pub returns : goal.returns
returns c =
    let a = c.args in
    c.start_of-2.ensures
    ∙ ap placed
    (sym
    (c.loop-j.invariant
    ∙ at_end (all_shapes (scheme_of a.self.instance) a.self.sealing a.self.assoc a.self.text) c.loop-j.j c.parts_of-parts.result (omega arith)
    (all_of a.self.instance a.self.sealing a.self.assoc a.self.text c.parts_of-parts.result c.parts_of-parts.ensures.0)))
