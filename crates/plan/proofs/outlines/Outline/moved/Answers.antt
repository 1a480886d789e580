-- `plan::outlines::Outline::moved` meets its contract: inside the call, to the next call, or to the next part.
-- Assumes nothing.
use Rattle.std.proofs.Common.{ap, arith, refl, sym, ◌+◌, ◌∙◌, ◌≡◌}
use Rattle.stopping.specs.Places.{place}
use Rattle.scheme.specs.Scheme.{all_shapes}
use Rattle.scheme.specs.Lawful.{all_some}
use Rattle.instances.specs.Schemes.{scheme_of, lawful-scheme}
use Rattle.plan.specs.Planned.{placed}
use Rattle.plan.proofs.ByScheme.{parts_most}
use Rattle.plan.proofs.Walk.{moved_within, moved_call, moved_part}
use Rattle.plan.proofs.outlines.Outline.moved.Goals as goal

pub returns-then-round-rounds : goal.returns-then-round-rounds
returns-then-round-rounds c n l e =
    let a = c.args in
    ap placed
    (sym
    (moved_within (all_shapes (scheme_of a.self.instance) a.self.sealing a.self.assoc a.self.text) (all_some (scheme_of a.self.instance) (lawful-scheme a.self.instance) a.self.sealing a.self.assoc a.self.text)
    n a.count (place a.at.part a.at.call a.at.round) a.rounds _ c.requires.1 refl l e c.if-round-rounds.true))

pub returns-then-call-calls : goal.returns-then-call-calls
returns-then-call-calls c n l e =
    let q = c.count_at-calls in
    let a = c.args in
    let all : a.at.round + a.count ≡ a.rounds = omega (arith, c.if-round-rounds.false, c.requires.1, c.requires.0.is_round) in
    ap placed
    (sym
    (moved_call (all_shapes (scheme_of a.self.instance) a.self.sealing a.self.assoc a.self.text) (all_some (scheme_of a.self.instance) (lawful-scheme a.self.instance) a.self.sealing a.self.assoc a.self.text)
    n a.count (place a.at.part a.at.call a.at.round) a.rounds q.result c.requires.1 q.ensures.0 l e all c.if-call-calls.true))

pub overflow_add-part : goal.overflow_add-part
overflow_add-part c =
    omega (arith, c.requires.0.is_part, parts_most c.args.self.instance c.args.self.sealing)

pub returns : goal.returns
returns c n l e =
    let q = c.count_at-calls in
    let a = c.args in
    let all : a.at.round + a.count ≡ a.rounds = omega (arith, c.if-round-rounds.false, c.requires.1, c.requires.0.is_round) in
    let last : a.at.call + 1 ≡ q.result = omega (arith, c.if-call-calls.false, q.ensures.0, c.requires.0.is_call) in
    c.first_from.ensures
    ∙ ap placed
    (sym
    (moved_part (all_shapes (scheme_of a.self.instance) a.self.sealing a.self.assoc a.self.text) (all_some (scheme_of a.self.instance) (lawful-scheme a.self.instance) a.self.sealing a.self.assoc a.self.text)
    n a.count (place a.at.part a.at.call a.at.round) a.rounds q.result c.requires.1 q.ensures.0 l e all last))
