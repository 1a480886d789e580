-- Four strings, one behind the other.
use Rattle.std.proofs.Common.{◌<◌, ap, arith, rules}
use Rattle.plan.specs.declared.Planned.{Planned}
use Rattle.plan.specs.PlanLaws.{plan_within}
use Rattle.planning.specs.Lines.{rest, line}
use Rattle.planning.specs.PutLaws.{put_then, put_as}
use Rattle.planning.proofs.lines.put_plan.Goals as goal

pub put_rest-requires : goal.put_rest-requires
put_rest-requires c =
    let w = plan_within c.from-i.result c.from-a.result c.from-m.result in
    let e = c.plan.ensures in
    let n : c.plan.result.number < 10000000 = omega (arith, ap Planned.number e, w.number) in
    let v : c.plan.result.verify < 10000000 = omega (arith, ap Planned.verify e, w.verify) in
    let t : c.plan.result.total < 10000000 = omega (arith, ap Planned.total e, w.total) in
    (n, v, t, search rules)

pub returns : goal.returns
unfolding line
returns c =
    let tail = put_then c.put_ended-fourth.ensures (put_as {k = 16} (ap rest c.plan.ensures) c.put_rest.ensures (omega arith)) (search rules) in
    let all = put_then c.put_ended-second.ensures (put_then c.put_ended-third.ensures tail (search rules)) (search rules) in
    put_as (λ j. line (c.from-i.ensures j) (c.from-a.ensures j) (c.from-m.ensures j)) all (omega arith)
