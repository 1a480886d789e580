-- `plan::numbers::verify_rounds` meets its contract: the formula V, within the limits.
-- Assumes nothing.
use Rattle.std.proofs.Common.{arith}
use Rattle.instances.specs.Limits.{verify_most}
use Rattle.plan.proofs.Counting.{verify_is}
use Rattle.plan.proofs.numbers.verify_rounds.Goals as goal

pub returns : goal.returns
returns c =
    let q = c.numbers_of-q in
    let e = verify_is c.args.outline.instance q.result q.ensures c.args.outline.assoc c.args.outline.text c.rekey_rounds.result c.rekey_rounds.ensures.0 in
    (e, omega (arith, e, verify_most c.args.outline.instance c.args.outline.assoc c.args.outline.text c.args.outline.assoc_limit c.args.outline.text_limit))
