-- `plan::numbers::rekey_rounds` meets its contract: the formula R.
-- Assumes nothing.
use Rattle.std.proofs.Common.{arith}
use Rattle.plan.proofs.Counting.{rekey_is}
use Rattle.plan.proofs.numbers.rekey_rounds.Goals as goal

pub returns : goal.returns
returns c =
    let q = c.numbers_of-q in
    (rekey_is c.args.instance q.result q.ensures, omega (arith, q.ensures.sk_most, q.ensures.sb_most))
