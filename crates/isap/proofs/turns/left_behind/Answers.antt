-- `isap::turns::left_behind` meets its contract.
-- Assumes nothing.
use Rattle.instances.specs.Schemes.{scheme_of}
use Rattle.isap.specs.Turns.{left_not, left_last}
use Rattle.isap.proofs.turns.left_behind.Goals as goal

pub returns-then-not-last : goal.returns-then-not-last
returns-then-not-last c =
    let a = c.args in
    rw c.if-not-last.true (left_not scheme_of a.job a.assoc.now a.text.now a.out.now a.state)

pub returns : goal.returns
returns c =
    let l = c.leave in
    let a = c.args in
    rw c.if-not-last.false (left_last scheme_of a.job a.assoc.now a.text.now a.out.now a.state _ l.result (rw c.sealing.ensures at l.ensures))
