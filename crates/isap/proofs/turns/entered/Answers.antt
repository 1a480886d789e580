-- `isap::turns::entered` meets its contract.
-- Assumes nothing.
use Rattle.instances.specs.Schemes.{scheme_of}
use Rattle.isap.specs.Turns.{meets-later, meets-first}
use Rattle.isap.proofs.turns.entered.Goals as goal

pub returns-then-at-ne0 : goal.returns-then-at-ne0
returns-then-at-ne0 c =
    let a = c.args in
    meets-later scheme_of a.job a.assoc.now a.text.now a.out.now c.if-at-ne0.true

pub returns : goal.returns
returns c =
    let a = c.args in
    meets-first scheme_of a.job a.assoc.now a.text.now a.out.now c.enter.result.state c.enter.result.session c.if-at-ne0.false (rw c.sealing.ensures at c.enter.ensures)
