-- `calls::of_isap::decide` meets its contract.
-- Assumes nothing.
use Rattle.calls.proofs.IsapParts.{decides}
use Rattle.calls.proofs.of_isap.decide.Goals as goal

pub returns : goal.returns
returns c session = let a = c.args in decides a.instance a.state session a.tag _ c.same_front.ensures
