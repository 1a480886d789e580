-- `sponge::enter` meets its contract: what is found is what the part says (`entered_by`).
-- Assumes nothing.
use Rattle.scheme.specs.Machine.{given}
use Rattle.plan.specs.KindNumbers.{kind_number}
use Rattle.sponge.specs.Entering.{entered_by}
use Rattle.sponge.proofs.enter.Goals as goal

pub returns : goal.returns
returns c =
    let a = c.args in
    entered_by a.instance (kind_number a.kind) a.call (given a.sealing a.key a.nonce a.assoc.now a.text.now) a.state a.session a.out.now
    _ _ c.requires.is_kind c.enter_state-begun.ensures c.enter_session.ensures
