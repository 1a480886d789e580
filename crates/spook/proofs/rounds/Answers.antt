-- `spook::rounds` meets its contract: what is found is what the part says (`turned`).
-- Assumes nothing.
use Rattle.s1p.specs.Spook.{spook}
use Rattle.spook.specs.Turning.{within}
use Rattle.spook.proofs.rounds.Goals as goal

pub turn-requires : goal.turn-requires
turn-requires c = within spook c.args.sealing c.args.part c.args.from c.args.count c.requires
