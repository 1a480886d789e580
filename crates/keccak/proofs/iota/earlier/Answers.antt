-- `keccak::iota::earlier` meets its contract: its shifts are those of the definition.
-- Assumes nothing.
use Rattle.std.proofs.Common.{rules}
use Rattle.keccak.specs.Ahead.{earlier}
use Rattle.keccak.proofs.iota.earlier.Goals as goal

pub returns : goal.returns
unfolding earlier
returns c = search rules
