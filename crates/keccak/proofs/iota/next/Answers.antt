-- `keccak::iota::next` meets its contract.
-- Assumes nothing.
use Rattle.std.proofs.Common.{rules}
use Rattle.keccak.specs.Ahead.{later}
use Rattle.keccak.proofs.iota.next.Goals as goal

pub returns : goal.returns
unfolding later
returns c = search rules
