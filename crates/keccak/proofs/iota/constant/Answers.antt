-- `keccak::iota::constant` meets its contract: the masks keep the product and the constant within their types.
-- Assumes nothing.
use Rattle.std.proofs.Common.{rules}
use Rattle.keccak.specs.Ahead.{spread}
use Rattle.keccak.proofs.iota.constant.Goals as goal

pub returns : goal.returns
unfolding spread
returns c = search rules
