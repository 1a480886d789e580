-- `clyde::layers::mixed` meets its contract: the library's rotation is this repository's (`bits`, `rotate_right_lem`).
-- Assumes nothing.
use Rattle.std.proofs.Common.{ap, bit_xor, ◌∙◌}
use Rattle.std.specs.Int.{w32}
use Rattle.bits.specs.Library.{rotate_right_lem}
use Rattle.clyde.proofs.layers.mixed.Goals as goal

pub returns : goal.returns
returns c = ap (bit_xor c.args.x) (c.rotate_right.ensures ∙ rotate_right_lem w32 c.args.y c.args.n c.requires c.ranges.y.fits)
