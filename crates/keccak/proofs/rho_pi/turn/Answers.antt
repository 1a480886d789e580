-- `keccak::rho_pi::turn` meets its contract: the library's rotation turns a lane.
-- Assumes nothing.
use Rattle.std.proofs.Common.{◌∙◌}
use Rattle.std.specs.Int.{w16}
use Rattle.bits.specs.Library.{rotate_left_lem}
use Rattle.keccak.proofs.rho_pi.turn.Goals as goal

pub returns : goal.returns
returns c = c.rotate_left.ensures ∙ rotate_left_lem w16 c.args.v c.args.by c.requires c.ranges.v.fits
