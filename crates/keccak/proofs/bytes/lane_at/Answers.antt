-- `keccak::bytes::lane_at` meets its contract: the library's number of the two bytes is the lane.
-- Assumes nothing.
use Rattle.std.proofs.Common.{refl, sym, ap, ◌∙◌}
use Rattle.std.specs.Int.{w16}
use Rattle.bits.specs.Library.{from_le_bytes_lem}
use Rattle.bits.specs.LittleEndian.{from_le}
use Rattle.bits.specs.Part.{part-elems}
use Rattle.keccak.proofs.bytes.lane_at.Goals as goal

pub returns : goal.returns
returns c =
    c.from_le_bytes.ensures ∙ from_le_bytes_lem w16 _ refl ∙ ap from_le (sym (part-elems c.args.s.now c.args.i 1 c.requires))
