-- `clyde::bytes::row_at` meets its contract (`bits`, `from_le_bytes_lem`).
-- Assumes nothing.
use Rattle.std.proofs.Common.{ap, get_or, refl, sym, ◌∷◌, ◌∙◌}
use Rattle.std.specs.Int.{w32}
use Rattle.bits.specs.LittleEndian.{from_le}
use Rattle.bits.specs.Library.{from_le_bytes_lem}
use Rattle.bits.specs.Part.{elems, part-elems}
use Rattle.clyde.proofs.bytes.row_at.Goals as goal

pub returns : goal.returns
returns c =
    let s = c.args.s.now in
    let at = c.args.at in
    c.from_le_bytes.ensures
    ∙ from_le_bytes_lem w32 (get_or s at 0 ∷ elems s at 1 3) refl
    ∙ ap from_le (sym (part-elems s at 3 c.requires))
