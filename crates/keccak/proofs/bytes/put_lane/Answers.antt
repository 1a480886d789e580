-- `keccak::bytes::put_lane` meets its contract: two stores in a row replace a part.
-- Assumes nothing.
use Rattle.std.proofs.Common.{List, [], ap, get_or, set, ℕ, ◌+◌, ◌%◌, ◌/◌, ◌∙◌, ◌∷◌}
use Rattle.std.specs.Int.{w16}
use Rattle.bits.specs.Library.{to_le_bytes_lem}
use Rattle.bits.specs.LittleEndian.{le_bytes}
use Rattle.bits.specs.Part.{stored-part}
use Rattle.keccak.proofs.bytes.put_lane.Goals as goal

pub returns : goal.returns
unfolding le_bytes
returns c =
    let v = c.args.v in
    let s = c.args.s.now in
    let i = c.args.i in
    ap (λ (b : List ℕ). set (set s i (get_or b 0 0)) (i + 1) (get_or b 1 0)) (c.to_le_bytes.ensures ∙ to_le_bytes_lem w16 v)
    ∙ stored-part s i (v % 256) (v / 256 % 256 ∷ []) c.requires
