-- `keccak::Lanes::with_first` meets its contract: the byte is the first lane's low byte (`proofs/Blocks.antt`).
-- Assumes nothing.
use Rattle.std.proofs.Common.{[], ap, arith, get_or, length, ℕ, ◌∙◌, ◌≡◌}
use Rattle.std.specs.Int.Bits.{bit_xor}
use Rattle.std.specs.Prelude.{set}
use Rattle.keccak.specs.Lanes.{bytes_of, lane}
use Rattle.keccak.proofs.Blocks.{byte_stored}
use Rattle.keccak.proofs.Owned.{long}
use Rattle.keccak.proofs.LanesTakesBits.with_first.Goals as goal

pub returns : goal.returns
returns c =
    let a = c.args.self.planes in
    let held = c.well_formed.0.1.1.0 in
    let l : length a ≡ 5 = held.1.0.1 in
    ap (λ (v : ℕ). bytes_of (set a 0 (set (get_or a 0 []) 0 (bit_xor (lane a 0 0) v)))) c.from.ensures
    ∙ byte_stored a c.args.v (omega (arith, l)) (omega (arith, long a held.0 0 (omega (arith, l)) held.1.1)) c.ranges.v.fits
