-- `ascon::Words::with_first` meets its contract: the byte is a block with seven zeros behind it (`proofs/Blocks.antt`).
-- Assumes nothing.
use Rattle.std.proofs.Common.{List, ap, arith, bit_xor, lit≤, refl, replicate, shl_exact, ℕ, ◌%◌, ◌*◌, ◌^◌, ◌∙◌, ◌∷◌, ◌≡◌}
use Rattle.bits.specs.Bytes.{cons_bytes, bytes-zeros}
use Rattle.bits.specs.BigEndian.{from_be}
use Rattle.bits.specs.Xors.{xors-first}
use Rattle.ascon.specs.Permutation.{bytes_of}
use Rattle.ascon.specs.Laws.{length-bytes_of}
use Rattle.ascon.proofs.Blocks.{with_first, block_in_lem}
use Rattle.ascon.proofs.WordsTakesBits.with_first.Goals as goal

pub returns : goal.returns
unfolding from_be
returns c =
    let w = c.args.self in
    let v = c.args.v in
    let byte = c.ranges.v.fits in
    let block : List ℕ = v ∷ replicate 7 0 in
    let top : v * 2 ^ 56 % 2 ^ 64 ≡ from_be block = shl_exact 8 56 64 byte (lit≤ tt) ∙ omega arith in
    ap (λ (y : ℕ). bytes_of (with_first w (bit_xor w.x0 y))) top
    ∙ block_in_lem w block refl (cons_bytes byte (bytes-zeros 7))
    ∙ xors-first v 7 (bytes_of w) (omega (arith, length-bytes_of w))
