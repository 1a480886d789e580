-- `ascon::mix` meets its contract: its turns, one inside the other, are those of the definition (`proofs/Turns.antt`).
-- Assumes nothing.
use Rattle.std.proofs.Common.{ap, arith, bit_xor, w64, ℕ, ◌-◌, ◌∙◌, ◌≡◌}
use Rattle.std.specs.Int.{rotate_right}
use Rattle.std.proofs.lemmas.Nat.{xor_lt}
use Rattle.bits.specs.Rotate.{rotr, rotr_lt}
use Rattle.bits.specs.Library.{rotate_right_lem}
use Rattle.ascon.proofs.Turns.{nested}
use Rattle.ascon.proofs.mix.Goals as goal

pub returns : goal.returns
returns c =
    let x = c.args.x in
    let a = c.args.a in
    let b = c.args.b in
    let fits = c.ranges.x.fits in
    let inner : ℕ = bit_xor x (rotr 64 (b - a) x) in
    let turned : c.rotate_right.result ≡ rotr 64 (b - a) x = c.rotate_right.ensures ∙ rotate_right_lem w64 x (b - a) (omega arith) fits in
    let round = rotate_right_lem w64 inner a (omega arith) (xor_lt 64 x (rotr 64 (b - a) x) fits (rotr_lt 64 (b - a) x)) in
    ap (bit_xor x) (c.rotate_right-2.ensures ∙ ap (λ (y : ℕ). rotate_right w64 (bit_xor x y) a) turned ∙ round)
    ∙ nested fits a b c.requires.1
