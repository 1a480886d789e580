-- The definitions of Clyde-128 and of its inverse computed, on the block 0, 1, .., 15, the key 66, .., 81 and the tweak 82, .., 97. The
-- answers are the second program's (tests/second; they stand in crates/permutations/stdout, for the third state), written bit by bit from
-- document 004's text; no vector of Spook's authors was at hand.
-- Assumes nothing.
use mathlib.Core.Path.{◌≡◌, refl}
use mathlib.Core.List.{[], ◌∷◌}
use Rattle.bits.specs.Digit.{odd, bit}
use Rattle.bits.specs.Number.{number}
use Rattle.bits.specs.Rotate.{rotr, rotl}
use Rattle.bits.specs.LittleEndian.{le_bytes, from_le}
use Rattle.bits.specs.Run.{turns}
use Rattle.circulant.specs.Parity.{parity}
use Rattle.circulant.specs.Circulant.{line, times}
use Rattle.clyde.specs.Back.{back}
use Rattle.clyde.specs.Components.{add, sbox_table, sbox, column, substituted, s_layer, s_inverse, lbox, lbox_inverse, on_pairs, register_step, W}
use Rattle.clyde.specs.Clyde.{rows_of, bytes_of, delta, TK, round, step, clyde, round_inverse, step_inverse, clyde_inverse, clyde_bytes, clyde_bytes_inverse}
use Rattle.permutation_vectors.proofs.Counting.{counting}

pub forward : clyde_bytes (counting 66 16) (counting 82 16) (counting 0 16) ≡
    0xe0 ∷ 0x2b ∷ 0x26 ∷ 0x6b ∷ 0x89 ∷ 0xdb ∷ 0x5f ∷ 0x87 ∷ 0xb5 ∷ 0xbd
    ∷ 0x20 ∷ 0xbc ∷ 0xce ∷ 0x06 ∷ 0x2b ∷ 0x03 ∷ []
unfolding odd bit number rotl le_bytes from_le turns parity line times add sbox_table sbox column substituted s_layer lbox on_pairs register_step W rows_of bytes_of delta TK round step clyde clyde_bytes
forward = refl

pub backward : clyde_bytes_inverse (counting 66 16) (counting 82 16) (counting 0 16) ≡
    0x59 ∷ 0x79 ∷ 0x76 ∷ 0xd7 ∷ 0x71 ∷ 0x47 ∷ 0x36 ∷ 0x77 ∷ 0x35 ∷ 0x1b
    ∷ 0x5d ∷ 0xd8 ∷ 0x1f ∷ 0xc6 ∷ 0xf5 ∷ 0x75 ∷ []
unfolding odd bit number rotr le_bytes from_le back add s_inverse lbox_inverse on_pairs register_step W rows_of bytes_of delta TK round_inverse step_inverse clyde_inverse clyde_bytes_inverse
backward = refl
