-- The definition of Shadow-512 computed, on the bytes 0, 1, .., 63. The answer is the second program's (tests/second; it stands in
-- crates/permutations/stdout, for the third state), written bit by bit from document 004's text; no vector of Spook's authors was at hand.
-- Assumes nothing.
use mathlib.Core.Path.{◌≡◌, refl}
use mathlib.Core.List.{[], ◌∷◌}
use Rattle.bits.specs.Digit.{odd, bit}
use Rattle.bits.specs.Number.{number}
use Rattle.bits.specs.Rotate.{rotl}
use Rattle.bits.specs.LittleEndian.{le_bytes, from_le}
use Rattle.bits.specs.Run.{turns}
use Rattle.circulant.specs.Parity.{parity}
use Rattle.circulant.specs.Circulant.{line, times}
use Rattle.clyde.specs.Components.{add, sbox_table, sbox, column, substituted, s_layer, lbox, on_pairs, register_step, W}
use Rattle.clyde.specs.Clyde.{rows_of, bytes_of}
use Rattle.shadow.specs.Shadow.{each, sl_layer, matrix, d_bit, d_row, d_rows, d_bundle, d_layer, shifted, with_constant, round_a, round_b, step, shadow}
use Rattle.shadow.specs.OnBytes.{bundles_of, bundle_bytes}
use Rattle.permutation_vectors.proofs.Counting.{counting}

pub counting_12 : bundle_bytes (shadow (bundles_of (counting 0 64))) ≡
    0x68 ∷ 0x3f ∷ 0xa9 ∷ 0xf9 ∷ 0x00 ∷ 0xf6 ∷ 0x58 ∷ 0xa2 ∷ 0x71 ∷ 0x66
    ∷ 0xe2 ∷ 0xcc ∷ 0x1b ∷ 0xb4 ∷ 0x0d ∷ 0xf8 ∷ 0x32 ∷ 0xd2 ∷ 0x70 ∷ 0xf8
    ∷ 0xc0 ∷ 0x10 ∷ 0x88 ∷ 0xbf ∷ 0xeb ∷ 0x92 ∷ 0x43 ∷ 0x2f ∷ 0x0d ∷ 0xb2
    ∷ 0xe6 ∷ 0x9c ∷ 0x73 ∷ 0xc6 ∷ 0x4d ∷ 0x2a ∷ 0x3c ∷ 0xf3 ∷ 0x28 ∷ 0x49
    ∷ 0xbc ∷ 0x6e ∷ 0xe1 ∷ 0xbe ∷ 0x09 ∷ 0x2a ∷ 0x42 ∷ 0x68 ∷ 0xad ∷ 0x56
    ∷ 0xf0 ∷ 0x78 ∷ 0xcb ∷ 0x2b ∷ 0x87 ∷ 0x92 ∷ 0x44 ∷ 0x77 ∷ 0xcc ∷ 0x15
    ∷ 0xcd ∷ 0x56 ∷ 0x52 ∷ 0x38 ∷ []
unfolding odd bit number rotl le_bytes from_le turns parity line times add sbox_table sbox column substituted s_layer lbox on_pairs register_step W rows_of bytes_of each sl_layer matrix d_bit d_row d_rows d_bundle d_layer shifted with_constant round_a round_b step shadow bundles_of bundle_bytes
counting_12 = refl
