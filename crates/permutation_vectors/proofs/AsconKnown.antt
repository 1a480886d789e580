-- The definition of Ascon-p computed: the state of zeros after twelve rounds, and the state 0, 1, .., 39 after one. The answers are the
-- second program's (tests/second); nobody is known to have published these.
-- Assumes nothing.
use mathlib.Core.Path.{◌≡◌, refl}
use mathlib.Core.List.{[], ◌∷◌}
use lib.ListN.{replicate}
use Rattle.bits.specs.Digit.{odd, bit}
use Rattle.bits.specs.Number.{number}
use Rattle.bits.specs.Rotate.{rotr}
use Rattle.bits.specs.BigEndian.{be_bytes, from_be}
use Rattle.bits.specs.Run.{turns, rounds}
use Rattle.permutation_vectors.proofs.Counting.{counting}
use Rattle.ascon.specs.Permutation.{constants, p_c, sbox_table, sbox, five, column, substituted, p_s, sigma, p_l, p, words_of, bytes_of, ascon_p}

pub zeros_12 : ascon_p 12 (replicate 40 0) ≡
    0x78 ∷ 0xea ∷ 0x7a ∷ 0xe5 ∷ 0xcf ∷ 0xeb ∷ 0xb1 ∷ 0x08 ∷ 0x9b ∷ 0x9b
    ∷ 0xfb ∷ 0x85 ∷ 0x13 ∷ 0xb5 ∷ 0x60 ∷ 0xf7 ∷ 0x69 ∷ 0x37 ∷ 0xf8 ∷ 0x3e
    ∷ 0x03 ∷ 0xd1 ∷ 0x1a ∷ 0x50 ∷ 0x3f ∷ 0xe5 ∷ 0x3f ∷ 0x36 ∷ 0xf2 ∷ 0xc1
    ∷ 0x17 ∷ 0x8c ∷ 0x04 ∷ 0x5d ∷ 0x64 ∷ 0x8e ∷ 0x4d ∷ 0xef ∷ 0x12 ∷ 0xc9 ∷ []
unfolding odd bit number rotr be_bytes from_be rounds turns constants p_c sbox_table sbox five column substituted p_s sigma p_l p words_of bytes_of ascon_p
zeros_12 = refl

pub counting_1 : ascon_p 1 (counting 0 40) ≡
    0xe0 ∷ 0x99 ∷ 0x86 ∷ 0x73 ∷ 0x24 ∷ 0x55 ∷ 0x46 ∷ 0xf7 ∷ 0x89 ∷ 0x89
    ∷ 0x89 ∷ 0x89 ∷ 0x1f ∷ 0x89 ∷ 0x8b ∷ 0x9a ∷ 0x97 ∷ 0x3b ∷ 0x3b ∷ 0x3b
    ∷ 0x3b ∷ 0x3b ∷ 0x3b ∷ 0x54 ∷ 0x28 ∷ 0x1f ∷ 0x3a ∷ 0x7b ∷ 0x3d ∷ 0xfd
    ∷ 0xbd ∷ 0x37 ∷ 0x47 ∷ 0xcb ∷ 0x4a ∷ 0xcc ∷ 0x49 ∷ 0xc5 ∷ 0x44 ∷ 0xc2 ∷ []
unfolding odd bit number rotr be_bytes from_be rounds turns constants p_c sbox_table sbox five column substituted p_s sigma p_l p words_of bytes_of ascon_p
counting_1 = refl
