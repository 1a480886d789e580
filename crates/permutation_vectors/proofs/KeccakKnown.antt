-- The definition of Keccak-p[400] computed: fifty zeros after all twenty rounds. The Keccak team publishes this answer, as that of
-- Keccak-f[400] on zeros, in its file of intermediate values. That file could not be reached here: what vouches for the bytes is the
-- second program in tests/second. A round that is a function of functions reads 33 bits for each of its own, so the twenty are computed
-- with the state in bytes between any two of them, which is the same (`keccak_p-rounds`).
-- Assumes nothing.
use mathlib.Core.Path.{◌≡◌, refl, ◌∙◌}
use mathlib.Core.List.{List, [], ◌∷◌}
use Prim.Native.Nat.{ℕ}
use lib.ListN.{replicate}
use Rattle.bits.specs.Digit.{odd, bit}
use Rattle.bits.specs.Number.{number}
use Rattle.bits.specs.Bytes.{bytes-zeros}
use Rattle.bits.specs.Run.{turns, rounds}
use Rattle.keccak.specs.Fips202.{C, D, θ, offsets, offset, ρ, π, χ, start, shifted, register, rc, any, RC, ι, Rnd, string_bit, of_bytes, array_bit, array_byte, table, to_bytes, keccak_p, keccak_round}
use Rattle.keccak.specs.Laws.{keccak_p-rounds}

unfoldable pub answer : List ℕ
answer =
    0xf5 ∷ 0x09 ∷ 0xac ∷ 0x40 ∷ 0xa9 ∷ 0x0f ∷ 0xf5 ∷ 0x14 ∷ 0x9f ∷ 0xe8
    ∷ 0xa0 ∷ 0xec ∷ 0xd1 ∷ 0x5b ∷ 0x70 ∷ 0x78 ∷ 0xf0 ∷ 0xef ∷ 0x8f ∷ 0xbf
    ∷ 0x37 ∷ 0x03 ∷ 0x52 ∷ 0x60 ∷ 0x75 ∷ 0xdc ∷ 0xc9 ∷ 0x0e ∷ 0x76 ∷ 0xe7
    ∷ 0x46 ∷ 0x52 ∷ 0xa1 ∷ 0x59 ∷ 0x81 ∷ 0x5d ∷ 0x95 ∷ 0x6d ∷ 0x14 ∷ 0x6e
    ∷ 0x3e ∷ 0x63 ∷ 0xee ∷ 0x58 ∷ 0xff ∷ 0x71 ∷ 0x4c ∷ 0x71 ∷ 0x8e ∷ 0xb3 ∷ []

computed : rounds keccak_round 0 20 (replicate 50 0) ≡ answer
unfolding rounds turns answer odd bit number C D θ offsets offset ρ π χ start shifted register rc any RC ι Rnd string_bit of_bytes array_bit array_byte table to_bytes keccak_round
computed = refl

pub zeros_20 : keccak_p 20 (replicate 50 0) ≡ answer
zeros_20 = keccak_p-rounds 20 (replicate 50 0) refl (bytes-zeros 50) ∙ computed
