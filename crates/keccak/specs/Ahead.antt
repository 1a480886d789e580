-- A reader may skip this file: what `rounds` (crate engine) promises speaks of bytes alone. It is how the code holds the shift register of
-- algorithm 5: not its eight bits, but the 32 bits that it gives next, as a number; and what the private functions make of one. That these
-- are the register's bits, and the constants', is shown where the code is proved, at every round index.
-- Assumes nothing.
use Rattle.std.specs.Prelude.{ℕ, ◌+◌, ◌-◌, ◌*◌, ◌/◌, ◌%◌, ◌^◌}
use Rattle.std.specs.Int.Bits.{bit_and, bit_or, bit_xor}
use Rattle.bits.specs.Number.{number}
use Rattle.keccak.specs.Fips202.{rc}

-- what it gives from round index i on: digit k is rc(7i + k)
unfoldable pub ahead : ℕ → ℕ
ahead i = number 32 (λ k. rc (7 * i + k))

-- from the next round index on: each new bit is the sum of those 10 and 21 steps before it
unfoldable pub later : ℕ → ℕ
later w = bit_or (w / 2 ^ 7) (bit_xor (w / 2 ^ 11) (w / 2 ^ 22) * 2 ^ 25 % 2 ^ 32)

-- from n rounds earlier on: each new bit is the sum of those 24 and 25 steps after it
unfoldable pub earlier : ℕ → ℕ → ℕ
earlier n w = bit_or (w * 2 ^ (7 * n) % 2 ^ 32) (bit_xor (w * 2 ^ 7 % 2 ^ 32) (w * 2 ^ 8 % 2 ^ 32) / 2 ^ (32 - 7 * n))

-- the constant: the digits 0 to 4 at the places 0, 1, 3, 7 and 15
unfoldable pub spread : ℕ → ℕ
spread w = bit_or (bit_and w 3) (bit_and (bit_and w 28 * 0x812) 0x8088)
