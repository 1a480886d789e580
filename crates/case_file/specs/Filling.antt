-- The sequence of a seed: what the contracts of fillings cite.
-- Assumes nothing.
use Rattle.std.specs.Prelude.{List, [], ◌∷◌, ◌++◌, ℕ, zero, suc, ◌*◌, ◌/◌, ◌%◌, ◌^◌, bit_xor}

abbrev pub xor_left : ℕ → ℕ → ℕ
xor_left n x = bit_xor x (x * 2 ^ n % 2 ^ 64)

-- a step: x ^= x << 13, x ^= x >> 7, x ^= x << 17, on 64 bits
abbrev pub stirred : ℕ → ℕ
stirred x = let a = xor_left 13 x in let b = bit_xor a (a / 2 ^ 7) in xor_left 17 b

-- n steps
unfoldable pub steps : ℕ → ℕ → ℕ
steps zero x = x
steps (suc n) x = stirred (steps n x)

-- the lowest byte after each of n steps
unfoldable pub lowest_bytes : ℕ → ℕ → List ℕ
lowest_bytes zero x = []
lowest_bytes (suc n) x = lowest_bytes n x ++ (steps (suc n) x % 256 ∷ [])
