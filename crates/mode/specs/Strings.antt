-- A string's padding and its bits, as ISAP's algorithms use them.
-- Assumes nothing.
use Rattle.std.specs.Prelude.{Bool, false, List, [], ◌∷◌, ◌++◌, ℕ, ◌-◌, ◌*◌, ◌%◌, length, get_or, replicate}
use Rattle.bits.specs.Digit.{bit}
use Rattle.bits.specs.Number.{value}
use Rattle.bits.specs.Strings.{xor_at}

-- s ‖ 1 ‖ 0*: one 1 bit, and zeros up to a multiple of b bytes
unfoldable pub padded : ℕ → List ℕ → List ℕ
padded b s = s ++ (128 ∷ replicate (b - 1 - length s % b) 0)

-- ---- bits: the top bit of each byte first

unfoldable pub bits_of : List ℕ → List Bool
bits_of [] = []
bits_of (x ∷ xs) = bit x 7 ∷ bit x 6 ∷ bit x 5 ∷ bit x 4 ∷ bit x 3 ∷ bit x 2 ∷ bit x 1 ∷ bit x 0 ∷ bits_of xs

unfoldable pub bit_at : List ℕ → ℕ → Bool
bit_at s i = get_or (bits_of s) i false

-- a bit xored into a state's first bit
unfoldable pub xor_bit : Bool → List ℕ → List ℕ
xor_bit y s = xor_at 0 (value y * 128) s
