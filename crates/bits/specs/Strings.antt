-- Byte strings, as the papers' algorithms use them. What is done to a state is done to its first bytes, so that the buffer that holds it
-- may be longer: what lies beyond is neither read nor changed.
-- Assumes nothing.
use Rattle.std.specs.Prelude.{Bool, true, false, List, [], ◌∷◌, ◌++◌, ℕ, zero, suc, ◌*◌, eqb, length, get_or, take, drop, set}
use Rattle.std.specs.Int.Bits.{bit_xor}
use Rattle.bits.specs.Pick.{pick}
use Rattle.bits.specs.Xors.{xors}

-- (Sr ⊕ x) ‖ Sc: a string xored into the first bytes of a state
unfoldable pub xor_into : List ℕ → List ℕ → List ℕ
xor_into xs s = xors s xs ++ drop (length xs) s

-- a number xored into one byte
unfoldable pub xor_at : ℕ → ℕ → List ℕ → List ℕ
xor_at i v s = set s i (bit_xor (get_or s i 0) v)

-- the first t blocks of b bytes of a string, the last one perhaps short
unfoldable pub cut : ℕ → ℕ → List ℕ → List (List ℕ)
cut b zero s = []
cut b (suc t) s = take b s ∷ cut b t (drop b s)

-- the i-th of them
unfoldable pub block : ℕ → ℕ → List ℕ → List ℕ
block b i s = take b (drop (i * b) s)

-- equality, as a test
unfoldable pub same : List ℕ → List ℕ → Bool
same [] [] = true
same [] (y ∷ ys) = false
same (x ∷ xs) [] = false
same (x ∷ xs) (y ∷ ys) = pick (eqb x y) (same xs ys) false
