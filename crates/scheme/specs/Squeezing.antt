-- Encrypting by squeezing, for any algorithm that does it so: before each block of the text the state is stepped, and the block is xored with
-- the state's first bytes. The text never enters the state. So from one state every text is xored with one and the same keystream, and that
-- is why no state may be squeezed from for two texts (`twice`, `common`, `first_part`).
-- Assumes nothing.
use Rattle.std.specs.Prelude.{◌≡◌, length, take}
use Rattle.std.proofs.Common.{div-add-mod', mod-lt, arith}
use mathlib.Core.List.{List, [], ◌∷◌, ◌++◌}
use Prim.Native.Nat.{ℕ, zero, suc, ◌+◌, ◌-◌, ◌*◌, ◌/◌, ◌≤◌, ◌<◌}
use Rattle.bits.specs.Xors.{xors}
use Rattle.bits.specs.Strings.{cut}

-- S ← f(S), C ← S ⊕ M, block by block
unfoldable pub squeezed : (List ℕ → List ℕ) → List ℕ → List (List ℕ) → List ℕ
squeezed f s [] = []
squeezed f s (m ∷ ms) = xors (f s) m ++ squeezed f (f s) ms

-- how many blocks of b bytes a text of m bytes has, a last short one counted
unfoldable pub blocks_of : (b m : ℕ) → ℕ
blocks_of b m = (m + (b - 1)) / b

-- a text encrypted from the state s
unfoldable pub encrypted : (List ℕ → List ℕ) → (b : ℕ) → (s text : List ℕ) → List ℕ
encrypted f b s text = squeezed f s (cut b (blocks_of b (length text)) text)

-- the keystream from s, t blocks of it
unfoldable pub keystream : (List ℕ → List ℕ) → (b t : ℕ) → List ℕ → List ℕ
keystream f b zero s = []
keystream f b (suc t) s = take b (f s) ++ keystream f b t (f s)

-- as many blocks as hold the text, and none of them empty
pub blocks_hold : (b : ℕ) → 0 < b → (m : ℕ) → (m ≤ blocks_of b m * b) × (blocks_of b m * b < m + b)
unfolding blocks_of
blocks_hold b some m =
    let e = div-add-mod' (m + (b - 1)) b in
    let r = mod-lt (m + (b - 1)) some in
    (omega arith, omega arith)

-- what is asked: the step keeps a state of n bytes, and a block is not empty and no longer than the state
pub record Squeezes (n b : ℕ) (f : List ℕ → List ℕ) : Type 0 where
  pub some : 0 < b
  pub fits : b ≤ n
  pub keeps : (s : List ℕ) → length s ≡ n → length (f s) ≡ n
