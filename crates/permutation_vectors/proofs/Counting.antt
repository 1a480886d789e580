-- The bytes that the answers are computed on.
-- Assumes nothing.
use mathlib.Core.List.{List, [], ◌∷◌}
use Prim.Native.Nat.{ℕ, zero, suc}

-- i, i + 1, .., n numbers in all
abbrev pub counting : (i n : ℕ) → List ℕ
counting i zero = []
counting i (suc n) = i ∷ counting (suc i) n
