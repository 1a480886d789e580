-- A loop that copies bytes, one byte more.
-- Assumes nothing.
use Rattle.std.specs.Prelude.{◌≡◌, refl, List, [], ◌∷◌, ◌++◌, ℕ, zero, suc, ◌<◌, length, take, drop, set, get_or}
use Rattle.std.proofs.Common.{ap, arith}

pub copy_more : (xs o : List ℕ) (i : ℕ) → i < length xs → i < length o → set (take i xs ++ drop i o) i (get_or xs i 0) ≡ take (suc i) xs ++ drop (suc i) o
copy_more [] o i h k = absurd (omega arith)
copy_more (x ∷ xs) [] i h k = absurd (omega arith)
copy_more (x ∷ xs) (z ∷ o) zero h k = refl
copy_more (x ∷ xs) (z ∷ o) (suc i) h k = ap (λ (u : List ℕ). x ∷ u) (copy_more xs o i (omega arith) (omega arith))
