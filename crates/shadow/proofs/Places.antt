-- Rows as they are loaded from a place of a slice on, and stored there: the slice from the place on is lent.
-- Assumes nothing.
use Rattle.std.proofs.Common.{[], List, ap, arith, append-nil, drop, drop-drop, drop_of_length-le, length, length-drop, take, ℕ, ◌++◌, ◌+◌, ◌-◌, ◌∙◌, ◌≡◌}
use borrow.Rule.Slice.PartMut.{put_mid}
use Rattle.std.specs.List.{between}
use Rattle.std.proofs.lemmas.Slice.{between_to_end}
use Rattle.clyde.specs.declared.Rows.{Rows}
use Rattle.clyde.specs.Clyde.{rows_of, bytes_of}

-- the rows from a place on
pub loaded : (at : ℕ) (s : List ℕ) {r : Rows} → r ≡ rows_of (between at (length s) s) → r ≡ rows_of (drop at s)
loaded at s e = e ∙ ap rows_of (between_to_end s at (length s) (omega arith))

-- what was written from a place on
pub from_place : (at : ℕ) (s v : List ℕ) → put_mid at (length s - at) s v ≡ take at s ++ v
from_place at s v =
    let none : drop (length s - at) (drop at s) ≡ [] = drop_of_length-le (drop at s) {i = length s - at} (omega (arith, length-drop at s)) in
    ap (λ (r : List ℕ). take at s ++ (v ++ r)) none ∙ ap (λ (r : List ℕ). take at s ++ r) (append-nil v)

-- rows stored from a place on
pub stored : (at : ℕ) (k : Rows) (s : List ℕ) {v : List ℕ} → v ≡ bytes_of k ++ drop 16 (between at (length s) s)
    → put_mid at (length s - at) s v ≡ take at s ++ (bytes_of k ++ drop (at + 16) s)
stored at k s {v} e =
    from_place at s v
    ∙ ap (λ (r : List ℕ). take at s ++ r)
    (e ∙ ap (λ (r : List ℕ). bytes_of k ++ r) (ap (drop 16) (between_to_end s at (length s) (omega arith)) ∙ drop-drop 16 at s))
