-- Parts put one behind the other, each in place of as many bytes as it has.
-- Assumes nothing.
use Rattle.std.proofs.Common.{List, ap, drop, length, take, ℕ, ◌++◌, ◌+◌, ◌∙◌, ◌≡◌}
use Rattle.bits.specs.Part.{Written, written_more}

-- q was put, and is the v of n bytes that is to stand there
pub put_more : {p : List ℕ} {at : ℕ} {t s : List ℕ} → Written p at t s → (v : List ℕ) (n : ℕ) → length v ≡ n → (q : List ℕ) → q ≡ v
    → {u : List ℕ} → u ≡ take at t ++ (q ++ drop (at + length q) t) → Written (p ++ v) (at + n) u s
put_more {p} {at} {t} {s} w v n l q e h =
    written_more w v n l
    (h ∙ ap (λ (r : List ℕ). take at t ++ (r ++ drop (at + length r) t)) e ∙ ap (λ (k : ℕ). take at t ++ (v ++ drop (at + k) t)) l)
