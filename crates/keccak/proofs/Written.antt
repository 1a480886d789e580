-- Parts written one behind the other from place i on: a law of lists.
-- Assumes nothing.
use mathlib.Core.Path.{◌≡◌, sym, ap, ap₂, ◌∙◌}
use mathlib.Core.List.{List, ◌++◌, append_assoc}
use Prim.Native.Nat.{ℕ, ◌+◌, ◌≤◌}
use native.Mathlib.Nat.{add_assoc}
use lib.ListN.{length, take, drop, length-append}
use lib.Seq.{length-take-le}
use Rattle.bits.specs.Part.{Written, written_more}

-- t is s with the k elements from place i on replaced by p
pub record WrittenFrom (i : ℕ) (p : List ℕ) (k : ℕ) (t s : List ℕ) : Type 0 where
  pub is : t ≡ take i s ++ (p ++ drop (i + k) s)
  pub long : length p ≡ k

pub from_more : {i : ℕ} {p : List ℕ} {k : ℕ} {t s : List ℕ} → i ≤ length s → WrittenFrom i p k t s → (v : List ℕ) (n : ℕ) → length v ≡ n
    → {u : List ℕ} → u ≡ take (i + k) t ++ (v ++ drop (i + k + n) t) → WrittenFrom i (p ++ v) (k + n) u s
from_more {i} {p} {k} {t} {s} f w v n l e =
    let front : Written (take i s ++ p) (i + k) t s =
    record {
      is = w.is ∙ sym (append_assoc (take i s) p (drop (i + k) s));
      long = length-append (take i s) p ∙ ap₂ ◌+◌ (length-take-le i s f) w.long;
    } in
    record {
      is = (written_more front v n l e).is ∙ ap (λ (m : ℕ). take i s ++ p ++ v ++ drop m s) (add_assoc i k n) ∙ simp append_assoc;
      long = length-append p v ∙ ap₂ ◌+◌ w.long l;
    }
