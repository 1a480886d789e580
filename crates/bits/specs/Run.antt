-- A run of rounds of a permutation, for any permutation: round «from», the next, .., count of them. A run is done to the first n
-- bytes of a buffer; what lies beyond is neither read nor changed.
-- Assumes nothing.
use Rattle.std.specs.Prelude.{◌≡◌, take}
use Rattle.std.proofs.Math.Path.{refl, sym, ap, ap₂}
use Rattle.std.proofs.Common.{◌∙◌, add-zero, add-suc, add_assoc, add-one, arith, length-take, length-drop, drop_of_length-le, take_at, drop_at, take_all}
use mathlib.Core.List.{List, ◌++◌, append-nil}
use Prim.Native.Nat.{ℕ, zero, suc, ◌+◌, ◌-◌, ◌≤◌}
use Rattle.std.proofs.Math.Nat.{add-sub_of_le, min-eq_left}
use Rattle.std.proofs.Math.ListN.{length, drop, length-append}
use Rattle.bits.specs.Bytes.{Bytes, bytes_take, bytes_drop, bytes-append}

module _ {S : Type 0} where
  -- turn 0, turn 1, .., turn (k - 1), one after the other
  unfoldable pub turns : (ℕ → S → S) → ℕ → S → S
  turns t zero s = s
  turns t (suc k) s = t k (turns t k s)

  -- j turns, and then k more
  pub turns-add : (t : ℕ → S → S) (j k : ℕ) (s : S) → turns t (j + k) s ≡ turns (λ i. t (j + i)) k (turns t j s)
  unfolding turns
  turns-add t j zero s = ap (λ (n : ℕ). turns t n s) (add-zero j)
  turns-add t j (suc k) s = ap (λ (n : ℕ). turns t n s) (add-suc j k) ∙ ap (t (j + k)) (turns-add t j k s)

  -- the rounds of the indices from, from + 1, .., count of them
  unfoldable pub rounds : (ℕ → S → S) → (from count : ℕ) → S → S
  rounds r from count s = turns (λ k. r (from + k)) count s

  pub rounds_none : (r : ℕ → S → S) (from : ℕ) (s : S) → rounds r from 0 s ≡ s
  unfolding rounds turns
  rounds_none r from s = refl

  pub rounds_more : (r : ℕ → S → S) (from k : ℕ) (s : S) → rounds r from (suc k) s ≡ r (from + k) (rounds r from k s)
  unfolding rounds turns
  rounds_more r from k s = refl

  -- the same, as a loop counts
  pub rounds-next : (r : ℕ → S → S) (from k : ℕ) (s u v : S) → u ≡ rounds r from k s → v ≡ r (from + k) u → v ≡ rounds r from (k + 1) s
  rounds-next r from k s u v e f = f ∙ ap (r (from + k)) e ∙ sym (rounds_more r from k s) ∙ ap (λ (n : ℕ). rounds r from n s) (sym (add-one k))

  -- and as a loop goes over the indices themselves
  pub rounds_next-at : (r : ℕ → S → S) (from i : ℕ) (s u v : S) → from ≤ i → u ≡ rounds r from (i - from) s → v ≡ r i u
      → v ≡ rounds r from (i + 1 - from) s
  rounds_next-at r from i s u v h e f =
      let here : i ≡ from + (i - from) = omega arith in
      let next : i - from + 1 ≡ i + 1 - from = omega arith in
      rounds-next r from (i - from) s u v e (f ∙ ap (λ (n : ℕ). r n u) here) ∙ ap (λ (n : ℕ). rounds r from n s) next

  pub rounds-add : (r : ℕ → S → S) (from j k : ℕ) (s : S) → rounds r from (j + k) s ≡ rounds r (from + j) k (rounds r from j s)
  unfolding rounds
  rounds-add r from j k s =
      turns-add (λ k. r (from + k)) j k s ∙ (λ i. turns (λ n. r (sym (add_assoc from j n) i)) k (turns (λ n. r (from + n)) j s))

-- f done to the first n bytes, the others as they are
unfoldable pub front : ℕ → (List ℕ → List ℕ) → List ℕ → List ℕ
front n f s = f (take n s) ++ drop n s

-- in a longer buffer it does the same to the state alone
pub front-within : (n : ℕ) (f : List ℕ → List ℕ) (s t : List ℕ) → length s ≡ n → front n f (s ++ t) ≡ front n f s ++ t
unfolding front
front-within n f s t h =
    ap₂ (λ (u v : List ℕ). f u ++ v) (take_at s t n h) (drop_at s t n h)
    ∙ ap (λ (u : List ℕ). u ++ t)
    (sym (append-nil (f s))
    ∙ sym (ap₂ (λ (u v : List ℕ). f u ++ v) (take_all n s (omega arith)) (drop_of_length-le s {i = n} (omega arith))))

-- the same run on a buffer whose first n bytes are the state
unfoldable pub run : ℕ → (ℕ → List ℕ → List ℕ) → (from count : ℕ) → List ℕ → List ℕ
run n r from count s = rounds (λ i. front n (r i)) from count s

-- what a permutation's rounds keep: the state's n bytes stay n bytes
pub record Keeps (n : ℕ) (r : ℕ → List ℕ → List ℕ) : Type 0 where
  pub long : (i : ℕ) (s : List ℕ) → length s ≡ n → length (r i s) ≡ n
  pub bytes : (i : ℕ) (s : List ℕ) → length s ≡ n → Bytes s → Bytes (r i s)

-- ---- laws that callers go by

module _ (n : ℕ) (r : ℕ → List ℕ → List ℕ) where
  pub run_none : (from : ℕ) (s : List ℕ) → run n r from 0 s ≡ s
  unfolding run
  run_none from s = rounds_none (λ i. front n (r i)) from s

  -- one round more
  pub run_more : (from k : ℕ) (s : List ℕ) → run n r from (suc k) s ≡ front n (r (from + k)) (run n r from k s)
  unfolding run
  run_more from k s = rounds_more (λ i. front n (r i)) from k s

  -- j rounds, and then k more: a run may be cut between any two rounds
  pub run-add : (from j k : ℕ) (s : List ℕ) → run n r from (j + k) s ≡ run n r (from + j) k (run n r from j s)
  unfolding run
  run-add from j k s = rounds-add (λ i. front n (r i)) from j k s

module _ {n : ℕ} {r : ℕ → List ℕ → List ℕ} (keeps : Keeps n r) where
  pub length-rounds : (from k : ℕ) (s : List ℕ) → length s ≡ n → length (rounds r from k s) ≡ n
  unfolding rounds turns
  length-rounds from zero s l = l
  length-rounds from (suc k) s l = keeps.long (from + k) (rounds r from k s) (length-rounds from k s l)

  pub bytes-rounds : (from k : ℕ) (s : List ℕ) → length s ≡ n → Bytes s → Bytes (rounds r from k s)
  unfolding rounds turns
  bytes-rounds from zero s l h = h
  bytes-rounds from (suc k) s l h = keeps.bytes (from + k) (rounds r from k s) (length-rounds from k s l) (bytes-rounds from k s l h)

  pub length-first : (s : List ℕ) → n ≤ length s → length (take n s) ≡ n
  length-first s l = length-take n s ∙ min-eq_left l

  -- one round on a buffer
  pub length_once : (i : ℕ) (s : List ℕ) → n ≤ length s → length (front n (r i) s) ≡ length s
  unfolding front
  length_once i s l =
      length-append (r i (take n s)) (drop n s)
      ∙ ap₂ (λ (x y : ℕ). x + y) (keeps.long i (take n s) (length-first s l)) (length-drop n s) ∙ add-sub_of_le l

  pub bytes_once : (i : ℕ) (s : List ℕ) → n ≤ length s → Bytes s → Bytes (front n (r i) s)
  unfolding front
  bytes_once i s l h = bytes-append (keeps.bytes i (take n s) (length-first s l) (bytes_take n h)) (bytes_drop n h)
