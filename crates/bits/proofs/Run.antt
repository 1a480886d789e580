-- A run of a permutation's rounds on a buffer is a run of its rounds on the first n bytes; the others stay.
-- Assumes nothing.
use Rattle.std.proofs.Common.{◌≡◌, sym, ap, ap₂, ◌∙◌, subst, List, ◌++◌, ℕ, zero, suc, ◌+◌, ◌≤◌, length, take, drop, length-append, length-drop, take-append-drop, take_at, drop_at}
use Rattle.std.proofs.Math.Nat.{add-sub_of_le}
use Rattle.bits.specs.Bytes.{Bytes, bytes_take, bytes_drop, bytes-append}
use Rattle.bits.specs.Run.{turns, rounds, front, run, Keeps, length-rounds, bytes-rounds, length-first}

module _ {n : ℕ} {r : ℕ → List ℕ → List ℕ} (keeps : Keeps n r) where
  -- the rounds are those of the first n bytes; the others stay
  pub run-front : (from k : ℕ) (s : List ℕ) → n ≤ length s → run n r from k s ≡ rounds r from k (take n s) ++ drop n s
  unfolding run front rounds turns
  run-front from zero s l = sym (take-append-drop n s)
  run-front from (suc k) s l =
      let p : List ℕ = rounds r from k (take n s) in
      let e : length p ≡ n = length-rounds keeps from k (take n s) (length-first keeps s l) in
      let t : List ℕ = drop n s in
      ap (front n (r (from + k))) (run-front from k s l)
      ∙ ap₂ (λ (u v : List ℕ). r (from + k) u ++ v) (take_at p t n e) (drop_at p t n e)

  pub length_run : (from k : ℕ) (s : List ℕ) → n ≤ length s → length (run n r from k s) ≡ length s
  length_run from k s l =
      ap length (run-front from k s l) ∙ length-append (rounds r from k (take n s)) (drop n s)
      ∙ ap₂ (λ (x y : ℕ). x + y) (length-rounds keeps from k (take n s) (length-first keeps s l)) (length-drop n s) ∙ add-sub_of_le l

  pub bytes_run : (from k : ℕ) (s : List ℕ) → n ≤ length s → Bytes s → Bytes (run n r from k s)
  bytes_run from k s l h =
      subst Bytes (sym (run-front from k s l))
      (bytes-append (bytes-rounds keeps from k (take n s) (length-first keeps s l) (bytes_take n h)) (bytes_drop n h))

  -- what an engine does that holds the state in words: the words of the first n bytes are loaded, run, and stored
  pub run_words : (from k : ℕ) (s loaded ran out : List ℕ) → n ≤ length s
      → loaded ≡ take n s → ran ≡ rounds r from k loaded → out ≡ ran ++ drop n s → out ≡ run n r from k s
  run_words from k s loaded ran out l p q e =
      e ∙ ap (λ (u : List ℕ). u ++ drop n s) (q ∙ ap (rounds r from k) p) ∙ sym (run-front from k s l)
