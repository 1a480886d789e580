-- Rows put together of shorter rows, rows of calls that are alike, and a row at its end.
-- Assumes nothing.
use Rattle.std.specs.Prelude.{◌≡◌}
use Rattle.std.proofs.Math.Path.{refl, sym, ap}
use Rattle.std.proofs.Common.{◌∙◌, subst, add_comm, zero-mul, add-zero, arith}
use mathlib.Core.List.{List, [], ◌∷◌, ◌++◌}
use Prim.Native.Nat.{ℕ, zero, suc, ◌+◌, ◌-◌, ◌*◌, ◌≤◌, ◌<◌}
use Rattle.std.proofs.Math.Nat.{suc-mul, zero-add, add_assoc}
use Rattle.std.proofs.Math.Decide.{dec_lt}
use Rattle.stopping.specs.Stopped.{Call, whole, stopped, total, AllSome, At, here, later, stopped_past, stopped-short, stopped_zero}

module _ {M : Type 0} where
  -- all calls of a row, each whole
  unfoldable pub run : List (Call M) → M → M
  run [] s = s
  run (c ∷ cs) s = run cs (whole c s)

  -- the calls numbered i, i + 1, .. : n of them
  unfoldable pub calls : (ℕ → Call M) → ℕ → ℕ → List (Call M)
  calls f i zero = []
  calls f i (suc n) = f i ∷ calls f (suc i) n

  -- ---- a row cut in two

  pub total-append : (xs ys : List (Call M)) → total (xs ++ ys) ≡ total xs + total ys
  unfolding total
  total-append [] ys = sym (zero-add (total ys))
  total-append (c ∷ xs) ys = ap (λ (n : ℕ). c.rounds + n) (total-append xs ys) ∙ sym (add_assoc c.rounds (total xs) (total ys))

  pub some_append : (xs ys : List (Call M)) → AllSome xs → AllSome ys → AllSome (xs ++ ys)
  unfolding AllSome
  some_append [] ys h k = k
  some_append (c ∷ xs) ys h k = (h.0, some_append xs ys h.1 k)

  pub run-append : (xs ys : List (Call M)) (s : M) → run (xs ++ ys) s ≡ run ys (run xs s)
  unfolding run
  run-append [] ys s = refl
  run-append (c ∷ xs) ys s = run-append xs ys (whole c s)

  -- past the first row, the second goes on from where the first ends
  pub stopped-back : (xs ys : List (Call M)) (n : ℕ) (s : M) → stopped (xs ++ ys) (total xs + n) s ≡ stopped ys n (run xs s)
  unfolding run total
  stopped-back [] ys n s = ap (λ (k : ℕ). stopped ys k s) (zero-add n)
  stopped-back (c ∷ xs) ys n s =
      stopped_past c (xs ++ ys) (c.rounds + total xs + n) s (omega arith)
      ∙ ap (λ (k : ℕ). stopped (xs ++ ys) k (whole c s)) (omega arith)
      ∙ stopped-back xs ys n (whole c s)

  -- up to the end of the first row, the second does nothing
  pub stopped-front : (xs ys : List (Call M)) (n : ℕ) (s : M) → AllSome ys → n ≤ total xs → stopped (xs ++ ys) n s ≡ stopped xs n s
  unfolding total stopped
  stopped-front [] ys n s some h = ap (λ (k : ℕ). stopped ys k s) (omega arith) ∙ stopped_zero ys s some
  stopped-front (c ∷ xs) ys n s some h =
      elim (dec_lt n c.rounds) [
        | yes l ↦ stopped-short c (xs ++ ys) n s l ∙ sym (stopped-short c xs n s l)
        | no f ↦
            stopped_past c (xs ++ ys) n s (omega arith)
            ∙ stopped-front xs ys (n - c.rounds) (whole c s) some (omega arith)
            ∙ sym (stopped_past c xs n s (omega arith))
      ]

  -- stopped after all of its rounds, a row is done
  pub at_end : (cs : List (Call M)) (s : M) → stopped cs (total cs) s ≡ run cs s
  unfolding run total stopped
  at_end [] s = refl
  at_end (c ∷ cs) s =
      stopped_past c cs (c.rounds + total cs) s (omega arith)
      ∙ ap (λ (n : ℕ). stopped cs n (whole c s)) (omega arith)
      ∙ at_end cs (whole c s)

  -- ---- calls that all have r rounds

  pub total-calls : (f : ℕ → Call M) (r : ℕ) → ((i : ℕ) → (f i).rounds ≡ r) → (n i : ℕ) → total (calls f i n) ≡ n * r
  unfolding total calls
  total-calls f r h zero i = sym (zero-mul r)
  total-calls f r h (suc n) i = rw (h i, total-calls f r h n (suc i), suc-mul) (add_comm r (n * r))

  pub some_calls : (f : ℕ → Call M) (r : ℕ) → ((i : ℕ) → (f i).rounds ≡ r) → 0 < r → (n i : ℕ) → AllSome (calls f i n)
  unfolding AllSome calls
  some_calls f r h pos zero i = tt
  some_calls f r h pos (suc n) i = (rw (h i) pos, some_calls f r h pos n (suc i))

  -- ---- where a round stands in rows put together

  pub at_front : {xs : List (Call M)} {n : ℕ} {c : Call M} {k : ℕ} (ys : List (Call M)) → At xs n c k → At (xs ++ ys) n c k
  at_front ys (here h) = here h
  at_front ys (later a) = later (at_front ys a)

  pub at_back : {ys : List (Call M)} {n : ℕ} {c : Call M} {k : ℕ} (xs : List (Call M)) → At ys n c k → At (xs ++ ys) (total xs + n) c k
  unfolding total
  at_back [] a = rw zero-add a
  at_back (d ∷ xs) a = rw add_assoc (later (at_back xs a))

  -- the same place, written otherwise
  pub at_as : {cs : List (Call M)} {m n : ℕ} {c d : Call M} {k : ℕ} → m ≡ n → c ≡ d → At cs m c k → At cs n d k
  at_as {cs} {m} {n} {c} {d} {k} p q a = subst (λ (x : ℕ). At cs x d k) p (subst (λ (x : Call M). At cs m x k) q a)

  -- round j of call q of calls of r rounds each
  pub at_calls : (f : ℕ → Call M) (r : ℕ) → ((i : ℕ) → (f i).rounds ≡ r) → (n i q j : ℕ) → q < n → j < r → At (calls f i n) (q * r + j) (f (i + q)) j
  unfolding calls
  at_calls f r h zero i q j hq hj = absurd (omega arith)
  at_calls f r h (suc n) i zero j hq hj = rw (zero-mul, zero-add, add-zero) (here {c = f i} {k = j} (rw (h i) hj))
  at_calls f r h (suc n) i (suc q) j hq hj =
      at_as
      (ap (λ (x : ℕ). x + (q * r + j)) (h i) ∙ rw suc-mul (omega arith))
      (ap f (omega arith))
      (later {c = f i} (at_calls f r h n (suc i) q j (omega arith) hj))
