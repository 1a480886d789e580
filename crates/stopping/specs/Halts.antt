-- The algorithm stopped before the decision, at its end when it is accepted, and after a refusal.
-- Assumes nothing.
use Rattle.std.specs.Prelude.{◌≡◌, Bool, true, false}
use Rattle.std.proofs.Math.Path.{sym, ap, ap₂}
use Rattle.std.proofs.Common.{◌∙◌, arith}
use mathlib.Core.List.{List}
use Prim.Native.Nat.{ℕ, ◌+◌, ◌≤◌, min}
use Rattle.std.proofs.Math.Nat.{min-eq_left}
use Rattle.bits.specs.Pick.{pick}
use Rattle.stopping.specs.Stopped.{Call, stopped, total}
use Rattle.stopping.specs.Rows.{run, at_end, stopped-front, stopped-back}
use Rattle.stopping.specs.Parts.{row, row-append, total-row, some_row}
use Rattle.stopping.specs.Kept.{KeepsParts, keeps-stopped, keeps-row, keeps-parts}
use Rattle.stopping.specs.Course.{Course, parts, front_rounds, back_rounds, accepted, lasts, halted, Lawful}
use Rattle.stopping.specs.Follows.{lasts_least}

module _ {M : Type 0} (c : Course M) (l : Lawful c) (m : M) where
  pub lasts-accepted : accepted c m ≡ true → lasts c m ≡ front_rounds c + back_rounds c
  unfolding lasts
  lasts-accepted e = ap (λ (b : Bool). pick b (front_rounds c + back_rounds c) (front_rounds c)) e

  pub lasts_refused : accepted c m ≡ false → lasts c m ≡ front_rounds c
  unfolding lasts
  lasts_refused e = ap (λ (b : Bool). pick b (front_rounds c + back_rounds c) (front_rounds c)) e

  front-total : front_rounds c ≡ total (row c.front)
  unfolding front_rounds
  front-total = sym (total-row c.front)

  back_total : back_rounds c ≡ total (row c.back)
  unfolding back_rounds
  back_total = sym (total-row c.back)

  -- up to the decision the parts after it do nothing
  pub halted-front : (n : ℕ) → n ≤ front_rounds c → halted c n m ≡ stopped (row c.front) n m
  unfolding halted
  halted-front n h =
      let least = lasts_least c l m in
      ap₂ (λ (cs : List (Call M)) (k : ℕ). stopped cs k m) (row-append c.front c.back) (min-eq_left (omega arith))
      ∙ stopped-front (row c.front) (row c.back) n m (some_row c.back l.back_some) (omega (arith, front-total))

  pub halted_decided : halted c (front_rounds c) m ≡ run (row c.front) m
  halted_decided =
      halted-front (front_rounds c) (omega arith) ∙ ap (λ (n : ℕ). stopped (row c.front) n m) front-total ∙ at_end (row c.front) m

  -- at its end, accepted
  pub halted-accepted : accepted c m ≡ true → (n : ℕ) → front_rounds c + back_rounds c ≤ n
      → halted c n m ≡ run (row c.back) (run (row c.front) m)
  unfolding halted
  halted-accepted e n h =
      let s = run (row c.front) m in
      let k : min n (lasts c m) ≡ total (row c.front) + total (row c.back) = omega (arith, lasts-accepted e, front-total, back_total) in
      ap₂ (λ (cs : List (Call M)) (k : ℕ). stopped cs k m) (row-append c.front c.back) k
      ∙ stopped-back (row c.front) (row c.back) (total (row c.back)) m
      ∙ at_end (row c.back) s

  -- refused, it stays at the decision
  pub halted_refused : accepted c m ≡ false → (n : ℕ) → front_rounds c ≤ n → halted c n m ≡ run (row c.front) m
  unfolding halted
  halted_refused e n h =
      let k : min n (lasts c m) ≡ min (front_rounds c) (lasts c m) = omega (arith, lasts_refused e) in
      ap (λ (k : ℕ). stopped (row (parts c)) k m) k ∙ halted_decided

-- what both halves of a course keep is kept wherever the algorithm is stopped
pub keeps-halted : {M : Type 0} (P : M → Type 0) (c : Course M) → KeepsParts P c.front → KeepsParts P c.back
    → (n : ℕ) (m : M) → P m → P (halted c n m)
unfolding halted
keeps-halted P c f b n m h =
    keeps-stopped P (row (parts c)) (keeps-row P (parts c) (keeps-parts P c.front c.back f b)) (min n (lasts c m)) m h
