-- Clyde-128 and its inverse undo one another on rows, layer by layer, round by round and step by step; `Theorems` has it whole.
-- Assumes nothing.
use Rattle.std.specs.Prelude.{◌≡◌, Bool, true, false, ℕ, ◌+◌, ◌*◌, ◌%◌, eqb}
use Rattle.std.proofs.Math.Path.{ap}
use Rattle.std.proofs.Common.{◌∙◌, arith}
use Rattle.std.specs.Int.Bits.{bit_xor}
use Rattle.std.proofs.lemmas.Nat.{xor_lt, xor_comm}
use Rattle.bits.specs.Pick.{pick}
use Rattle.bits.specs.Run.{turns}
use Rattle.bits.specs.Xors.{xor_twice}
use Rattle.clyde.specs.declared.Rows.{Rows}
use Rattle.clyde.specs.declared.Pair.{Pair}
use Rattle.clyde.specs.Back.{back, Undo, turns_keeps, back-keeps, back-turns, turns-back}
use Rattle.clyde.specs.Components.{s_layer, s_inverse, lbox, lbox_inverse, on_pairs, add, W}
use Rattle.clyde.specs.Constants.{W_bits}
use Rattle.clyde.specs.Clyde.{delta, TK, round, step, clyde, round_inverse, step_inverse, clyde_inverse}
use Rattle.clyde.specs.Lbox.{Fit2}
use Rattle.clyde.proofs.Lbox.{lbox-fit, lbox_inverse-fit}
use Rattle.clyde.proofs.LboxUndone.{lbox_undone, lbox_undoes}
use Rattle.clyde.specs.Sbox.{Fit}
use Rattle.clyde.proofs.Sbox.{s_undone, s_undoes, s_layer-fit, s_inverse-fit}

-- ---- sums of rows

pub add_fit : {k s : Rows} → Fit k → Fit s → Fit (add k s)
unfolding add
add_fit {k} {s} h g =
    record {
      f0 = xor_lt 32 s.x0 k.x0 g.f0 h.f0;
      f1 = xor_lt 32 s.x1 k.x1 g.f1 h.f1;
      f2 = xor_lt 32 s.x2 k.x2 g.f2 h.f2;
      f3 = xor_lt 32 s.x3 k.x3 g.f3 h.f3;
    }

twice : (k x : ℕ) → bit_xor (bit_xor x k) k ≡ x
twice k x = xor_comm (bit_xor x k) k ∙ ap (bit_xor k) (xor_comm x k) ∙ xor_twice k x

pub add_twice : (k s : Rows) → add k (add k s) ≡ s
unfolding add
add_twice k s =
    λ i. record { x0 = twice k.x0 s.x0 i; x1 = twice k.x1 s.x1 i; x2 = twice k.x2 s.x2 i; x3 = twice k.x3 s.x3 i }

-- ---- pairs of rows

module _ {s : Rows} (h : Fit s) where
  abbrev upper : Pair
  upper = record { a = s.x0; b = s.x1 }

  abbrev lower : Pair
  lower = record { a = s.x2; b = s.x3 }

  upper_fit : Fit2 upper
  upper_fit = record { fa = h.f0; fb = h.f1 }

  lower_fit : Fit2 lower
  lower_fit = record { fa = h.f2; fb = h.f3 }

  pub on_pairs_undone : (f g : Pair → Pair) → ((p : Pair) → Fit2 p → g (f p) ≡ p) → on_pairs g (on_pairs f s) ≡ s
  unfolding on_pairs
  on_pairs_undone f g e =
      let u = e upper upper_fit in
      let l = e lower lower_fit in
      λ i. record { x0 = (u i).a; x1 = (u i).b; x2 = (l i).a; x3 = (l i).b }

pub on_pairs-fit : (f : Pair → Pair) → ((p : Pair) → Fit2 (f p)) → (s : Rows) → Fit (on_pairs f s)
unfolding on_pairs
on_pairs-fit f e s =
    let u = e (record { a = s.x0; b = s.x1 }) in
    let l = e (record { a = s.x2; b = s.x3 }) in
    record { f0 = u.fa; f1 = u.fb; f2 = l.fa; f3 = l.fb }

-- ---- constants and tweakeys have 32 digits a row

pub W_fit : (r : ℕ) → Fit (W r)
W_fit r =
    let h = W_bits r in
    record { f0 = omega (arith, h.b0); f1 = omega (arith, h.b1); f2 = omega (arith, h.b2); f3 = omega (arith, h.b3) }

pub pick-fit : (b : Bool) {x y : Rows} → Fit x → Fit y → Fit (pick b x y)
pick-fit true h g = h
pick-fit false h g = g

pub delta-fit : {t : Rows} → Fit t → (i : ℕ) → Fit (delta t i)
unfolding delta
delta-fit {t} h i =
    let s0 = xor_lt 32 t.x0 t.x2 h.f0 h.f2 in
    let s1 = xor_lt 32 t.x1 t.x3 h.f1 h.f3 in
    pick-fit (eqb (i % 3) 0) h
    (pick-fit (eqb (i % 3) 1) (record { f0 = s0; f1 = s1; f2 = h.f0; f3 = h.f1 }) (record { f0 = h.f2; f1 = h.f3; f2 = s0; f3 = s1 }))

-- ---- rounds

pub round-fit : (r : ℕ) (s : Rows) → Fit (round r s)
unfolding round
round-fit r s = add_fit (W_fit r) (on_pairs-fit lbox lbox-fit (s_layer s))

pub round_inverse-fit : (r : ℕ) (s : Rows) → Fit (round_inverse r s)
unfolding round_inverse
round_inverse-fit r s = s_inverse-fit _ (on_pairs-fit lbox_inverse lbox_inverse-fit (add (W r) s))

pub round_undone : (r : ℕ) {s : Rows} → Fit s → round_inverse r (round r s) ≡ s
unfolding round round_inverse
round_undone r {s} h =
    ap (λ (x : Rows). s_inverse (on_pairs lbox_inverse x)) (add_twice (W r) (on_pairs lbox (s_layer s)))
    ∙ ap s_inverse (on_pairs_undone (s_layer-fit s) lbox lbox_inverse lbox_undone) ∙ s_undone s h

pub round_undoes : (r : ℕ) {s : Rows} → Fit s → round r (round_inverse r s) ≡ s
unfolding round round_inverse
round_undoes r {s} h =
    let x : Rows = add (W r) s in
    ap (λ (y : Rows). add (W r) (on_pairs lbox y)) (s_undoes (on_pairs lbox_inverse x) (on_pairs-fit lbox_inverse lbox_inverse-fit x))
    ∙ ap (add (W r)) (on_pairs_undone (add_fit (W_fit r) h) lbox_inverse lbox lbox_undoes) ∙ add_twice (W r) s

-- ---- steps, and the whole

module _ {k t : Rows} (hk : Fit k) (ht : Fit t) where
  pub TK_fit : (i : ℕ) → Fit (TK k t i)
  unfolding TK
  TK_fit i = add_fit (delta-fit ht i) hk

  pub steps : Undo Fit (step k t) (step_inverse k t)
  unfolding step step_inverse
  steps =
      record {
        keeps = λ n s h. add_fit (TK_fit (n + 1)) (round-fit (2 * n + 1) (round (2 * n) s));
        undone =
            λ n s h.
            ap (λ (x : Rows). round_inverse (2 * n) (round_inverse (2 * n + 1) x))
            (add_twice (TK k t (n + 1)) (round (2 * n + 1) (round (2 * n) s)))
            ∙ ap (round_inverse (2 * n)) (round_undone (2 * n + 1) (round-fit (2 * n) s))
            ∙ round_undone (2 * n) h;
      }

  pub steps_back : Undo Fit (step_inverse k t) (step k t)
  unfolding step step_inverse
  steps_back =
      record {
        keeps = λ n s h. round_inverse-fit (2 * n) _;
        undone =
            λ n s h.
            let x : Rows = add (TK k t (n + 1)) s in
            ap (λ (y : Rows). add (TK k t (n + 1)) (round (2 * n + 1) y)) (round_undoes (2 * n) (round_inverse-fit (2 * n + 1) x))
            ∙ ap (add (TK k t (n + 1))) (round_undoes (2 * n + 1) (add_fit (TK_fit (n + 1)) h))
            ∙ add_twice (TK k t (n + 1)) s;
      }

  pub clyde-fit : (s : Rows) → Fit s → Fit (clyde k t s)
  unfolding clyde
  clyde-fit s h = turns_keeps steps 6 (add (TK k t 0) s) (add_fit (TK_fit 0) h)

  pub clyde_inverse-fit : (s : Rows) → Fit s → Fit (clyde_inverse k t s)
  unfolding clyde_inverse
  clyde_inverse-fit s h = add_fit (TK_fit 0) (back-keeps steps_back 6 s h)

  pub clyde_undone : (s : Rows) → Fit s → clyde_inverse k t (clyde k t s) ≡ s
  unfolding clyde clyde_inverse
  clyde_undone s h =
      ap (add (TK k t 0)) (back-turns steps 6 (add (TK k t 0) s) (add_fit (TK_fit 0) h)) ∙ add_twice (TK k t 0) s

  pub clyde_undoes : (s : Rows) → Fit s → clyde k t (clyde_inverse k t s) ≡ s
  unfolding clyde clyde_inverse
  clyde_undoes s h =
      ap (turns (step k t) 6) (add_twice (TK k t 0) (back (step_inverse k t) 6 s)) ∙ turns-back steps_back 6 s h
