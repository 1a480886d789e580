-- The L-box: the formulas of document 004 are the circulant matrices, and L-box and inverse undo one another in either order. A proof goes
-- along a formula (`circulant`, `Sum`); the first lines at its end are computed, from (1, 0) and (0, 1).
-- Assumes nothing.
use Rattle.std.specs.Prelude.{◌≡◌, ℕ, ◌<◌}
use Rattle.std.proofs.Common.{lit<}
use Rattle.std.specs.Int.Bits.{bit_xor}
use Rattle.bits.specs.Digit.{odd, bit}
use Rattle.bits.specs.Number.{number}
use Rattle.bits.specs.Rotate.{rotr, rotr_lt, rotl}
use Rattle.circulant.specs.Sum.{Lines, Sums, add_lines, turn_lines, line_x, line_y, sum, sum_lt, x_sums, y_sums, xor-sums, turn_sums, same-sums}
use Rattle.clyde.specs.declared.Pair.{Pair}
use Rattle.clyde.specs.Formulas.{la5, lb5, fa3, fb3, fa4, fb4}
use Rattle.clyde.specs.Components.{lbox, lbox_inverse}
use Rattle.clyde.specs.Lbox.{Fit2, lbox_formula}

-- ---- along the formulas

-- x is circ · u ⊕ circ · v by the lines l, and y by the lines m
module _ {u v x y : ℕ} {l m : Lines} (p : Sums 32 u v x l) (q : Sums 32 u v y m) where
  -- x ⊕ rot(y, n)
  abbrev mixed : {a b : ℕ} {i j : Lines} (n : ℕ) → n < 32 → Sums 32 u v a i → Sums 32 u v b j
      → Sums 32 u v (bit_xor a (rotr 32 n b)) (add_lines i (turn_lines 32 n j))
  mixed n h r s = xor-sums r (turn_sums n h s)

  direct : Sums 32 u v (la5 bit_xor (rotr 32) x y) (la5 add_lines (turn_lines 32) l m)
      × Sums 32 u v (lb5 bit_xor (rotr 32) x y) (lb5 add_lines (turn_lines 32) l m)
  direct =
      let a1 = mixed 12 (lit< tt) p p in
      let b1 = mixed 12 (lit< tt) q q in
      let a2 = mixed 3 (lit< tt) a1 a1 in
      let b2 = mixed 3 (lit< tt) b1 b1 in
      let a3 = mixed 17 (lit< tt) a2 p in
      let b3 = mixed 17 (lit< tt) b2 q in
      let c = mixed 31 (lit< tt) a3 a3 in
      let d = mixed 31 (lit< tt) b3 b3 in
      let a4 = mixed 26 (lit< tt) a3 d in
      let b4 = mixed 25 (lit< tt) b3 c in
      (mixed 15 (lit< tt) a4 c, mixed 15 (lit< tt) b4 d)

  inverse : Sums 32 u v (fa4 bit_xor (rotr 32) x y) (fa4 add_lines (turn_lines 32) l m)
      × Sums 32 u v (fb4 bit_xor (rotr 32) x y) (fb4 add_lines (turn_lines 32) l m)
  inverse =
      let a1 = mixed 25 (lit< tt) p p in
      let b1 = mixed 25 (lit< tt) q q in
      let c1 = mixed 31 (lit< tt) p a1 in
      let d1 = mixed 31 (lit< tt) q b1 in
      let c2 = mixed 20 (lit< tt) c1 a1 in
      let d2 = mixed 20 (lit< tt) d1 b1 in
      let a2 = mixed 31 (lit< tt) c2 c2 in
      let b2 = mixed 31 (lit< tt) d2 d2 in
      let c3 = mixed 26 (lit< tt) c2 b2 in
      let d3 = mixed 25 (lit< tt) d2 a2 in
      let a3 = mixed 17 (lit< tt) a2 c3 in
      let b3 = mixed 17 (lit< tt) b2 d3 in
      (turn_sums 16 (lit< tt) a3, turn_sums 16 (lit< tt) b3)

-- ---- the formulas are the matrices

module _ (p : Pair) (h : Fit2 p) where
  xs : Sums 32 p.a p.b p.a line_x
  xs = x_sums h.fa

  ys : Sums 32 p.a p.b p.b line_y
  ys = y_sums h.fb

  pub lbox_formula_lem : lbox_formula p ≡ lbox p
  unfolding lbox_formula lbox sum rotl number bit odd
  lbox_formula_lem =
      let d = direct xs ys in
      let ea : (lbox_formula p).a ≡ (lbox p).a = d.0.is in
      let eb : (lbox_formula p).b ≡ (lbox p).b = d.1.is in
      λ i. record { a = ea i; b = eb i }

  -- ---- one undoes the other

  pub inverse_of_formula : lbox_inverse (lbox_formula p) ≡ p
  unfolding lbox_formula lbox_inverse rotl number bit odd
  inverse_of_formula =
      let d = direct xs ys in
      let e = inverse d.0 d.1 in
      let ea = same-sums e.0 xs in
      let eb = same-sums e.1 ys in
      λ i. record { a = ea i; b = eb i }

  pub formula_of_inverse : lbox_formula (lbox_inverse p) ≡ p
  unfolding lbox_formula lbox_inverse rotl number bit odd
  formula_of_inverse =
      let d = inverse xs ys in
      let e = direct d.0 d.1 in
      let ea = same-sums e.0 xs in
      let eb = same-sums e.1 ys in
      λ i. record { a = ea i; b = eb i }

pub lbox-fit : (p : Pair) → Fit2 (lbox p)
unfolding lbox sum
lbox-fit p =
    record {
      fa = sum_lt 32 (record { of_x = 0xec045008; of_y = 0x36000f60 }) p.a p.b;
      fb = sum_lt 32 (record { of_x = 0x1b0007b0; of_y = 0xec045008 }) p.a p.b;
    }

pub lbox_inverse-fit : (p : Pair) → Fit2 (lbox_inverse p)
unfolding lbox_inverse
lbox_inverse-fit p = record { fa = rotr_lt 32 16 (fa3 bit_xor (rotr 32) p.a p.b); fb = rotr_lt 32 16 (fb3 bit_xor (rotr 32) p.a p.b) }
