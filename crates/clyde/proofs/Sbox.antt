-- The S-box: the formulas of document 004 on all columns at once are the table on each column, and S-box and inverse undo one another in
-- either order. A proof goes along a formula (`bits`, `Word`), and what it gives in one column is compared at all 16 columns.
-- Assumes nothing.
use Rattle.std.specs.Prelude.{◌≡◌, Bool, true, ◌&&◌, ℕ, ◌+◌, ◌*◌}
use Rattle.std.proofs.Math.Path.{refl, ap}
use Rattle.std.proofs.Common.{sym, ◌∙◌}
use Rattle.bits.specs.Digit.{odd, bit, ◌⊕◌}
use Rattle.bits.specs.Number.{value}
use Rattle.bits.specs.Word.{Digits, own, same_digits, xor-digits, and-digits}
use Rattle.bits.specs.Every.{both}
use Rattle.circulant.specs.Columns.{Of4, same4, same4_at, number_digits}
use Rattle.clyde.specs.declared.Rows.{Rows}
use Rattle.clyde.specs.Formulas.{s0, s1, s2, s3, e0, e1, e2, e3}
use Rattle.clyde.specs.Components.{sbox_table, sbox, column, substituted, s_layer, s_inverse}
use Rattle.clyde.specs.Sbox.{Fit, s_formula}

-- digit i of the S-box at a column
abbrev image : ℕ → Of4
image i a b c d = bit (sbox (value a + value b * 2 + value c * 4 + value d * 8)) i

-- ---- rows by their columns

-- f at column k of s
abbrev at : Rows → Of4 → ℕ → Bool
at s f k = f (bit s.x0 k) (bit s.x1 k) (bit s.x2 k) (bit s.x3 k)

-- the rows t have in each column what g0, .., g3 give of that column of s
record In (s t : Rows) (g0 g1 g2 g3 : Of4) : Type 0 where
  d0 : Digits 32 t.x0 (at s g0)
  d1 : Digits 32 t.x1 (at s g1)
  d2 : Digits 32 t.x2 (at s g2)
  d3 : Digits 32 t.x3 (at s g3)

itself : (s : Rows) → Fit s → In s s (λ a b c d. a) (λ a b c d. b) (λ a b c d. c) (λ a b c d. d)
itself s h = record { d0 = own h.f0; d1 = own h.f1; d2 = own h.f2; d3 = own h.f3 }

by_table : (s : Rows) → In s (s_layer s) (image 0) (image 1) (image 2) (image 3)
unfolding s_layer substituted column
by_table s = record { d0 = row 0; d1 = row 1; d2 = row 2; d3 = row 3 }
  where
    row : (i : ℕ) → Digits 32 (substituted i s) (at s (image i))
    row i = number_digits 32 (at s (image i))

module _ {s t : Rows} {g0 g1 g2 g3 : Of4} (r : In s t g0 g1 g2 g3) where
  -- f of what the four functions give
  abbrev over : Of4 → Of4
  over f a b c d = f (g0 a b c d) (g1 a b c d) (g2 a b c d) (g3 a b c d)

  direct : In s (s_formula t) (over (s0 ◌⊕◌ ◌&&◌)) (over (s1 ◌⊕◌ ◌&&◌)) (over (s2 ◌⊕◌ ◌&&◌)) (over (s3 ◌⊕◌ ◌&&◌))
  unfolding s_formula
  direct =
      let y1 = xor-digits (and-digits r.d0 r.d1) r.d2 in
      let y0 = xor-digits (and-digits r.d3 r.d0) r.d1 in
      let y3 = xor-digits (and-digits y1 r.d3) r.d0 in
      let y2 = xor-digits (and-digits y0 y1) r.d3 in
      record { d0 = y0; d1 = y1; d2 = y2; d3 = y3 }

  inverse : In s (s_inverse t) (over (e0 ◌⊕◌ ◌&&◌)) (over (e1 ◌⊕◌ ◌&&◌)) (over (e2 ◌⊕◌ ◌&&◌)) (over (e3 ◌⊕◌ ◌&&◌))
  unfolding s_inverse
  inverse =
      let y3 = xor-digits (and-digits r.d0 r.d1) r.d2 in
      let y0 = xor-digits (and-digits r.d1 y3) r.d3 in
      let y1 = xor-digits (and-digits y3 y0) r.d0 in
      let y2 = xor-digits (and-digits y0 y1) r.d1 in
      record { d0 = y0; d1 = y1; d2 = y2; d3 = y3 }

  -- rows that have the same in all sixteen columns are equal
  same : {u : Rows} {h0 h1 h2 h3 : Of4} → In s u h0 h1 h2 h3
      → same4 g0 h0 ≡ true → same4 g1 h1 ≡ true → same4 g2 h2 ≡ true → same4 g3 h3 ≡ true → t ≡ u
  same {h0 = h0} {h1 = h1} {h2 = h2} {h3 = h3} q t0 t1 t2 t3 =
      let p0 = row g0 h0 t0 r.d0 q.d0 in
      let p1 = row g1 h1 t1 r.d1 q.d1 in
      let p2 = row g2 h2 t2 r.d2 q.d2 in
      let p3 = row g3 h3 t3 r.d3 q.d3 in
      λ i. record { x0 = p0 i; x1 = p1 i; x2 = p2 i; x3 = p3 i }
    where
      row : (f g : Of4) → same4 f g ≡ true → {x y : ℕ} → Digits 32 x (at s f) → Digits 32 y (at s g) → x ≡ y
      row f g e p q = same_digits p q (λ k l. same4_at f g e (bit s.x0 k) (bit s.x1 k) (bit s.x2 k) (bit s.x3 k))

-- ---- the formulas are the table, and one undoes the other

module _ (s : Rows) (h : Fit s) where
  pub s_formula_lem : s_formula s ≡ s_layer s
  unfolding same4 both sbox sbox_table bit odd
  s_formula_lem = same (direct (itself s h)) (by_table s) refl refl refl refl

  pub s_undone : s_inverse (s_layer s) ≡ s
  unfolding same4 both
  s_undone = ap s_inverse (sym s_formula_lem) ∙ same (inverse (direct (itself s h))) (itself s h) refl refl refl refl

  pub s_inverse-fit : Fit (s_inverse s)
  s_inverse-fit =
      let r = inverse (itself s h) in
      record { f0 = r.d0.fits; f1 = r.d1.fits; f2 = r.d2.fits; f3 = r.d3.fits }

pub s_undoes : (s : Rows) → Fit s → s_layer (s_inverse s) ≡ s
unfolding same4 both
s_undoes s h = sym (s_formula_lem (s_inverse s) (s_inverse-fit s h)) ∙ same (direct (inverse (itself s h))) (itself s h) refl refl refl refl

pub s_layer-fit : (s : Rows) → Fit (s_layer s)
s_layer-fit s =
    let r = by_table s in
    record { f0 = r.d0.fits; f1 = r.d1.fits; f2 = r.d2.fits; f3 = r.d3.fits }
