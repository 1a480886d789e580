-- The S-box computed on all columns at once is the table applied to each column. The formula is written once, over the operations: on
-- words of 64 digits it is what the code computes, and on single digits what that gives in one column, which is compared with the table
-- at all 32 columns.
-- Assumes nothing.
use mathlib.Core.Path.{◌≡◌, refl, ◌∙◌}
use mathlib.Core.Bool.{Bool, true, not, ◌&&◌, ◌||◌}
use Prim.Native.Nat.{ℕ, ◌-◌, ◌^◌}
use lib.Bits.{bit_and, bit_or, bit_xor}
use Rattle.bits.specs.Digit.{odd, bit, ◌⊕◌}
use Rattle.bits.specs.Number.{number_cong}
use Rattle.bits.specs.Word.{Digits, own, digits_is, xor-digits, and-digits, or_digits, not_digits}
use Rattle.bits.specs.Every.{both, same5, same5_at}
use Rattle.ascon.specs.declared.Words.{Words}
use Rattle.ascon.specs.Permutation.{sbox_table, sbox, five, column, substituted, p_s}
use Rattle.ascon.specs.Laws.{Fit}

-- ---- the formula

module _ {A : Type 0} (xor and or : A → A → A) (inv : A → A) (x0 x1 x2 x3 x4 : A) where
  abbrev sum0 : A
  sum0 = xor x0 x4

  abbrev sum2 : A
  sum2 = xor x1 x2

  abbrev sum4 : A
  sum4 = xor x3 x4

  abbrev out0 : A
  out0 = xor (or x1 (xor sum0 x2)) sum4

  abbrev out1 : A
  out1 = xor (xor (or x3 sum2) (and x1 x2)) sum0

  abbrev out2 : A
  out2 = xor (or x3 (inv x4)) sum2

  abbrev out3 : A
  out3 = xor (or x0 sum4) sum2

  abbrev out4 : A
  out4 = xor (and x1 (inv sum0)) sum4

-- on words of 64 digits
abbrev inverted : ℕ → ℕ
inverted a = 2 ^ 64 - 1 - a

-- ---- the table

-- bit j of the S-box at a column
abbrev image : ℕ → Bool → Bool → Bool → Bool → Bool → Bool
image j a b c d e = bit (sbox (five a b c d e)) j

table0 : same5 (out0 ◌⊕◌ ◌&&◌ ◌||◌ not) (image 4) ≡ true
unfolding bit odd sbox sbox_table five same5 both
table0 = refl

table1 : same5 (out1 ◌⊕◌ ◌&&◌ ◌||◌ not) (image 3) ≡ true
unfolding bit odd sbox sbox_table five same5 both
table1 = refl

table2 : same5 (out2 ◌⊕◌ ◌&&◌ ◌||◌ not) (image 2) ≡ true
unfolding bit odd sbox sbox_table five same5 both
table2 = refl

table3 : same5 (out3 ◌⊕◌ ◌&&◌ ◌||◌ not) (image 1) ≡ true
unfolding bit odd sbox sbox_table five same5 both
table3 = refl

table4 : same5 (out4 ◌⊕◌ ◌&&◌ ◌||◌ not) (image 0) ≡ true
unfolding bit odd sbox sbox_table five same5 both
table4 = refl

-- ---- the five words

module _ (s : Words) (h : Fit s) where
  -- f at each column
  abbrev columns : (Bool → Bool → Bool → Bool → Bool → Bool) → ℕ → Bool
  columns f k = f (bit s.x0 k) (bit s.x1 k) (bit s.x2 k) (bit s.x3 k) (bit s.x4 k)

  -- a word whose digits are in each column what the table gives there is the specification's
  in_columns : (j : ℕ) (f : Bool → Bool → Bool → Bool → Bool → Bool) → same5 f (image j) ≡ true
      → {x : ℕ} → Digits 64 x (columns f) → x ≡ substituted j s
  unfolding substituted column
  in_columns j f t d =
      digits_is d
      ∙ number_cong 64 (columns f) (λ k. bit (sbox (column s k)) j)
      (λ k l. same5_at f (image j) t (bit s.x0 k) (bit s.x1 k) (bit s.x2 k) (bit s.x3 k) (bit s.x4 k))

  abbrev sliced : Words
  sliced =
      record {
        x0 = out0 bit_xor bit_and bit_or inverted s.x0 s.x1 s.x2 s.x3 s.x4;
        x1 = out1 bit_xor bit_and bit_or inverted s.x0 s.x1 s.x2 s.x3 s.x4;
        x2 = out2 bit_xor bit_and bit_or inverted s.x0 s.x1 s.x2 s.x3 s.x4;
        x3 = out3 bit_xor bit_and bit_or inverted s.x0 s.x1 s.x2 s.x3 s.x4;
        x4 = out4 bit_xor bit_and bit_or inverted s.x0 s.x1 s.x2 s.x3 s.x4;
      }

  pub sliced_is : sliced ≡ p_s s
  unfolding p_s
  sliced_is =
      let d0 = own h.f0 in
      let d1 = own h.f1 in
      let d2 = own h.f2 in
      let d3 = own h.f3 in
      let d4 = own h.f4 in
      let a0 = xor-digits d0 d4 in
      let a2 = xor-digits d1 d2 in
      let a4 = xor-digits d3 d4 in
      let e0 = in_columns 4 (out0 ◌⊕◌ ◌&&◌ ◌||◌ not) table0 (xor-digits (or_digits d1 (xor-digits a0 d2)) a4) in
      let e1 = in_columns 3 (out1 ◌⊕◌ ◌&&◌ ◌||◌ not) table1 (xor-digits (xor-digits (or_digits d3 a2) (and-digits d1 d2)) a0) in
      let e2 = in_columns 2 (out2 ◌⊕◌ ◌&&◌ ◌||◌ not) table2 (xor-digits (or_digits d3 (not_digits d4)) a2) in
      let e3 = in_columns 1 (out3 ◌⊕◌ ◌&&◌ ◌||◌ not) table3 (xor-digits (or_digits d0 a4) a2) in
      let e4 = in_columns 0 (out4 ◌⊕◌ ◌&&◌ ◌||◌ not) table4 (xor-digits (and-digits d1 (not_digits a0)) a4) in
      λ i. record { x0 = e0 i; x1 = e1 i; x2 = e2 i; x3 = e3 i; x4 = e4 i }
