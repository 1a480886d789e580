-- The components that Clyde-128 and Shadow-512 share (document 004, section 3.4, Appendices E and F), on four rows of 32 digits: x[i, j] is
-- digit j of row i. 004's `rot` moves a row, written from digit 0 on, to the left: the number is turned to the RIGHT. The first lines
-- printed for the L-box decide that; no inverse does.
-- Assumes nothing.
use Rattle.std.specs.Prelude.{List, [], ◌∷◌, ℕ, zero, suc, ◌+◌, ◌*◌, get_or}
use Rattle.std.specs.Int.Bits.{bit_and, bit_xor}
use Rattle.bits.specs.Digit.{bit}
use Rattle.bits.specs.Number.{number, value}
use Rattle.bits.specs.Rotate.{rotr}
use Rattle.circulant.specs.Circulant.{times}
use Rattle.clyde.specs.declared.Rows.{Rows}
use Rattle.clyde.specs.declared.Pair.{Pair}
use Rattle.clyde.specs.Formulas.{e0, e1, e2, e3, fa4, fb4}

abbrev pub rows : ℕ → ℕ → ℕ → ℕ → Rows
rows x0 x1 x2 x3 = record { x0 = x0; x1 = x1; x2 = x2; x3 = x3 }

-- k ⊕ s
unfoldable pub add : Rows → Rows → Rows
add k s = rows (bit_xor s.x0 k.x0) (bit_xor s.x1 k.x1) (bit_xor s.x2 k.x2) (bit_xor s.x3 k.x3)

-- ---- S-box, on each column

-- Table 1: what stands at place x is S(x)
unfoldable pub sbox_table : List ℕ
sbox_table = 0 ∷ 8 ∷ 1 ∷ 15 ∷ 2 ∷ 10 ∷ 7 ∷ 9 ∷ 4 ∷ 13 ∷ 5 ∷ 6 ∷ 14 ∷ 3 ∷ 11 ∷ 12 ∷ []

unfoldable pub sbox : ℕ → ℕ
sbox x = get_or sbox_table x 0

-- x[⋆, j] as a number: row i has the weight 2 ^ i
unfoldable pub column : Rows → ℕ → ℕ
column s j = value (bit s.x0 j) + value (bit s.x1 j) * 2 + value (bit s.x2 j) * 4 + value (bit s.x3 j) * 8

-- the row whose digit j is digit i of the image of column j
unfoldable pub substituted : ℕ → Rows → ℕ
substituted i s = number 32 (λ j. bit (sbox (column s j)) i)

-- the S-box layer
unfoldable pub s_layer : Rows → Rows
s_layer s = rows (substituted 0 s) (substituted 1 s) (substituted 2 s) (substituted 3 s)

-- Appendix E, on all columns at once
unfoldable pub s_inverse : Rows → Rows
s_inverse s =
    rows (e0 bit_xor bit_and s.x0 s.x1 s.x2 s.x3) (e1 bit_xor bit_and s.x0 s.x1 s.x2 s.x3)
    (e2 bit_xor bit_and s.x0 s.x1 s.x2 s.x3) (e3 bit_xor bit_and s.x0 s.x1 s.x2 s.x3)

-- ---- L-box, on a pair of rows

-- L'(x, y), by the lines as printed
unfoldable pub lbox : Pair → Pair
lbox p =
    record {
      a = bit_xor (times 32 0xec045008 p.a) (times 32 0x36000f60 p.b);
      b = bit_xor (times 32 0x1b0007b0 p.a) (times 32 0xec045008 p.b);
    }

-- Appendix F
unfoldable pub lbox_inverse : Pair → Pair
lbox_inverse p = record { a = fa4 bit_xor (rotr 32) p.a p.b; b = fb4 bit_xor (rotr 32) p.a p.b }

-- the L-box layer: L on rows 0 and 1 and on rows 2 and 3
unfoldable pub on_pairs : (Pair → Pair) → Rows → Rows
on_pairs l s =
    rows (l (record { a = s.x0; b = s.x1 })).a (l (record { a = s.x0; b = s.x1 })).b
    (l (record { a = s.x2; b = s.x3 })).a (l (record { a = s.x2; b = s.x3 })).b

-- ---- round constants

-- A step of the register of four bits: each moves on by one place, and the last comes round to the first and is added to the second. 004
-- names no step but prints twelve states, and these go from each to the next by it (`Constants`, `printed`).
unfoldable pub register_step : Rows → Rows
register_step w = rows w.x3 (bit_xor w.x0 w.x3) w.x1 w.x2

-- W(r), the register after r steps: each bit stands at digit 0 of its row
unfoldable pub W : ℕ → Rows
W zero = rows 1 0 0 0
W (suc r) = register_step (W r)
