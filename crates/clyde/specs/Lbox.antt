-- The L-box: the formulas of document 004 are the circulant matrices, and L-box and inverse undo one another in either order. A proof goes
-- along a formula (`circulant`, `Sum`); the first lines at its end are computed, from (1, 0) and (0, 1).
-- Assumes nothing.
use Rattle.std.specs.Prelude.{◌^◌, ◌<◌}
use Rattle.std.specs.Int.Bits.{bit_xor}
use Rattle.bits.specs.Rotate.{rotr}
use Rattle.clyde.specs.declared.Pair.{Pair}
use Rattle.clyde.specs.Formulas.{la5, lb5}

-- both words have 32 digits
pub record Fit2 (p : Pair) : Type 0 where
  pub fa : p.a < 2 ^ 32
  pub fb : p.b < 2 ^ 32

-- the formulas of section 3.4, on words
unfoldable pub lbox_formula : Pair → Pair
lbox_formula p = record { a = la5 bit_xor (rotr 32) p.a p.b; b = lb5 bit_xor (rotr 32) p.a p.b }
