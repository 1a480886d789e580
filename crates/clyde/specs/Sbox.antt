-- The S-box: the formulas of document 004 on all columns at once are the table on each column, and S-box and inverse undo one another in
-- either order. A proof goes along a formula (`bits`, `Word`), and what it gives in one column is compared at all 16 columns.
-- Assumes nothing.
use Rattle.std.specs.Prelude.{◌^◌, ◌<◌}
use Rattle.std.specs.Int.Bits.{bit_and, bit_xor}
use Rattle.clyde.specs.declared.Rows.{Rows}
use Rattle.clyde.specs.Formulas.{s0, s1, s2, s3}

-- every row has 32 digits
pub record Fit (s : Rows) : Type 0 where
  pub f0 : s.x0 < 2 ^ 32
  pub f1 : s.x1 < 2 ^ 32
  pub f2 : s.x2 < 2 ^ 32
  pub f3 : s.x3 < 2 ^ 32

-- the formulas of section 3.4, on rows
unfoldable pub s_formula : Rows → Rows
s_formula s =
    record {
      x0 = s0 bit_xor bit_and s.x0 s.x1 s.x2 s.x3;
      x1 = s1 bit_xor bit_and s.x0 s.x1 s.x2 s.x3;
      x2 = s2 bit_xor bit_and s.x0 s.x1 s.x2 s.x3;
      x3 = s3 bit_xor bit_and s.x0 s.x1 s.x2 s.x3;
    }
