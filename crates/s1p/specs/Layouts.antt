-- Section 3.1's bits: bit 8 j + i of a string is bit i of byte j (BMAP). That the padding, the marks, the state that takes a block and the
-- closing tweak are, so read, those of Algorithm 3 is shown in proofs/ (`Layouts`).
-- Assumes nothing.
use Rattle.std.specs.Prelude.{Bool, false, ℕ, eqb}
use mathlib.Core.List.{List}
use Rattle.std.proofs.Math.ListN.{get_or}
use Rattle.bits.specs.Pick.{pick}
use Rattle.bits.specs.Digit.{bit}

-- bit i of byte j
abbrev pub at : List ℕ → ℕ → ℕ → Bool
at s j i = bit (get_or s j 0) i

-- a byte v at n changes the bits of that byte alone
abbrev pub only : (n v j i : ℕ) → Bool
only n v j i = pick (eqb j n) (bit v i) false
