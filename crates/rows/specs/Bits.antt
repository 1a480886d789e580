-- A bit of a string enters the state.
-- Assumes nothing.
use Rattle.std.specs.Prelude.{List, ℕ}
use Rattle.mode.specs.Strings.{bit_at, xor_bit}

abbrev pub bit_in : List ℕ → ℕ → List ℕ → List ℕ
bit_in y i s = xor_bit (bit_at y i) s
