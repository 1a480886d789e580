-- Clyde-128's rounds on 16 bytes, and the laws that callers go by: rows become bytes and come back unchanged, so a run of rounds on rows is
-- the run on the bytes that they stand for.
-- Assumes nothing.
use Rattle.std.specs.Prelude.{Bool, true, false, get_or}
use mathlib.Core.List.{List, [], ◌∷◌}
use Prim.Native.Nat.{ℕ, ◌/◌, ◌%◌}
use Rattle.bits.specs.Digit.{bit}
use Rattle.bits.specs.Pick.{pick}
use Rattle.clyde.specs.declared.Rows.{Rows}
use Rattle.clyde.specs.declared.Direction.{Direction}
use Rattle.clyde.specs.declared.Direction.TheVariants.{Forward, Back}
use Rattle.clyde.specs.Clyde.{rows_of, bytes_of, clyde_round, clyde_round_inverse}

-- round i of Clyde-128, with the tweakey additions that go with it
unfoldable pub clyde_turn : (key tweak : List ℕ) → ℕ → List ℕ → List ℕ
clyde_turn k t i s = bytes_of (clyde_round (rows_of k) (rows_of t) i (rows_of s))

-- round i of its inverse, in the order of execution
unfoldable pub clyde_turn_back : (key tweak : List ℕ) → ℕ → List ℕ → List ℕ
clyde_turn_back k t i s = bytes_of (clyde_round_inverse (rows_of k) (rows_of t) i (rows_of s))

-- a round in either direction, as the code takes it: on rows, and on bytes
abbrev pub round_by : (back : Bool) → (k t : Rows) → ℕ → Rows → Rows
round_by back = pick back clyde_round_inverse clyde_round

abbrev pub turn_by : (back : Bool) → (key tweak : List ℕ) → ℕ → List ℕ → List ℕ
turn_by back = pick back clyde_turn_back clyde_turn

-- whether a direction is the inverse's
abbrev pub is_back : Direction → Bool
is_back Forward = false
is_back Back = true

-- ---- x[i, j] = B[32 i + j]

abbrev pub row : Rows → ℕ → ℕ
row x i = get_or (x.x0 ∷ x.x1 ∷ x.x2 ∷ x.x3 ∷ []) i 0

-- bit k of a string of bytes (section 3.1, BMAP)
abbrev pub B : List ℕ → ℕ → Bool
B s k = bit (get_or s (k / 8) 0) (k % 8)
