-- Clyde-128 (document 004, section 3.2): the tweakeys, Algorithm 1 with six steps, its inverse, and both as twelve rounds.
-- Assumes nothing.
use Rattle.std.specs.Prelude.{List, ◌++◌, ℕ, ◌+◌, ◌-◌, ◌*◌, ◌/◌, ◌%◌, take, drop, eqb}
use Rattle.std.specs.Int.Bits.{bit_xor}
use Rattle.bits.specs.LittleEndian.{le_bytes, from_le}
use Rattle.bits.specs.Pick.{pick}
use Rattle.bits.specs.Run.{turns}
use Rattle.clyde.specs.declared.Rows.{Rows}
use Rattle.clyde.specs.Back.{back}
use Rattle.clyde.specs.Components.{rows, add, s_layer, s_inverse, lbox, lbox_inverse, on_pairs, W}

-- ---- x[i, j] = B[32 i + j]: byte 0 is the least significant byte of row 0

unfoldable pub rows_of : List ℕ → Rows
rows_of s =
    rows (from_le (take 4 (drop 0 s))) (from_le (take 4 (drop 4 s))) (from_le (take 4 (drop 8 s))) (from_le (take 4 (drop 12 s)))

unfoldable pub bytes_of : Rows → List ℕ
bytes_of s = le_bytes 4 s.x0 ++ le_bytes 4 s.x1 ++ le_bytes 4 s.x2 ++ le_bytes 4 s.x3

-- ---- tweakeys

-- what is added to the key, of the tweak t0 ‖ t1, t0 being rows 0 and 1: as i % 3 is 0, 1 or 2
unfoldable pub delta : Rows → ℕ → Rows
delta t i =
    pick (eqb (i % 3) 0) t
    (pick (eqb (i % 3) 1)
    (rows (bit_xor t.x0 t.x2) (bit_xor t.x1 t.x3) t.x0 t.x1)
    (rows t.x2 t.x3 (bit_xor t.x0 t.x2) (bit_xor t.x1 t.x3)))

-- TK(i) of the key k and the tweak t
unfoldable pub TK : Rows → Rows → ℕ → Rows
TK k t i = add (delta t i) k

-- ---- Algorithm 1

-- S-box layer, L-box layer, constant addition
unfoldable pub round : ℕ → Rows → Rows
round r s = add (W r) (on_pairs lbox (s_layer s))

-- step σ = n: two rounds and a tweakey addition
unfoldable pub step : Rows → Rows → ℕ → Rows → Rows
step k t n s = add (TK k t (n + 1)) (round (2 * n + 1) (round (2 * n) s))

unfoldable pub clyde : Rows → Rows → Rows → Rows
clyde k t s = turns (step k t) 6 (add (TK k t 0) s)

-- ---- the same backwards

unfoldable pub round_inverse : ℕ → Rows → Rows
round_inverse r s = s_inverse (on_pairs lbox_inverse (add (W r) s))

unfoldable pub step_inverse : Rows → Rows → ℕ → Rows → Rows
step_inverse k t n s = round_inverse (2 * n) (round_inverse (2 * n + 1) (add (TK k t (n + 1)) s))

-- steps 5, 4, .., 0
unfoldable pub clyde_inverse : Rows → Rows → Rows → Rows
clyde_inverse k t s = add (TK k t 0) (back (step_inverse k t) 6 s)

-- ---- both on a key, a tweak and a block of 16 bytes each

unfoldable pub clyde_bytes : List ℕ → List ℕ → List ℕ → List ℕ
clyde_bytes k t s = bytes_of (clyde (rows_of k) (rows_of t) (rows_of s))

unfoldable pub clyde_bytes_inverse : List ℕ → List ℕ → List ℕ → List ℕ
clyde_bytes_inverse k t s = bytes_of (clyde_inverse (rows_of k) (rows_of t) (rows_of s))

-- ---- both as twelve rounds: a tweakey addition goes with the round before it, the first with the first round

-- a tweakey added before round 0
unfoldable pub first : Rows → ℕ → Rows → Rows
first k i s = pick (eqb i 0) (add k s) s

-- a tweakey added after every second round
unfoldable pub second : Rows → ℕ → Rows → Rows
second k i s = pick (eqb (i % 2) 1) (add k s) s

unfoldable pub clyde_round : Rows → Rows → ℕ → Rows → Rows
clyde_round k t i s = second (TK k t ((i + 1) / 2)) i (round i (first (TK k t 0) i s))

-- round i in the order of execution undoes round 11 - i
unfoldable pub clyde_round_inverse : Rows → Rows → ℕ → Rows → Rows
clyde_round_inverse k t i s = second (TK k t (6 - (i + 1) / 2)) i (round_inverse (11 - i) (first (TK k t 6) i s))
