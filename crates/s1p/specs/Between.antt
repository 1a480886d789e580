-- Request (iv)'s rule between two rounds, in numbers: after how many rounds the closing call begins, and which blocks of text are written
-- after n rounds of a walk that writes. `Sessions` and `Outputs` show that a job stopped after n rounds is so.
-- Assumes nothing.
use Rattle.std.specs.Prelude.{◌≡◌, ◌↔◌, ℕ, suc, ◌+◌, ◌-◌, ◌*◌, ◌/◌, ◌≤◌, ◌<◌, min}
use Rattle.std.proofs.Common.{le-div_iff_mul-le, arith, lit<}
use Rattle.s1p.specs.Paper.{blocks}
use Rattle.s1p.specs.Counts.{verify_rounds}

-- the rounds before the closing call, for a bytes of data and m of text: the seed's and 1 + u + v Shadow calls
unfoldable pub close_after : (a m : ℕ) → ℕ
close_after a m = 12 + 12 * (1 + blocks a + blocks m)

pub close_last : (a m : ℕ) → close_after a m + 12 ≡ verify_rounds a m
unfolding close_after verify_rounds
close_last a m = omega arith

-- of the text's blocks, how many are written after n rounds of the walk: none before the Shadow call that is the last before the text,
-- and then one with every call
unfoldable pub blocks_written : (a m n : ℕ) → ℕ
blocks_written a m n = min (blocks m) ((n - 12 * (1 + blocks a)) / 12)

-- block i is written from round 24 + 12 (u + i) on, and not before
pub block_written_lem : (a m n i : ℕ) → i < blocks m → (i < blocks_written a m n) ↔ (24 + 12 * (blocks a + i) ≤ n)
unfolding blocks_written
block_written_lem a m n i h =
    let some : 0 < 12 = lit< tt in
    let d = le-div_iff_mul-le {x = suc i} {y = n - 12 * (1 + blocks a)} some in
    (λ w. omega (arith, d.0 (omega arith)), λ r. omega (arith, d.1 (omega arith)))
