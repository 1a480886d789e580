-- Where the blocks of a string start: within it.
-- Assumes nothing.
use Rattle.std.specs.Prelude.{ℕ, ◌+◌, ◌-◌, ◌*◌, ◌/◌, ◌≤◌, ◌<◌}
use Rattle.std.proofs.Common.{le_trans, mul-le-mul_right, div-mul-le_self, suc-mul, arith}
use Rattle.mode.specs.Params.{Params}
use Rattle.mode.specs.Paper.{blocks}

-- where a block of a padded string starts
pub pad_offset : (i m b : ℕ) → i < m / b + 1 → i * b ≤ m
pad_offset i m b h = let k : i ≤ m / b = omega arith in le_trans (mul-le-mul_right b k) (div-mul-le_self m b)

-- where a block of text starts
pub text_offset : (p : Params) (i m : ℕ) → 0 < p.b → i < blocks p m → i * p.b ≤ m
unfolding blocks
text_offset p i m pos h =
    omega (arith, mul-le-mul_right p.b h, div-mul-le_self (m + (p.b - 1)) p.b, suc-mul i p.b)
