-- Where the blocks of a string end: at a number that the code can hold.
-- Assumes nothing.
use Rattle.std.specs.Prelude.{ℕ, ◌+◌, ◌*◌, ◌≤◌, ◌<◌}
use Rattle.std.proofs.Common.{mul-le-mul, arith}

-- where a block ends is a number of 64 bits, whatever the string's length
pub end_fits : (i b : ℕ) → i ≤ 8589934592 → b ≤ 64 → i * b + b < 18446744073709551616
end_fits i b h k = omega (arith, mul-le-mul h k)
