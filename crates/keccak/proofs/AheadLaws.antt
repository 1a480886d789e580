-- The register's bits as the code makes them: those of the next round index, of one, two and three before, and a constant's, computed at
-- every round index; and that the constant's masks bound it.
-- Assumes nothing.
use mathlib.Core.Path.{◌≡◌, refl, ap, ◌∙◌}
use mathlib.Core.Bool.{Bool, true}
use Prim.Native.Nat.{ℕ, suc, ◌+◌, ◌^◌, ◌<◌}
use native.Mathlib.Omega.{arith}
use lib.Bits.{bit_and, bit_or, and_le_r, or_lt}
use lib.Dec.{eqb}
use borrow.Author.Tests.{eqb-true}
use Rattle.bits.specs.Digit.{bit}
use Rattle.bits.specs.Every.{every, every_at}
use Rattle.bits.specs.Number.{number, bit-number}
use Rattle.keccak.specs.Ahead.{ahead, later, earlier, spread}
use Rattle.keccak.specs.Fips202.{start, shifted, register, rc, any, RC}

-- f takes the bits from round index p i on to those from q i on
moved : (f p q : ℕ → ℕ) → ℕ → Bool
moved f p q i = eqb (f (ahead (p i))) (ahead (q i))

moved_at : (n : ℕ) (f p q : ℕ → ℕ) → every n (moved f p q) ≡ true → (i : ℕ) → i < n → f (ahead (p i)) ≡ ahead (q i)
unfolding moved
moved_at n f p q t i h = eqb-true (f (ahead (p i))) (ahead (q i)) (every_at n (moved f p q) t i h)

pub later-ahead : (i : ℕ) → i < 20 → later (ahead i) ≡ ahead (suc i)
unfolding every moved later ahead number rc register shifted start
later-ahead = moved_at 20 later (λ i. i) suc refl

-- suc m rounds back, from every round index that is reached so
back_by : ℕ → Bool
back_by m = every 20 (moved (earlier (suc m)) (λ i. i + suc m) (λ i. i))

all_back : every 3 back_by ≡ true
unfolding back_by every moved earlier ahead number rc register shifted start
all_back = refl

pub earlier-ahead : (m i : ℕ) → m < 3 → i < 20 → earlier (suc m) (ahead (i + suc m)) ≡ ahead i
unfolding back_by
earlier-ahead m i h = moved_at 20 (earlier (suc m)) (λ i. i + suc m) (λ i. i) (every_at 3 back_by all_back m h) i

-- the constant of round index i is right
right : ℕ → Bool
right i = eqb (spread (ahead i)) (number 16 (RC i))

all_right_lem : every 20 right ≡ true
unfolding every right spread ahead number RC any rc register shifted start
all_right_lem = refl

pub constant_bits : (i z : ℕ) → i < 20 → z < 16 → bit (spread (ahead i)) z ≡ RC i z
unfolding right
constant_bits i z h hz =
    ap (λ (n : ℕ). bit n z) (eqb-true (spread (ahead i)) (number 16 (RC i)) (every_at 20 right all_right_lem i h)) ∙ bit-number 16 (RC i) z hz

-- what two masks leave, joined, is below 2^16 as they are
pub masked : (x y m n : ℕ) → m < 2 ^ 16 → n < 2 ^ 16 → bit_or (bit_and x m) (bit_and y n) < 2 ^ 16
masked x y m n hm hn = or_lt 16 (bit_and x m) (bit_and y n) (omega (arith, and_le_r x m)) (omega (arith, and_le_r y n))
