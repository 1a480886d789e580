-- What the counting functions compute, from an instance's numbers, is what the formulas say, and no product is too large.
-- Assumes nothing.
use mathlib.Core.Path.{◌≡◌}
use Prim.Native.Nat.{ℕ, ◌+◌, ◌-◌, ◌*◌, ◌/◌, ◌≤◌, ◌<◌}
use native.Mathlib.Omega.{arith}
use Rattle.mode.specs.Paper.{blocks}
use Rattle.mode.specs.Instances.{params_of}
use Rattle.mode.specs.InstanceLaws.{lawful_instance}
use Rattle.mode.specs.Counts.{rekey_rounds, verify_rounds, encrypt_rounds}
use Rattle.plan.specs.declared.numbers.Numbers.{Numbers}
use Rattle.plan.specs.Numbers.{OfInstance}

module _ (i : ℕ) (q : Numbers) (of : OfInstance i q) where
  -- each round count is from 1 to 20
  pub rounds_fit : (0 < q.sb) × (q.sb ≤ 20) × (0 < q.se) × (q.se ≤ 20) × (0 < q.sk) × (q.sk ≤ 20) × (0 < q.sh) × (q.sh ≤ 20)
  rounds_fit =
      let l = lawful_instance i in (
        omega (arith, of.sb, l.some_b),
        omega (arith, of.sb_most),
        omega (arith, of.se, l.some_e),
        omega (arith, of.se_most),
        omega (arith, of.sk, l.some_k),
        omega (arith, of.sk_most),
        omega (arith, of.sh, l.some_h),
        omega (arith, of.sh_most, of.most_most),
      )

  pub rekey_is : 2 * q.sk + 127 * q.sb ≡ rekey_rounds (params_of i)
  unfolding rekey_rounds
  rekey_is = omega (arith, of.sk, of.sb)

  pub verify_is : (a m r : ℕ) → r ≡ rekey_rounds (params_of i) → q.sh * (a / q.b + m / q.b + 4) + r ≡ verify_rounds (params_of i) a m
  unfolding verify_rounds
  verify_is a m r e = λ j. of.sh j * (a / of.b j + m / of.b j + 4) + e j

  pub blocks_is : (m : ℕ) → (m + (q.b - 1)) / q.b ≡ blocks (params_of i) m
  unfolding blocks
  blocks_is m = λ j. (m + (of.b j - 1)) / of.b j

  pub encrypt_is : (m r k : ℕ) → r ≡ rekey_rounds (params_of i) → k ≡ blocks (params_of i) m → r + q.se * k ≡ encrypt_rounds (params_of i) m
  unfolding encrypt_rounds
  encrypt_is m r k e d = λ j. e j + of.se j * d j
