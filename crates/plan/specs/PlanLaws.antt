-- Two plans that the statement allows are equal, and every plan is within the largest counts.
-- Assumes nothing.
use Rattle.std.specs.Prelude.{◌≡◌, refl, Bool, true, false, ℕ, ◌≤◌, leb}
use Rattle.std.proofs.Common.{sym, ◌∙◌, arith, leb-true}
use Rattle.bits.specs.Pick.{pick}
use Rattle.scheme.specs.Scheme.{all_count}
use Rattle.instances.specs.Schemes.{known, scheme_of}
use Rattle.instances.specs.Limits.{most_assoc, most_text, most_verify, most_rounds, verification_most, total_most}
use Rattle.plan.specs.declared.Planned.{Planned}
use Rattle.plan.specs.Planned.{unplanned, plan_of, Plans}

pub one_plan : (i a m : ℕ) (r r' : Planned) → Plans i a m r → Plans i a m r' → r ≡ r'
one_plan i a m r r' h k = h ∙ sym k

-- what a plan answers, whatever it is asked
pub record Within (r : Planned) : Type 0 where
  pub number : r.number ≤ 5
  pub verify : r.verify ≤ most_verify
  pub sealing : r.sealing ≤ most_rounds
  pub total : r.total ≤ most_rounds

pub plan_within : (i a m : ℕ) → Within (plan_of i a m)
unfolding plan_of
plan_within i a m = go (known i) (leb a most_assoc) (leb m most_text) refl refl
  where
    go : (b c d : Bool) → leb a most_assoc ≡ c → leb m most_text ≡ d
        → Within
        (pick b
        (pick c
        (pick d
        (record { number = 0; verify = (scheme_of i).front_count false a m; sealing = all_count (scheme_of i) true a m; total = all_count (scheme_of i) false a m })
        (unplanned 5))
        (unplanned 4))
        (unplanned 1))
    go true true true e f =
        let ha = leb-true a most_assoc e in
        let hm = leb-true m most_text f in
        record {
          number = omega arith;
          verify = verification_most i a m ha hm;
          sealing = total_most i true a m ha hm;
          total = total_most i false a m ha hm;
        }
    go true true false e f = record { number = omega arith; verify = omega arith; sealing = omega arith; total = omega arith }
    go true false d e f = record { number = omega arith; verify = omega arith; sealing = omega arith; total = omega arith }
    go false c d e f = record { number = omega arith; verify = omega arith; sealing = omega arith; total = omega arith }
