-- `plan::figures` meets its contract: the rounds of each kind of job within the limits.
-- Assumes nothing.
use Rattle.std.proofs.Common.{arith, false, le-leb, ℕ, ◌+◌, ◌≡◌, true}
use Rattle.scheme.specs.Scheme.{all_count}
use Rattle.instances.specs.Schemes.{scheme_of}
use Rattle.instances.specs.Limits.{most_assoc, most_text, total_most}
use Rattle.plan.specs.Planned.{plan_of}
use Rattle.plan.proofs.ByScheme.{sealing_back}
use Rattle.plan.proofs.figures.Goals as goal

-- a sealing has nothing after its decision
sealing_all : (i a m n : ℕ) → n ≡ (scheme_of i).front_count true a m → n ≡ all_count (scheme_of i) true a m
unfolding all_count
sealing_all i a m n e = omega (arith, e, sealing_back i a m)

pub overflow_add-result : goal.overflow_add-result
unfolding all_count
overflow_add-result c =
    let a = c.args in
    let limits = c.in_ok-within_limits.ensures in
    omega (arith, c.back_rounds.ensures, c.front_rounds-verify.ensures, total_most a.instance false a.a a.m limits.1 limits.2)

pub returns : goal.returns
unfolding plan_of all_count
returns c =
    let a = c.args in
    let limits = c.in_ok-within_limits.ensures in
    let v = c.front_rounds-verify.ensures in
    let s = sealing_all a.instance a.a a.m c.front_rounds.result c.front_rounds.ensures in
    let e = c.back_rounds.ensures in
    simp (limits.0, le-leb _ most_assoc limits.1, le-leb _ most_text limits.2)
    (λ i. record { number = 0; verify = v i; sealing = s i; total = v i + e i })
