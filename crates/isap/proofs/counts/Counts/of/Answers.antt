-- `isap::counts::Counts::of` meets its contract.
-- Assumes nothing.
use Rattle.std.proofs.Common.{Bool, arith, ℕ, ◌∙◌, ◌≡◌}
use Rattle.instances.specs.Schemes.{scheme_of}
use Rattle.isap.specs.declared.Job.{Job}
use Rattle.isap.specs.Records.{sealing_of, front_of, back_of}
use Rattle.isap.specs.Sofar.{Timed}
use Rattle.isap.proofs.Going.{total_of_lem}
use Rattle.isap.proofs.counts.Counts.of.Goals as goal

timed : (j : Job) (i a m : ℕ) (b : Bool) → i ≡ j.instance → b ≡ sealing_of j.direction → a ≡ j.assoc → m ≡ j.text → (front back : ℕ)
    → front ≡ (scheme_of i).front_count b a m → back ≡ (scheme_of i).back_count b a m → Timed scheme_of j front back
unfolding front_of back_of
timed j i a m b ei eb ea em front back f g =
    record {
      front_is = f ∙ (λ k. (scheme_of (ei k)).front_count (eb k) (ea k) (em k));
      back_is = g ∙ (λ k. (scheme_of (ei k)).back_count (eb k) (ea k) (em k));
    }

pub invariant_of-result : goal.invariant_of-result
invariant_of-result c =
    let j = c.args.job in
    let o = c.outline-outline.ensures in
    let t = timed j _ _ _ _ o.instance o.sealing o.assoc o.text _ _ c.front_rounds.ensures c.back_rounds.ensures in
    record { fit = omega (arith, total_of_lem j c.requires.0 c.requires.1) }

pub returns : goal.returns
returns c =
    let o = c.outline-outline.ensures in
    timed c.args.job _ _ _ _ o.instance o.sealing o.assoc o.text _ _ c.front_rounds.ensures c.back_rounds.ensures
