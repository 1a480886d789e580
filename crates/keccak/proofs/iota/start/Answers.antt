use Rattle.std.proofs.Common.{ap, arith, suc, sym, ℕ, ◌+◌, ◌-◌, ◌∙◌, ◌≡◌}
use Rattle.bits.specs.Number.{number}
use Rattle.keccak.specs.Ahead.{ahead, earlier}
use Rattle.keccak.specs.Fips202.{start, shifted, register, rc}
use Rattle.keccak.proofs.AheadLaws.{earlier-ahead}
use Rattle.keccak.proofs.iota.start.Goals as goal

pub loop-left-init : goal.loop-left-init
unfolding ahead number rc register shifted start
loop-left-init c =
    let all : c.args.i + (20 - c.args.i) ≡ 20 = omega arith in
    (omega arith, sym (ap ahead all))

pub loop-left-preserved : goal.loop-left-preserved
loop-left-preserved c =
    let n = c.min-n.result in
    let i = c.args.i in
    let inv = c.loop-left.invariant in
    let j : ℕ = i + (c.loop-left.left - n) in
    let m : ℕ = n - 1 in
    let one : n ≡ suc m = omega (arith, c.min-n.ensures) in
    let from : i + c.loop-left.left ≡ j + suc m = omega (arith, c.min-n.ensures) in (
      omega (arith, c.min-n.ensures),
      c.earlier-w.ensures ∙ (λ k. earlier (one k) (inv.1 k)) ∙ ap (λ (v : ℕ). earlier (suc m) (ahead v)) from
          ∙ earlier-ahead m j (omega (arith, c.min-n.ensures)) (omega (arith, c.min-n.ensures)),
    )
