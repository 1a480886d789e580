use Rattle.std.proofs.Common.{ap, arith, sym, ℕ, ◌-◌, ◌∙◌, ◌≡◌}
use Rattle.std.proofs.Math.Nat.{sub_self}
use Rattle.bits.specs.Run.{rounds, rounds_none, rounds_next-at}
use Rattle.clyde.specs.Sbox.{Fit}
use Rattle.shadow.specs.Shadow.{round}
use Rattle.shadow.specs.OnBytes.{bundle_bytes, rounds-bytes}
use Rattle.shadow.proofs.BundlesEngine.run.Goals as goal

pub loop-i-init : goal.loop-i-init
loop-i-init c =
    let a = c.args in
    sym (ap (λ (k : ℕ). rounds round a.from k a.self) (sub_self a.from) ∙ rounds_none round a.from a.self)

pub loop-i-preserved : goal.loop-i-preserved
loop-i-preserved c =
    let l = c.loop-i in
    rounds_next-at round c.args.from l.i c.args.self l.bundles c.round-bundles.result l.auto.i l.invariant c.round-bundles.ensures

pub returns : goal.returns
returns c =
    let a = c.args in
    let x = a.self in
    let all : c.loop-i.i - a.from ≡ a.count = omega arith in
    let f0 : Fit x.b0 = omega (arith, c.well_formed) in
    let f1 : Fit x.b1 = omega (arith, c.well_formed) in
    let f2 : Fit x.b2 = omega (arith, c.well_formed) in
    let f3 : Fit x.b3 = omega (arith, c.well_formed) in
    ap bundle_bytes (c.loop-i.invariant ∙ ap (λ (n : ℕ). rounds round a.from n x) all)
    ∙ rounds-bytes a.from a.count x (record { f0 = f0; f1 = f1; f2 = f2; f3 = f3 })
