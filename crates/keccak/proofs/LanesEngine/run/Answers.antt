use Rattle.std.proofs.Common.{ap, arith, suc, sym, ℕ, ◌+◌, ◌<◌, ◌∙◌, ◌≡◌}
use Rattle.bits.specs.Digit.{bit}
use Rattle.bits.specs.Run.{rounds_none, rounds-next}
use Rattle.keccak.specs.Agree.{round-steps}
use Rattle.keccak.specs.Ahead.{ahead, later, spread}
use Rattle.keccak.specs.Fips202.{RC, keccak_round}
use Rattle.keccak.specs.Lanes.{array_of, bytes_of}
use Rattle.keccak.proofs.AheadLaws.{later-ahead, constant_bits}
use Rattle.keccak.proofs.ByteLaws.{round-bytes}
use Rattle.keccak.proofs.LanesEngine.run.Goals as goal

pub loop-init : goal.loop-init
loop-init c =
    let from = c.args.from in
    let first : from ≡ from + 0 = omega arith in
    (sym (rounds_none keccak_round from (bytes_of c.args.self.planes)), c.start-w.ensures ∙ ap ahead first)

pub loop-preserved : goal.loop-preserved
loop-preserved c =
    let from = c.args.from in
    let at = c.loop in
    let i : ℕ = from + at.counter in
    let low : i < 20 = omega arith in
    let bits : (z : ℕ) → z < 16 → bit c.constant-c.result z ≡ RC i z = λ z h.
    ap (λ (v : ℕ). bit v z) (c.constant-c.ensures ∙ ap spread at.invariant.1) ∙ constant_bits i z low h in
    let lanes : bytes_of c.iota-planes.result ≡ keccak_round i (bytes_of at.planes) =
    round-bytes i at.planes c.iota-planes.result
    (round-steps i (array_of at.planes) (array_of c.theta.result) (array_of c.rho_pi.result) (array_of c.chi.result) (array_of c.iota-planes.result)
    c.theta.ensures c.rho_pi.ensures c.chi.ensures (c.iota-planes.ensures i bits)) in
    let on : suc i ≡ from + (at.counter + 1) = omega arith in (
      rounds-next keccak_round from at.counter (bytes_of c.args.self.planes) (bytes_of at.planes) (bytes_of c.iota-planes.result) at.invariant.0 lanes,
      c.next-after.ensures ∙ ap later at.invariant.1 ∙ later-ahead i low ∙ ap ahead on,
    )
