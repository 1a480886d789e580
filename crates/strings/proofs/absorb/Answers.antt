use Rattle.std.proofs.Common.{add-one, sym}
use Rattle.bits.specs.StringLaws.{xor_into_none}
use Rattle.strings.proofs.Placing.{xor_into_more}
use Rattle.strings.proofs.absorb.Goals as goal

pub loop-i-init : goal.loop-i-init
loop-i-init c = sym (xor_into_none c.args.state)

pub loop-i-preserved : goal.loop-i-preserved
loop-i-preserved c =
    let i = c.loop-i.i in
    rw (add-one, c.loop-i.invariant) (xor_into_more c.args.part.now c.args.state i c.loop-i-test.true)
