use Rattle.std.proofs.Common.{List, add-one, ap, arith, length, rules, sym, ℕ, ◌++◌, ◌≡◌}
use Rattle.bits.specs.Xors.{xors_none}
use Rattle.strings.proofs.Placing.{xors_more}
use Rattle.strings.proofs.write_block.Goals as goal

pub loop-i-init : goal.loop-i-init
loop-i-init c = ap (λ (u : List ℕ). u ++ c.args.out.now) (sym (xors_none c.args.state))

pub loop-i-preserved : goal.loop-i-preserved
loop-i-preserved c =
    let a = c.args in
    let long : length a.state ≡ 64 = search rules in
    rw (add-one, c.loop-i.invariant) (xors_more a.state a.text.now a.out.now c.loop-i.i c.loop-i-test.true (omega arith) (omega arith))
