use Rattle.std.proofs.Common.{arith, length, rules, subst, ℕ, ◌≡◌}
use Rattle.strings.proofs.Agreeing.{Agree, agree_more, agree-front}
use Rattle.strings.proofs.same_front.Goals as goal

pub loop-i-preserved : goal.loop-i-preserved
loop-i-preserved c = agree_more c.loop-i.invariant

pub returns : goal.returns
returns c =
    let l = c.loop-i in
    let put = c.put_at-placed in
    let a = c.args in
    let long : length a.sixteen ≡ 16 = search rules in
    let state-long : length a.state ≡ 64 = search rules in
    let e : l.i ≡ length a.state = omega arith in
    agree-front 16 a.sixteen a.state put.result l.differing long (omega arith) put.ensures
    (subst (λ (k : ℕ). Agree put.result a.state k l.differing) e l.invariant)
