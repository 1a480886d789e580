use Rattle.std.proofs.Common.{◌≡◌, ◌-◌, ◌<◌, ℕ, ap, sym, arith}
use Rattle.task.specs.Turns.{served_of, Going, kept_of}
use Rattle.task.specs.TurnLaws.{fewer_left}
use Rattle.isap.specs.declared.Answer.{Answer}
use Rattle.task.specs.declared.Turns.{Turns}
use Rattle.task.proofs.Holds.{goes_on, at_end}
use Rattle.task.proofs.run.Goals as goal

-- what is left falls by each turn
falls : (t s : Turns) (a : Answer) → 0 < t.left → s ≡ served_of t a → s.left < t.left
falls t s a some e =
    let n : ℕ = t.left - 1 in
    let l = fewer_left t a n (omega arith) in
    omega (arith, l, ap (λ (v : Turns). v.left) e)

pub loop-seen-smaller : goal.loop-seen-smaller
loop-seen-smaller c = falls c.loop-seen.seen c.served-seen.result c.slice_kept-answer.result c.loop-seen-test.true c.served-seen.ensures

pub loop-seen-preserved : goal.loop-seen-preserved
loop-seen-preserved c =
    let a = c.args in
    let l = c.loop-seen in
    let s = c.slice_kept-answer in
    goes_on a.job a.assoc.now a.text.now a.out.now a.budget a.turns l.invariant.0 (record { turns = l.seen; job = l.kept; out = l.out }) l.invariant.1
    c.loop-seen-test.true s.result c.served-seen.result s.new.job s.new.out s.ensures c.served-seen.ensures s.auto.out

pub returns : goal.returns
returns c =
    let a = c.args in
    let l = c.loop-seen in
    let e = at_end a.job a.assoc.now a.text.now a.out.now a.budget a.turns l.invariant.0 (record { turns = l.seen; job = l.kept; out = l.out }) l.invariant.1
    (omega arith) in
    (sym (ap kept_of e), sym (ap (λ (g : Going). g.out) e))
