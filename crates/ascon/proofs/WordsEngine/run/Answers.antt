use Rattle.std.proofs.Common.{ap, sym, ℕ, ◌∙◌}
use Rattle.std.proofs.Math.Nat.{sub_self}
use Rattle.bits.specs.Run.{rounds, rounds_none, rounds_next-at}
use Rattle.ascon.specs.Permutation.{bytes_of, ascon_round}
use Rattle.ascon.proofs.WordsEngine.run.Goals as goal

pub loop-i-init : goal.loop-i-init
loop-i-init c =
    let from = c.args.from in
    let s = bytes_of c.args.self in
    sym (ap (λ (k : ℕ). rounds ascon_round from k s) (sub_self from) ∙ rounds_none ascon_round from s)

pub loop-i-preserved : goal.loop-i-preserved
loop-i-preserved c =
    let l = c.loop-i in
    rounds_next-at ascon_round c.args.from l.i (bytes_of c.args.self) (bytes_of l.words) (bytes_of c.round-words.result) l.auto.i l.invariant
    c.round-words.ensures
