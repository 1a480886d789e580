use Rattle.std.proofs.Common.{ap, sym, ℕ, ◌∙◌}
use Rattle.std.proofs.Math.Nat.{sub_self}
use Rattle.bits.specs.Run.{rounds, rounds_none, rounds_next-at}
use Rattle.clyde.specs.OnBytes.{is_back, round_by}
use Rattle.clyde.proofs.Clyde.run.Goals as goal

pub loop-i-init : goal.loop-i-init
loop-i-init c =
    let a = c.args in
    let r = round_by (is_back a.direction) a.self.key a.self.tweak in
    sym (ap (λ (k : ℕ). rounds r a.from k a.s) (sub_self a.from) ∙ rounds_none r a.from a.s)

pub loop-i-preserved : goal.loop-i-preserved
loop-i-preserved c =
    let a = c.args in
    let l = c.loop-i in
    rounds_next-at (round_by (is_back a.direction) a.self.key a.self.tweak) a.from l.i a.s l.s c.turn-s.result l.auto.i l.invariant
    c.turn-s.ensures
