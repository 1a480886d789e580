-- `clyde::Clyde::run` meets its contract. The invariant: the rows are those after the rounds before round i.
-- Assumes nothing.
use Rattle.std.proofs.Common.{◌-◌, ◌≡◌}
use Rattle.bits.specs.Run.{rounds}
use Rattle.clyde.specs.OnBytes.{is_back, round_by}
use Rattle.clyde.proofs.Clyde.run.Given as goal

abbrev pub invariant-loop-i : goal.invariant-loop-i
invariant-loop-i l = l.s ≡ rounds (round_by (is_back l.direction) l.self.key l.self.tweak) l.from (l.i - l.from) l.initial.s
