-- `keccak::iota::start` meets its contract. The loop's invariant: the register has as many rounds to go back as are left.
-- Assumes nothing.
use Rattle.std.proofs.Common.{◌+◌, ◌≡◌, ◌≤◌}
use Rattle.keccak.specs.Ahead.{ahead}
use Rattle.keccak.proofs.iota.start.Given as goal

abbrev pub invariant-loop-left : goal.invariant-loop-left
invariant-loop-left l = (l.i + l.left ≤ 20) × (l.w ≡ ahead (l.i + l.left))

abbrev pub decreases-loop-left : goal.decreases-loop-left
decreases-loop-left l = l.left
