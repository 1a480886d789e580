-- `strings::write_block` meets its contract. The invariant: the first i bytes are written.
-- Assumes nothing.
use Rattle.std.proofs.Common.{drop, take, ◌++◌, ◌≡◌}
use Rattle.bits.specs.Xors.{xors}
use Rattle.strings.proofs.write_block.Given as goal

abbrev pub invariant-loop-i : goal.invariant-loop-i
invariant-loop-i l = l.out ≡ xors l.state (take l.i l.text) ++ drop l.i l.initial.out
