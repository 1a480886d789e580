-- `strings::absorb` meets its contract. The invariant: the first i bytes of the part are in.
-- Assumes nothing.
use Rattle.std.proofs.Common.{take, ◌≡◌}
use Rattle.bits.specs.Strings.{xor_into}
use Rattle.strings.proofs.absorb.Given as goal

abbrev pub invariant-loop-i : goal.invariant-loop-i
invariant-loop-i l = l.state ≡ xor_into (take l.i l.part) l.initial.state
