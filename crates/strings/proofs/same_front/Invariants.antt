-- `strings::same_front` meets its contract. The invariant: no bit differs exactly where the first i bytes agree with those after the sixteen
-- are put.
-- Assumes nothing.
use Rattle.strings.proofs.Agreeing.{Agree}
use Rattle.strings.proofs.same_front.Given as goal

abbrev pub invariant-loop-i : goal.invariant-loop-i
invariant-loop-i l = Agree l.byte-items l.state l.i l.differing
