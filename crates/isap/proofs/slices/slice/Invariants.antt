-- `isap::slices::slice` meets its contract: the refusal first, then the loop, whose invariant is `Sofar`.
-- Assumes nothing.
use Rattle.instances.specs.Schemes.{scheme_of}
use Rattle.isap.specs.Sofar.{Sofar}
use Rattle.isap.proofs.slices.slice.Given as goal

abbrev pub invariant-loop-left : goal.invariant-loop-left
invariant-loop-left l = Sofar scheme_of l.initial.current l.assoc l.text l.initial.out l.budget l.left l.current l.out

abbrev pub decreases-loop-left : goal.decreases-loop-left
decreases-loop-left l = l.left
