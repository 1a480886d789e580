-- `plan::places::walked` meets its contract. The invariant: the place is that of the rounds left, behind the parts passed.
-- Assumes nothing.
use Rattle.scheme.specs.Scheme.{all_shapes}
use Rattle.instances.specs.Schemes.{scheme_of}
use Rattle.plan.proofs.Walk.{Left}
use Rattle.plan.proofs.places.walked.Given as goal

abbrev pub invariant-loop-part : goal.invariant-loop-part
invariant-loop-part l = Left (all_shapes (scheme_of l.outline.instance) l.outline.sealing l.outline.assoc l.outline.text) l.n l.part l.left
