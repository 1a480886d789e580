-- `shadow::Bundles::run` meets its contract. The invariant: the bundles are those after the rounds before round i.
-- Assumes nothing.
use Rattle.std.proofs.Common.{◌-◌, ◌≡◌}
use Rattle.bits.specs.Run.{rounds}
use Rattle.shadow.specs.Shadow.{round}
use Rattle.shadow.proofs.BundlesEngine.run.Given as goal

abbrev pub invariant-loop-i : goal.invariant-loop-i
invariant-loop-i l = l.bundles ≡ rounds round l.from (l.i - l.from) l.initial.bundles
