-- `plan::outlines::Outline::first_from` meets its contract. The invariant: the first place from `part` on is the first from j on.
-- Assumes nothing.
use Rattle.std.proofs.Common.{◌≡◌}
use Rattle.stopping.specs.PlaceLaws.{start_of}
use Rattle.scheme.specs.Scheme.{all_shapes}
use Rattle.instances.specs.Schemes.{scheme_of}
use Rattle.plan.proofs.outlines.Outline.first_from.Given as goal

abbrev pub invariant-loop-j : goal.invariant-loop-j
invariant-loop-j l =
    let hs = all_shapes (scheme_of l.self.instance) l.self.sealing l.self.assoc l.self.text in
    start_of hs l.part ≡ start_of hs l.j
