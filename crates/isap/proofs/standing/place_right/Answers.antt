-- `isap::standing::place_right` meets its contract: the place walked anew is the definition's.
-- Assumes nothing.
use Rattle.std.proofs.Common.{ap, eqb, ◌&&◌, ◌∙◌, ◌≡◌}
use Rattle.bits.specs.Every.{passes}
use Rattle.stopping.specs.Places.{place_of}
use Rattle.scheme.specs.Scheme.{all_shapes}
use Rattle.instances.specs.Schemes.{scheme_of}
use Rattle.plan.specs.declared.places.Place.{Place}
use Rattle.plan.specs.Planned.{placed}
use Rattle.isap.specs.Records.{shapes_of}
use Rattle.isap.specs.Slices.{same_place, place_right}
use Rattle.isap.proofs.Tests.{last_test}
use Rattle.isap.proofs.standing.place_right.Goals as goal

-- what `==` compares
compared : (v w : Place) → (eqb v.part w.part && (eqb v.call w.call && eqb v.round w.round)) ≡ same_place v w
unfolding passes
compared v w = ap (λ b. eqb v.part w.part && (eqb v.call w.call && b)) (last_test (eqb v.round w.round))

pub returns : goal.returns
unfolding place_right shapes_of
returns c =
    let j = c.args.job in
    let o = c.outline.ensures in
    c.eq.ensures ∙ compared j.place c.place_after-walked.result
    ∙ ap (same_place j.place)
    (c.place_after-walked.ensures ∙ (λ k. placed (place_of (all_shapes (scheme_of (o.instance k)) (o.sealing k) (o.assoc k) (o.text k)) j.done)))
