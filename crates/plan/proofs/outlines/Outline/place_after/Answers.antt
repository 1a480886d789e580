-- `plan::outlines::Outline::place_after` meets its contract: instance 5 is the one of Spook, and the walk of any other is its own.
-- Assumes nothing.
use Rattle.std.proofs.Common.{ap, refl, sym, ◌∙◌}
use Rattle.stopping.specs.Places.{place_of}
use Rattle.scheme.specs.Scheme.{Scheme, all_shapes}
use Rattle.instances.specs.Schemes.{is_spook, scheme-spook}
use Rattle.plan.specs.Planned.{placed}
use Rattle.plan.proofs.outlines.Outline.place_after.Goals as goal

pub returns-then-is_spook : goal.returns-then-is_spook
unfolding is_spook
returns-then-is_spook c =
    let a = c.args in
    c.walked.ensures
    ∙ ap (λ (q : Scheme). placed (place_of (all_shapes q a.self.sealing a.self.assoc a.self.text) a.n))
    (scheme-spook 5 refl ∙ sym (scheme-spook a.self.instance (sym c.is_spook.ensures ∙ c.if-is_spook.true)))
