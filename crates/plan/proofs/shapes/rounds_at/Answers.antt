-- `plan::shapes::rounds_at` meets its contract, by the scheme.
-- Assumes nothing.
use Rattle.std.proofs.Common.{ap, arith, false, sym, true, ◌∙◌, ◌≡◌}
use Rattle.stopping.specs.Parts.{Shape}
use Rattle.instances.specs.Schemes.{is_spook}
use Rattle.plan.specs.KindNumbers.{kind_number}
use Rattle.plan.proofs.ByScheme.{spook-parts, isap_parts, spook-shape, isap_shape}
use Rattle.plan.proofs.shapes.rounds_at.Goals as goal

pub returns-then-is_spook : goal.returns-then-is_spook
returns-then-is_spook c =
    let a = c.args in
    let e : is_spook a.instance ≡ true = sym c.is_spook.ensures ∙ c.if-is_spook.true in
    let h = spook-parts a.instance a.sealing e in (
      (λ x y. ap Shape.rounds (spook-shape a.instance a.sealing x y a.part e (omega (arith, c.requires, h)))),
      omega arith,
      omega arith,
    )

pub kind_of-kind-requires : goal.kind_of-kind-requires
kind_of-kind-requires c =
    let a = c.args in
    omega (arith, c.requires, isap_parts a.instance a.sealing (sym c.is_spook.ensures ∙ c.if-is_spook.false))

pub returns : goal.returns
returns c =
    let k = c.kind_of-kind in
    let a = c.args in
    let e : is_spook a.instance ≡ false = sym c.is_spook.ensures ∙ c.if-is_spook.false in
    let h = isap_parts a.instance a.sealing e in (
      (λ x y. c.rounds_of.ensures.0 x y
          ∙ ap Shape.rounds (isap_shape a.instance a.sealing x y a.part e (omega (arith, c.requires, h)) (kind_number k.result) k.ensures)),
      c.rounds_of.ensures.1,
      c.rounds_of.ensures.2,
    )
