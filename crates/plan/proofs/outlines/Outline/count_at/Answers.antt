-- `plan::outlines::Outline::count_at` meets its contract, by the scheme.
-- Assumes nothing.
use Rattle.std.proofs.Common.{ap, arith, false, sym, true, ◌∙◌, ◌≡◌}
use Rattle.stopping.specs.Parts.{Shape}
use Rattle.instances.specs.Schemes.{is_spook}
use Rattle.plan.specs.Walks.{walk-parts_most}
use Rattle.plan.specs.KindNumbers.{kind_number}
use Rattle.plan.proofs.ByScheme.{spook-parts, isap_parts, spook-shape, isap_shape}
use Rattle.plan.proofs.outlines.Outline.count_at.Goals as goal

pub count_of-requires : goal.count_of-requires
count_of-requires c =
    let a = c.args in
    let p = spook-parts a.self.instance a.self.sealing (sym c.is_spook.ensures ∙ c.if-is_spook.true) in
    omega (arith, p, walk-parts_most a.self.sealing)

pub returns-then-is_spook : goal.returns-then-is_spook
returns-then-is_spook c =
    let a = c.args in
    let e : is_spook a.self.instance ≡ true = sym c.is_spook.ensures ∙ c.if-is_spook.true in (
      c.count_of.ensures.0
          ∙ ap Shape.count
          (spook-shape a.self.instance a.self.sealing a.self.assoc a.self.text a.part e (omega (arith, spook-parts a.self.instance a.self.sealing e))),
      c.count_of.ensures.1,
    )

pub kind_of-kind-requires : goal.kind_of-kind-requires
kind_of-kind-requires c =
    let a = c.args in
    omega (arith, isap_parts a.self.instance a.self.sealing (sym c.is_spook.ensures ∙ c.if-is_spook.false))

pub returns : goal.returns
returns c =
    let k = c.kind_of-kind in
    let a = c.args in
    let e : is_spook a.self.instance ≡ false = sym c.is_spook.ensures ∙ c.if-is_spook.false in (
      c.count_of-2.ensures.0
          ∙ ap Shape.count
          (isap_shape a.self.instance a.self.sealing a.self.assoc a.self.text a.part e (omega (arith, isap_parts a.self.instance a.self.sealing e)) (kind_number k.result) k.ensures),
      c.count_of-2.ensures.1,
    )
