-- `plan::shapes::parts_of` meets its contract, by the scheme.
-- Assumes nothing.
use Rattle.std.proofs.Common.{arith, sym, ◌∙◌}
use Rattle.plan.proofs.ByScheme.{spook-parts, isap_parts}
use Rattle.plan.proofs.shapes.parts_of.Goals as goal

pub returns-then-is_spook : goal.returns-then-is_spook
returns-then-is_spook c =
    let a = c.args in
    (c.parts_of.ensures.0 ∙ spook-parts a.instance a.sealing (sym c.is_spook.ensures ∙ c.if-is_spook.true), omega (arith, c.parts_of.ensures.1))

pub returns : goal.returns
returns c =
    let a = c.args in
    (isap_parts a.instance a.sealing (sym c.is_spook.ensures ∙ c.if-is_spook.false), omega arith)
