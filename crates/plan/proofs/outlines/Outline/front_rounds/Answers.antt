-- `plan::outlines::Outline::front_rounds` meets its contract: of ISAP V, and E before it in a sealing; of Spook the same in both directions.
-- Assumes nothing.
use Rattle.std.proofs.Common.{Bool, ap, arith, sym, ◌+◌, ◌∙◌}
use Rattle.mode.specs.Instances.{params_of}
use Rattle.mode.specs.Counts.{front_count}
use Rattle.instances.specs.Limits.{both_most}
use Rattle.plan.proofs.ByScheme.{spook-front, isap_front}
use Rattle.plan.proofs.outlines.Outline.front_rounds.Goals as goal

pub returns-then-is_spook : goal.returns-then-is_spook
returns-then-is_spook c =
    let a = c.args in
    c.verify_rounds.ensures ∙ spook-front a.self.instance a.self.sealing a.self.assoc a.self.text (sym c.is_spook.ensures ∙ c.if-is_spook.true)

pub returns-else-self : goal.returns-else-self
unfolding front_count
returns-else-self c =
    let a = c.args in
    let f = isap_front a.self.instance a.self.sealing a.self.assoc a.self.text (sym c.is_spook.ensures ∙ c.if-is_spook.false) in
    c.verify_rounds-v.ensures.0 ∙ ap (λ (b : Bool). front_count (params_of a.self.instance) b a.self.assoc a.self.text) (sym c.if-self.false) ∙ f

pub overflow_add-result : goal.overflow_add-result
overflow_add-result c =
    omega (arith, c.encrypt_rounds.ensures, c.verify_rounds-v.ensures.0, both_most c.args.self.instance c.args.self.assoc c.args.self.text c.args.self.assoc_limit c.args.self.text_limit)

pub returns-then-self : goal.returns-then-self
unfolding front_count
returns-then-self c =
    let a = c.args in
    let f = isap_front a.self.instance a.self.sealing a.self.assoc a.self.text (sym c.is_spook.ensures ∙ c.if-is_spook.false) in
    (λ i. c.encrypt_rounds.ensures i + c.verify_rounds-v.ensures.0 i)
    ∙ ap (λ (b : Bool). front_count (params_of a.self.instance) b a.self.assoc a.self.text) (sym c.if-self.true) ∙ f
