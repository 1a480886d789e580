-- `plan::outlines::Outline::back_rounds` meets its contract: in an opening, of ISAP E, of Spook the second walk.
-- Assumes nothing.
use Rattle.std.proofs.Common.{Bool, ap, sym, ◌∙◌}
use Rattle.mode.specs.Instances.{params_of}
use Rattle.mode.specs.Counts.{back_count}
use Rattle.plan.proofs.ByScheme.{spook-back, isap_back, sealing_back}
use Rattle.s1p.specs.Counts as s1p
use Rattle.plan.proofs.outlines.Outline.back_rounds.Goals as goal

pub returns-then-self : goal.returns-then-self
returns-then-self c = let a = c.args in rw c.if-self.true (sealing_back a.self.instance a.self.assoc a.self.text)

pub returns-then-is_spook : goal.returns-then-is_spook
unfolding s1p.back_count
returns-then-is_spook c =
    let a = c.args in
    let f = spook-back a.self.instance a.self.sealing a.self.assoc a.self.text (sym c.is_spook.ensures ∙ c.if-is_spook.true) in
    c.second_rounds.ensures ∙ ap (λ (b : Bool). s1p.back_count b a.self.assoc a.self.text) (sym c.if-self.false) ∙ f

pub returns : goal.returns
unfolding back_count
returns c =
    let a = c.args in
    let f = isap_back a.self.instance a.self.sealing a.self.assoc a.self.text (sym c.is_spook.ensures ∙ c.if-is_spook.false) in
    c.encrypt_rounds.ensures ∙ ap (λ (b : Bool). back_count (params_of a.self.instance) b a.self.text) (sym c.if-self.false) ∙ f
