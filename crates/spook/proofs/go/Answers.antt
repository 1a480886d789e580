-- `spook::go` meets its contract: what is found is what the part says (`data_goes`, `text_goes`).
-- Assumes nothing.
use Rattle.std.proofs.Common.{Bool, ap, arith, length, refl, rules, subst, sym, ◌∙◌, ◌≡◌}
use Rattle.s1p.specs.Spook.{spook, spook-lawful}
use Rattle.spook.specs.declared.kinds.Kind.{Kind}
use Rattle.spook.specs.declared.kinds.Kind.TheVariants.{Seed, Start, Data, Text, Closing}
use Rattle.spook.specs.Kinds.{number}
use Rattle.spook.specs.Going.{TextGone, data_room, text_room, text_else, data_goes, text_goes}
use Rattle.spook.proofs.Rowing.{data_fed}
use Rattle.spook.proofs.go.Goals as goal

pub blocks-requires : goal.blocks-requires
blocks-requires c =
    (omega (arith, data_room spook c.requires (sym c.of.ensures ∙ ap number c.in-Data.is)), omega arith)

pub returns-in-Data : goal.returns-in-Data
unfolding spook
returns-in-Data c =
    let a = c.args in
    let data_is = sym c.of.ensures ∙ ap number c.in-Data.is in
    let long : length a.state ≡ 64 = search rules in
    let gone = data_fed spook spook-lawful.round a.call a.calls a.assoc.now a.state c.blocks-in-Data.result long (data_room spook c.requires data_is) c.blocks-in-Data.ensures in
    λ nonce session. data_goes spook c.requires nonce a.state session c.blocks-in-Data.result data_is gone

-- a kind that is not the data's
other : (k : Kind) → (k ≡ Data → ⊥) → number k ≡ 2 → ⊥
other Seed d e = omega arith
other Start d e = omega arith
other Data d e = d refl
other Text d e = omega arith
other Closing d e = omega arith

pub text_row-requires : goal.text_row-requires
text_row-requires c =
    let can = c.requires in
    let text_is = text_else spook can (λ e. other _ c.in_default.not-Data (c.of.ensures ∙ e)) in
    (can.inner.not_first, omega (arith, text_room spook can text_is), can.out_long)

pub returns-in_default : goal.returns-in_default
returns-in_default c =
    let w = c.writes_in-writes in
    let a = c.args in
    let text_is = text_else spook c.requires (λ e. other _ c.in_default.not-Data (c.of.ensures ∙ e)) in
    let gone = subst (λ (b : Bool). TextGone spook a.sealing b a.call a.calls a.text.now a.state a.out.now c.text_row.result c.text_row.new.out) w.ensures c.text_row.ensures in
    λ nonce session. text_goes spook c.requires nonce a.state session c.text_row.result c.text_row.new.out text_is gone
