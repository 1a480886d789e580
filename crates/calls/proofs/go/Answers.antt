-- `calls::go` meets its contract: the scheme's own code does, in either case.
-- Assumes nothing.
use Rattle.std.proofs.Common.{Bool, ap, length, subst, sym, ◌∙◌}
use Rattle.bits.specs.Pick.{pick}
use Rattle.scheme.specs.Scheme.{Scheme}
use Rattle.scheme.specs.Calls.{Inner}
use Rattle.plan.specs.Kinds.{kind_of}
use Rattle.rows.specs.Gone.{many}
use Rattle.calls.specs.Rowable.{rowable}
use Rattle.calls.proofs.Dispatch.{is_spook_lem, is_isap, goes_by}
use Rattle.spook.specs.Going as spook
use Rattle.calls.proofs.go.Goals as goal

pub go-requires : goal.go-requires
unfolding rowable
go-requires c =
    let a = c.args in
    let e = is_spook_lem a.instance _ c.is_spook.ensures c.if-is_spook.true in
    let row = ap (λ (b : Bool). pick b (spook.many a.at.part) (many (kind_of a.sealing a.at.part))) (sym c.if-is_spook.true ∙ c.is_spook.ensures) in
    record {
      inner = subst (λ (s : Scheme). Inner s a.sealing (length a.assoc.now) (length a.text.now) a.at.part a.at.call a.calls) e c.requires.0;
      is_many = row ∙ c.requires.1;
      out_long = c.requires.2;
    }

pub returns-then-is_spook : goal.returns-then-is_spook
returns-then-is_spook c =
    let g = c.go in
    let a = c.args in
    goes_by (is_spook_lem a.instance _ c.is_spook.ensures c.if-is_spook.true) a.sealing a.at.part a.at.call a.calls a.nonce a.assoc.now a.text.now
    a.state a.session a.out.now g.result _ (g.ensures a.nonce a.session)

pub go-requires-2 : goal.go-requires-2
unfolding rowable
go-requires-2 c =
    let a = c.args in
    let e = is_isap a.instance _ c.is_spook.ensures c.if-is_spook.false in
    let row = ap (λ (b : Bool). pick b (spook.many a.at.part) (many (kind_of a.sealing a.at.part))) (sym c.if-is_spook.false ∙ c.is_spook.ensures) in (
      subst (λ (s : Scheme). Inner s a.sealing (length a.assoc.now) (length a.text.now) a.at.part a.at.call a.calls) e c.requires.0,
      row ∙ c.requires.1,
      c.requires.2,
    )

pub returns : goal.returns
returns c =
    let g = c.go-2 in
    let a = c.args in
    goes_by (is_isap a.instance _ c.is_spook.ensures c.if-is_spook.false) a.sealing a.at.part a.at.call a.calls a.nonce a.assoc.now a.text.now
    a.state a.session a.out.now g.result _ g.ensures
