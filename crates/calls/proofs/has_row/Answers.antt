-- `calls::has_row` meets its contract: the scheme's own code does, in either case.
-- Assumes nothing.
use Rattle.std.proofs.Common.{Bool, ap, subst, sym, ◌<◌, ◌∙◌}
use Rattle.bits.specs.Pick.{pick}
use Rattle.scheme.specs.Scheme.{Scheme, parts_of}
use Rattle.plan.specs.Kinds.{kind_of}
use Rattle.rows.specs.Gone.{many}
use Rattle.calls.specs.Rowable.{rowable}
use Rattle.calls.proofs.Dispatch.{is_isap}
use Rattle.spook.specs.Going as spook
use Rattle.calls.proofs.has_row.Goals as goal

pub returns-then-is_spook : goal.returns-then-is_spook
unfolding rowable
returns-then-is_spook c =
    let a = c.args in
    c.has_row.ensures ∙ ap (λ (b : Bool). pick b (spook.many a.part) (many (kind_of a.sealing a.part))) (sym c.if-is_spook.true ∙ c.is_spook.ensures)

pub has_row-requires-2 : goal.has_row-requires-2
has_row-requires-2 c =
    let a = c.args in
    subst (λ (s : Scheme). a.part < parts_of s a.sealing) (is_isap a.instance _ c.is_spook.ensures c.if-is_spook.false) c.requires

pub returns : goal.returns
unfolding rowable
returns c =
    let a = c.args in
    c.has_row-2.ensures ∙ ap (λ (b : Bool). pick b (spook.many a.part) (many (kind_of a.sealing a.part))) (sym c.if-is_spook.false ∙ c.is_spook.ensures)
