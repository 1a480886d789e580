-- `shadow::marked` meets its contract: the shifts lose nothing (`specs/Marks.antt`).
-- Assumes nothing.
use Rattle.std.proofs.Common.{ap, ◌∙◌}
use Rattle.clyde.specs.declared.Rows.{Rows}
use Rattle.clyde.specs.Components.{add}
use Rattle.shadow.specs.Marks.{cut, cut-shifted}
use Rattle.shadow.proofs.marked.Goals as goal

pub returns : goal.returns
returns c =
    let a = c.args in
    c.bitxor.ensures ∙ ap (λ (k : Rows). add k a.s) (ap (cut a.b) c.constant-w.ensures ∙ cut-shifted a.r a.b c.requires.1)
