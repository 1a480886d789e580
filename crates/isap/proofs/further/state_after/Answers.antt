-- `isap::further::state_after` meets its contract.
-- Assumes nothing.
use Rattle.std.proofs.Common.{sym, ◌∙◌}
use Rattle.isap.proofs.Going.{inner}
use Rattle.isap.proofs.further.state_after.Goals as goal

pub go-requires : goal.go-requires
go-requires c =
    let a = c.args in
    let h = c.requires.0 in
    rw c.sealing.ensures (inner a.job a.assoc.now a.text.now a.out.now h a.calls c.requires.1.row, c.requires.1.is_many, h.out_long ∙ sym h.text_long)
