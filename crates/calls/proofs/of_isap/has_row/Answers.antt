-- `calls::of_isap::has_row` meets its contract.
-- Assumes nothing.
use Rattle.calls.proofs.IsapParts.{counted}
use Rattle.calls.proofs.of_isap.has_row.Goals as goal

pub kind_of-kind-requires : goal.kind_of-kind-requires
kind_of-kind-requires c = counted c.args.instance c.args.sealing c.args.part c.requires
