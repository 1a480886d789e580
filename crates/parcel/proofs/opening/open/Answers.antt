-- `parcel::opening::open` meets its contract: a refusal of the reading, or the opening of its parts.
-- Assumes nothing.
use Rattle.std.proofs.Common.{sym, ◌∙◌}
use Rattle.instances.specs.Schemes.{scheme_of}
use Rattle.parcel.specs.Wholes.{body_there}
use Rattle.parcel.specs.Refused.{opening_refused}
use Rattle.parcel.proofs.opening.open.Goals as goal

pub returns-in-Err : goal.returns-in-Err
returns-in-Err c =
    let a = c.args in
    rw c.number.ensures (opening_refused a.parcel.now c.in-Err.refusal (sym c.read.ensures ∙ c.in-Err.is) scheme_of a.key.now a.out.now)

pub open_whole-requires : goal.open_whole-requires
open_whole-requires c = body_there c.args.parcel.now c.in-Ok.fields (sym c.read.ensures ∙ c.in-Ok.is)
