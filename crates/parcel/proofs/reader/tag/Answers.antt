-- `parcel::reader::tag` meets its contract: a whole parcel has its parts.
-- Assumes nothing.
use Rattle.std.proofs.Common.{arith, sym, ◌∙◌}
use Rattle.parcel.specs.Wholes.{body_there}
use Rattle.parcel.proofs.reader.tag.Goals as goal

pub slice_bounds-result-end-2 : goal.slice_bounds-result-end-2
slice_bounds-result-end-2 c = omega (arith, body_there c.args.parcel.now c.in-Ok.fields (sym c.read.ensures ∙ c.in-Ok.is))
