-- `ascon::put_word` meets its contract: the library's eight bytes of a word (`bits`, `to_be_bytes_lem`).
-- Assumes nothing.
use Rattle.std.proofs.Common.{w64, ◌∙◌}
use Rattle.bits.specs.BigEndian.{be_bytes}
use Rattle.bits.specs.Library.{to_be_bytes_lem, part-written}
use Rattle.ascon.proofs.put_word.Goals as goal

pub returns : goal.returns
returns c =
    let a = c.args in
    part-written a.at 8 a.s.now c.copy_from_slice.new.self (be_bytes 8 a.x)
    (c.copy_from_slice.ensures.after ∙ c.to_be_bytes.ensures ∙ to_be_bytes_lem w64 a.x)
