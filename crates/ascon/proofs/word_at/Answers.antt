-- `ascon::word_at` meets its contract: the library's word of eight bytes (`bits`, `from_be_bytes_lem`).
-- Assumes nothing.
use Rattle.std.proofs.Common.{ap, w64, ◌∙◌}
use Rattle.bits.specs.BigEndian.{from_be}
use Rattle.bits.specs.Library.{from_be_bytes_lem, part-read}
use Rattle.ascon.proofs.word_at.Goals as goal

pub returns : goal.returns
returns c =
    let copied = c.copy_from_slice in
    c.from_be_bytes.ensures ∙ from_be_bytes_lem w64 copied.new.self copied.ensures.len
    ∙ ap from_be (copied.ensures.after ∙ part-read c.args.at 8 c.args.s.now)
