-- `ascon::Words::store` meets its contract: five parts are written one behind the other (`bits`, `written_more`).
-- Assumes nothing.
use Rattle.bits.specs.BigEndian.{be_bytes, length-be_bytes}
use Rattle.bits.specs.Part.{written_none, written_more}
use Rattle.ascon.specs.Permutation.{bytes_of}
use Rattle.ascon.proofs.WordsEngine.store.Goals as goal

pub returns : goal.returns
unfolding bytes_of
returns c =
    let w = c.args.self in
    let w0 = written_more (written_none c.args.state.now) (be_bytes 8 w.x0) 8 (length-be_bytes 8 w.x0) c.put_word.ensures in
    let w1 = written_more w0 (be_bytes 8 w.x1) 8 (length-be_bytes 8 w.x1) c.put_word-2.ensures in
    let w2 = written_more w1 (be_bytes 8 w.x2) 8 (length-be_bytes 8 w.x2) c.put_word-3.ensures in
    let w3 = written_more w2 (be_bytes 8 w.x3) 8 (length-be_bytes 8 w.x3) c.put_word-4.ensures in
    let w4 = written_more w3 (be_bytes 8 w.x4) 8 (length-be_bytes 8 w.x4) c.put_word-5.ensures in
    w4.is
