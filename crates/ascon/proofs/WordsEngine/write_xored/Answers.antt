-- `ascon::Words::write_xored` meets its contract: what the first word becomes is stored (`proofs/Blocks.antt`).
-- Assumes nothing.
use Rattle.std.proofs.Common.{List, ap, bit_xor, drop, take, ℕ, ◌++◌, ◌+◌, ◌∙◌}
use Rattle.bits.specs.Bytes.{Bytes, bytes_take, bytes_drop}
use Rattle.bits.specs.BigEndian.{be_bytes}
use Rattle.bits.specs.Part.{length_part}
use Rattle.ascon.proofs.Blocks.{block_out}
use Rattle.ascon.proofs.WordsEngine.write_xored.Goals as goal

pub returns : goal.returns
returns c =
    let w = c.args.self in
    let out = c.args.out.now in
    let text = c.args.text.now in
    let at = c.args.at in
    let bytes : Bytes text = record { each = λ i. (c.type_inv.text i).fits } in
    c.put_word.ensures
    ∙ ap (λ (s : List ℕ). take at out ++ (s ++ drop (at + 8) out))
    (ap (λ (y : ℕ). be_bytes 8 (bit_xor w.x0 y)) c.word_at.ensures
    ∙ block_out w (take 8 (drop at text)) (length_part text at 8 c.requires.0) (bytes_take 8 (bytes_drop at bytes)))
