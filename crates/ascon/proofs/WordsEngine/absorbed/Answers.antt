-- `ascon::Words::absorbed` meets its contract: the block goes into the first word (`proofs/Blocks.antt`).
-- Assumes nothing.
use Rattle.std.proofs.Common.{ap, arith, bit_xor, take, take_all, ℕ, ◌∙◌, ◌≡◌}
use Rattle.bits.specs.BigEndian.{from_be}
use Rattle.ascon.specs.Permutation.{bytes_of}
use Rattle.ascon.proofs.Blocks.{with_first, block_in_lem}
use Rattle.ascon.proofs.WordsEngine.absorbed.Goals as goal

pub returns : goal.returns
returns c =
    let w = c.args.self in
    let s = c.args.block.now in
    let all : take 8 s ≡ s = take_all 8 s (omega arith) in
    ap (λ (y : ℕ). bytes_of (with_first w (bit_xor w.x0 y))) (c.word_at.ensures ∙ ap from_be all)
    ∙ block_in_lem w s c.requires (record { each = λ i. (c.type_inv.block i).fits })
