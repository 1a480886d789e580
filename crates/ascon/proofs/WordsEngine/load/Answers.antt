-- `ascon::Words::load` meets its contract, word by word.
-- Assumes nothing.
use Rattle.std.proofs.Common.{ap, ◌∙◌}
use Rattle.ascon.specs.Permutation.{words_of, bytes_of}
use Rattle.ascon.proofs.Laws.{bytes_of-words_of}
use Rattle.ascon.proofs.WordsEngine.load.Goals as goal

pub returns : goal.returns
unfolding words_of
returns c =
    let s = c.args.state.now in
    ap bytes_of
    (λ i. record {
      x0 = c.word_at.ensures i;
      x1 = c.word_at-2.ensures i;
      x2 = c.word_at-3.ensures i;
      x3 = c.word_at-4.ensures i;
      x4 = c.word_at-5.ensures i;
    })
    ∙ bytes_of-words_of s c.requires (record { each = λ i. (c.type_inv.state i).fits })
