-- `ascon::Words::diffuse` meets its contract, word by word. Word 1 has its two turns in the other order.
-- Assumes nothing.
use Rattle.std.proofs.Common.{arith, ◌∙◌}
use Rattle.ascon.specs.Permutation.{p_l}
use Rattle.ascon.specs.Laws.{Fit}
use Rattle.ascon.proofs.Turns.{sigma_swap}
use Rattle.ascon.proofs.Words.diffuse.Goals as goal

pub returns : goal.returns
unfolding p_l
returns c =
    let fit : Fit c.args.self = omega arith in
    let e1 = c.mix-2.ensures ∙ sigma_swap fit.f1 39 61 in
    λ i. record {
      x0 = c.mix.ensures i;
      x1 = e1 i;
      x2 = c.mix-3.ensures i;
      x3 = c.mix-4.ensures i;
      x4 = c.mix-5.ensures i;
    }
