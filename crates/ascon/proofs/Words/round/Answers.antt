-- `ascon::Words::round` meets its contract: its three calls are p_c, p_s and p_l, on words of 64 digits.
-- Assumes nothing.
use Rattle.std.proofs.Common.{ap, arith, ◌∙◌, ◌≡◌}
use Rattle.ascon.specs.Permutation.{p_s, p_l, p, bytes_of}
use Rattle.ascon.specs.Laws.{Fit}
use Rattle.ascon.proofs.Laws.{round-bytes}
use Rattle.ascon.proofs.Words.round.Goals as goal

pub returns : goal.returns
unfolding p
returns c =
    let w = c.args.self in
    let fit : Fit w = omega arith in
    let steps : c.diffuse.result ≡ p c.args.i w =
    c.diffuse.ensures ∙ ap p_l (c.substitute.ensures ∙ ap p_s c.add_constant.ensures) in
    ap bytes_of steps ∙ round-bytes c.args.i w fit
