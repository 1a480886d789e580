-- `ascon::Words::run` meets its contract. The invariant: before round i the words' bytes are those after the rounds below it.
-- Assumes nothing.
use Rattle.std.proofs.Common.{◌-◌, ◌≡◌}
use Rattle.bits.specs.Run.{rounds}
use Rattle.ascon.specs.Permutation.{bytes_of, ascon_round}
use Rattle.ascon.proofs.WordsEngine.run.Given as goal

abbrev pub invariant-loop-i : goal.invariant-loop-i
invariant-loop-i l = bytes_of l.words ≡ rounds ascon_round l.from (l.i - l.from) (bytes_of l.fn.self)
