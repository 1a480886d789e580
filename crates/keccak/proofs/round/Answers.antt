-- `keccak::round` meets its contract: it is a run of one round.
-- Assumes nothing.
use Rattle.std.proofs.Common.{arith, ◌+◌, ◌∙◌, ◌≡◌}
use Rattle.bits.specs.Run.{rounds_none, rounds_more}
use Rattle.keccak.specs.Fips202.{keccak_round}
use Rattle.keccak.specs.Lanes.{bytes_of}
use Rattle.keccak.proofs.round.Goals as goal

pub returns : goal.returns
returns c =
    let s = c.args in
    let same : s.i + 0 ≡ s.i = omega arith in
    c.run.ensures ∙ rounds_more keccak_round s.i 0 (bytes_of s.a)
    ∙ (λ j. keccak_round (same j) (rounds_none keccak_round s.i (bytes_of s.a) j))
