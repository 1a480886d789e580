-- `keccak::Lanes::run` meets its contract. The loop's invariant: after k turns the lanes stand for the bytes after the first k rounds, and the
-- register for the round index that is next. Each turn's steps on lanes are a round on bits, and so on bytes.
-- Assumes nothing.
use Rattle.std.proofs.Common.{◌+◌, ◌≡◌}
use Rattle.bits.specs.Run.{rounds}
use Rattle.keccak.specs.Ahead.{ahead}
use Rattle.keccak.specs.Fips202.{keccak_round}
use Rattle.keccak.specs.Lanes.{bytes_of}
use Rattle.keccak.proofs.LanesEngine.run.Given as goal

abbrev pub invariant-loop : goal.invariant-loop
invariant-loop l =
    (bytes_of l.planes ≡ rounds keccak_round l.from l.counter (bytes_of l.initial.planes)) × (l.w ≡ ahead (l.from + l.counter))
