-- `keccak::Lanes::store` meets its contract. The loop's invariant: after y turns the first y planes are put.
-- Assumes nothing.
use Rattle.std.proofs.Common.{◌*◌, take}
use Rattle.bits.specs.Part.{Written}
use Rattle.keccak.specs.Lanes.{bytes_of}
use Rattle.keccak.proofs.LanesEngine.store.Given as goal

abbrev pub invariant-loop-y : goal.invariant-loop-y
invariant-loop-y l = Written (take (10 * l.y) (bytes_of l.self.planes)) (10 * l.y) l.state l.fn.state
