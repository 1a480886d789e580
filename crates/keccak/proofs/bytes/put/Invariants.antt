-- `keccak::bytes::put` meets its contract. The loop's invariant: after x turns the bytes of the first x lanes are put.
-- Assumes nothing.
use Rattle.std.proofs.Common.{◌*◌, take}
use Rattle.keccak.specs.Lanes.{plane_bytes}
use Rattle.keccak.proofs.Written.{WrittenFrom}
use Rattle.keccak.proofs.bytes.put.Given as goal

abbrev pub invariant-loop-x : goal.invariant-loop-x
invariant-loop-x g l = WrittenFrom l.fn.i (take (2 * l.x) (plane_bytes l.fn.p)) (2 * l.x) l.s l.fn.s
