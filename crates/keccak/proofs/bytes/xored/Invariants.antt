-- `keccak::bytes::xored` meets its contract. The loop's invariant: after x turns the first x lanes are xored.
-- Assumes nothing.
use Rattle.std.proofs.Common.{◌≡◌}
use Rattle.keccak.specs.Lanes.{lanes_xored}
use Rattle.keccak.proofs.bytes.xored.Given as goal

abbrev pub invariant-loop-x : goal.invariant-loop-x
invariant-loop-x g l = l.q ≡ lanes_xored l.x l.fn.p l.fn.s l.fn.i
