-- `rows::each_bit` meets its contract: the loop holds the state in words (`engine`, `Holds`).
-- Assumes nothing.
use Rattle.std.proofs.Common.{◌-◌}
use Rattle.engine.proofs.Holding.{Holds}
use Rattle.rows.specs.Bits.{bit_in}
use Rattle.rows.proofs.each_bit.Given as goal

abbrev pub invariant-loop-i : goal.invariant-loop-i
invariant-loop-i g l =
    let e = g.E.Engine in
    Holds e.width e.round l.from l.count (bit_in l.y) l.first l.state (l.i - l.first) (e.bytes_of l.words)
