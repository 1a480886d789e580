-- `engine::blocks` meets its contract: the loop holds the state in words (`Holds`).
-- Assumes nothing.
use Rattle.std.proofs.Common.{◌-◌}
use Rattle.engine.specs.Fed.{block_in}
use Rattle.engine.proofs.Holding.{Holds}
use Rattle.engine.proofs.blocks.Given as goal

abbrev pub invariant-loop-i : goal.invariant-loop-i
invariant-loop-i g l =
    let e = g.E.Engine in
    Holds e.width e.round l.from l.count (block_in e.BLOCK l.src) l.first l.state (l.i - l.first) (e.bytes_of l.words)
