-- `engine::texts` meets its contract: the loop holds the state in words (`Holds`).
-- Assumes nothing.
use Rattle.std.proofs.Common.{◌-◌, ◌≡◌}
use Rattle.engine.specs.Fed.{nothing_in}
use Rattle.engine.proofs.Holding.{Holds, so_far}
use Rattle.engine.proofs.texts.Given as goal

abbrev pub invariant-loop-i : goal.invariant-loop-i
invariant-loop-i g l =
    let e = g.E.Engine in
    Holds e.width e.round l.from l.count nothing_in l.first l.state (l.i - l.first) (e.bytes_of l.words)
    × (l.out ≡ so_far e.width e.round l.from l.count l.first l.state e.BLOCK l.text l.initial.out l.i)
