-- `clyde::Clyde::rounds` meets its contract (`proofs/Runs.antt`).
-- Assumes nothing.
use Rattle.std.proofs.Common.{arith}
use Rattle.clyde.specs.Sbox.{Fit}
use Rattle.clyde.specs.OnBytes.{is_back}
use Rattle.clyde.proofs.Runs.{stored}
use Rattle.clyde.proofs.Clyde.rounds.Goals as goal

pub returns : goal.returns
returns c =
    let a = c.args in
    let fk : Fit a.self.key = omega (arith, c.well_formed) in
    let ft : Fit a.self.tweak = omega (arith, c.well_formed) in
    stored (is_back a.direction) a.self.key a.self.tweak a.state.now fk ft c.requires.0
    (record { each = λ i. (c.slice_known-1.given i).fits })
    a.from a.count
    c.load.ensures c.run.ensures c.store.ensures
