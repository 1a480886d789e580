-- `engine::rounds` meets its contract: words are loaded, run, and stored (`bits`, `run_words`).
-- Assumes nothing.
use Rattle.bits.proofs.Run.{run_words}
use Rattle.engine.proofs.rounds.Goals as goal

pub returns : goal.returns
returns g c =
    let e = g.E.Engine in
    let a = c.args in
    run_words g.met.E.Engine.keeps a.from a.count a.state.now (e.bytes_of c.load.result) (e.bytes_of c.run.result) c.store.new.state
    c.requires.0
    c.load.ensures
    c.run.ensures
    c.store.ensures
