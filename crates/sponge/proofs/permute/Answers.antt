-- `sponge::permute` meets its contract: the instance's rounds are Ascon's or Keccak's.
-- Assumes nothing.
use Rattle.std.proofs.Common.{arith, sym, ◌∙◌}
use Rattle.sponge.specs.Engines.{runs_ascon, runs_keccak}
use Rattle.sponge.proofs.permute.Goals as goal

pub rounds-requires : goal.rounds-requires
rounds-requires c =
    let e = runs_ascon c.args.instance (sym c.on_ascon.ensures ∙ c.if-on_ascon.true) in omega (arith, e.most)

pub returns-then-on_ascon : goal.returns-then-on_ascon
returns-then-on_ascon c =
    let a = c.args in
    c.rounds.ensures
    ∙ sym ((runs_ascon a.instance (sym c.on_ascon.ensures ∙ c.if-on_ascon.true)).run a.from a.count a.state)

pub rounds-requires-else-on_ascon : goal.rounds-requires-else-on_ascon
rounds-requires-else-on_ascon c =
    let e = runs_keccak c.args.instance (sym c.on_ascon.ensures ∙ c.if-on_ascon.false) in omega (arith, e.most)

pub returns-else-on_ascon : goal.returns-else-on_ascon
returns-else-on_ascon c =
    let a = c.args in
    c.rounds-else-on_ascon.ensures
    ∙ sym ((runs_keccak a.instance (sym c.on_ascon.ensures ∙ c.if-on_ascon.false)).run a.from a.count a.state)
