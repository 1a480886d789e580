-- `rows::bits` meets its contract: the engine's row is the instance's (`fed_as`).
-- Assumes nothing.
use Rattle.std.proofs.Common.{arith, sym, ◌∙◌}
use Rattle.rows.specs.Bits.{bit_in}
use Rattle.sponge.specs.Engines.{runs_ascon, runs_keccak}
use Rattle.rows.proofs.Engines.{fed_as}
use Rattle.rows.proofs.bits.Goals as goal

pub each_bit-requires : goal.each_bit-requires
each_bit-requires c =
    let q = c.numbers_of-q.ensures in
    let e = runs_ascon c.args.instance (sym c.on_ascon.ensures ∙ c.if-on_ascon.true) in
    (c.requires.0, c.requires.1, omega (arith, e.most, q.most, q.sb_most, q.most_least))

pub returns-then-on_ascon : goal.returns-then-on_ascon
returns-then-on_ascon c =
    let q = c.numbers_of-q.ensures in
    let a = c.args in
    let e = runs_ascon a.instance (sym c.on_ascon.ensures ∙ c.if-on_ascon.true) in
    c.each_bit.ensures ∙ fed_as e _ _ _ q.most q.sb (bit_in a.y.now) a.first a.calls a.state

pub returns : goal.returns
returns c =
    let q = c.numbers_of-q.ensures in
    let a = c.args in
    let e = runs_keccak a.instance (sym c.on_ascon.ensures ∙ c.if-on_ascon.false) in
    c.each_bit-2.ensures ∙ fed_as e _ _ _ q.most q.sb (bit_in a.y.now) a.first a.calls a.state
