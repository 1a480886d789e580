-- `rows::texts` meets its contract: the engine's row is the instance's (`fed_as`, `written_as`).
-- Assumes nothing.
use Rattle.std.proofs.Common.{arith, length, subst, sym, ℕ, ◌*◌, ◌+◌, ◌∙◌, ◌≤◌}
use Rattle.engine.specs.Fed.{nothing_in}
use Rattle.sponge.specs.Engines.{runs_ascon, runs_keccak}
use Rattle.rows.proofs.Engines.{fed_as, written_as}
use Rattle.rows.proofs.texts.Goals as goal

pub texts-requires : goal.texts-requires
texts-requires c =
    let q = c.numbers_of-q.ensures in
    let e = runs_ascon c.args.instance (sym c.on_ascon.ensures ∙ c.if-on_ascon.true) in (
      subst (λ (b : ℕ). (c.args.first + c.args.calls) * b ≤ length c.args.text.now) e.block c.requires.0,
      c.requires.1,
      omega (arith, e.most, q.most, q.se_most, q.most_least),
    )

pub returns-then-on_ascon : goal.returns-then-on_ascon
returns-then-on_ascon c =
    let q = c.numbers_of-q.ensures in
    let a = c.args in
    let e = runs_ascon a.instance (sym c.on_ascon.ensures ∙ c.if-on_ascon.true) in (
      c.texts.ensures.0 ∙ fed_as e _ _ _ q.most q.se nothing_in a.first a.calls a.state,
      c.texts.ensures.1 ∙ written_as e _ _ _ q.most q.se a.text.now a.first a.calls a.state a.out.now,
    )

pub texts-requires-2 : goal.texts-requires-2
texts-requires-2 c =
    let q = c.numbers_of-q.ensures in
    let e = runs_keccak c.args.instance (sym c.on_ascon.ensures ∙ c.if-on_ascon.false) in (
      subst (λ (b : ℕ). (c.args.first + c.args.calls) * b ≤ length c.args.text.now) e.block c.requires.0,
      c.requires.1,
      omega (arith, e.most, q.most, q.se_most, q.most_least),
    )

pub returns : goal.returns
returns c =
    let q = c.numbers_of-q.ensures in
    let a = c.args in
    let e = runs_keccak a.instance (sym c.on_ascon.ensures ∙ c.if-on_ascon.false) in (
      c.texts-2.ensures.0 ∙ fed_as e _ _ _ q.most q.se nothing_in a.first a.calls a.state,
      c.texts-2.ensures.1 ∙ written_as e _ _ _ q.most q.se a.text.now a.first a.calls a.state a.out.now,
    )
