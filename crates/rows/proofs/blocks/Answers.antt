-- `rows::blocks` meets its contract: the engine's row is the instance's (`blocks_as`).
-- Assumes nothing.
use Rattle.std.proofs.Common.{arith, length, subst, sym, ℕ, ◌*◌, ◌+◌, ◌∙◌, ◌≤◌}
use Rattle.sponge.specs.Engines.{runs_ascon, runs_keccak}
use Rattle.rows.proofs.Engines.{blocks_as}
use Rattle.rows.proofs.blocks.Goals as goal

pub blocks-requires : goal.blocks-requires
blocks-requires c =
    let q = c.numbers_of-q.ensures in
    let e = runs_ascon c.args.instance (sym c.on_ascon.ensures ∙ c.if-on_ascon.true) in
    (subst (λ (b : ℕ). (c.args.first + c.args.calls) * b ≤ length c.args.src.now) e.block c.requires, omega (arith, e.most, q.most, q.sh_most))

pub returns-then-on_ascon : goal.returns-then-on_ascon
returns-then-on_ascon c =
    let q = c.numbers_of-q.ensures in
    let a = c.args in
    let e = runs_ascon a.instance (sym c.on_ascon.ensures ∙ c.if-on_ascon.true) in
    c.blocks-then-on_ascon.ensures ∙ blocks_as e _ _ _ q.most q.sh a.src.now a.first a.calls a.state

pub blocks-requires-2 : goal.blocks-requires-2
blocks-requires-2 c =
    let q = c.numbers_of-q.ensures in
    let e = runs_keccak c.args.instance (sym c.on_ascon.ensures ∙ c.if-on_ascon.false) in
    (subst (λ (b : ℕ). (c.args.first + c.args.calls) * b ≤ length c.args.src.now) e.block c.requires, omega (arith, e.most, q.most, q.sh_most))

pub returns : goal.returns
returns c =
    let q = c.numbers_of-q.ensures in
    let a = c.args in
    let e = runs_keccak a.instance (sym c.on_ascon.ensures ∙ c.if-on_ascon.false) in
    c.blocks-2.ensures ∙ blocks_as e _ _ _ q.most q.sh a.src.now a.first a.calls a.state
