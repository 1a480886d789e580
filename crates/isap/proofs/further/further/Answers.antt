-- `isap::further::further` meets its contract: a row, or some rounds of one call.
-- Assumes nothing.
use Rattle.std.proofs.Common.{arith, mul-pos, ◌<◌}
use Rattle.instances.specs.Schemes.{scheme_of, lawful-scheme}
use Rattle.isap.specs.Sofar.{fresh_at, fresh-ready}
use Rattle.isap.specs.Rows.{rounds_at}
use Rattle.isap.proofs.Going.{is_part_lem, rounds_is}
use Rattle.isap.proofs.further.further.Goals as goal

pub rounds_at-rounds-requires : goal.rounds_at-rounds-requires
rounds_at-rounds-requires c = rw c.sealing.ensures (is_part_lem c.args.job (fresh_at scheme_of lawful-scheme c.requires.0))

pub row_calls-calls-requires : goal.row_calls-calls-requires
row_calls-calls-requires c =
    let r = c.rounds_at-rounds in
    let h = c.requires.0 in
    (fresh_at scheme_of lawful-scheme h, h.assoc_limit, h.text_limit, rounds_is c.args.job r.result (rw c.sealing.ensures at r.ensures.0))

pub row-requires : goal.row-requires
row-requires c =
    let r = c.rounds_at-rounds in
    (c.requires.0, c.row_calls-calls.ensures.is_row c.if-calls-gt0.true, rounds_is c.args.job r.result (rw c.sealing.ensures at r.ensures.0))

pub returns-then-calls-gt0 : goal.returns-then-calls-gt0
returns-then-calls-gt0 c =
    let n = c.row_calls-calls.ensures in
    let some = c.if-calls-gt0.true in
    let rounds : 0 < rounds_at scheme_of c.args.job = omega (arith, (fresh_at scheme_of lawful-scheme c.requires.0).is_round) in
    record { count = _; some = mul-pos some rounds; fits = n.fits; turned = c.row.ensures }

pub rounds_now-count-requires : goal.rounds_now-count-requires
rounds_now-count-requires c =
    let r = c.rounds_at-rounds in
    (fresh_at scheme_of lawful-scheme c.requires.0, c.requires.2, rounds_is c.args.job r.result (rw c.sealing.ensures at r.ensures.0))

pub turn-requires : goal.turn-requires
turn-requires c =
    let n = c.rounds_now-count.ensures in
    let r = c.rounds_at-rounds in
    (fresh-ready scheme_of lawful-scheme c.requires.0 _ n.1 n.2.fits, c.requires.1, rounds_is c.args.job r.result (rw c.sealing.ensures at r.ensures.0))
