-- `isap::further::row_calls` meets its contract: up to the last call, and no more rounds than are left.
-- Assumes nothing.
use Rattle.std.proofs.Common.{arith, div-mul-le_self, le_trans, mul-le-mul_right, rules, sym, ◌-◌, ◌/◌, ◌≤◌, ◌∙◌}
use Rattle.isap.proofs.Going.{is_part_lem, below, chosen}
use Rattle.isap.proofs.further.row_calls.Goals as goal

pub has_row-requires : goal.has_row-requires
has_row-requires c = rw c.sealing.ensures (is_part_lem c.args.job c.requires.0)

pub count_at-last-requires : goal.count_at-last-requires
count_at-last-requires c =
    let o = c.outline.ensures in
    rw (o.instance, o.sealing) (is_part_lem c.args.job c.requires.0)

pub overflow_sub-last : goal.overflow_sub-last
overflow_sub-last c =
    let o = c.outline.ensures in
    omega (arith, below c.args.job c.requires.0 c.count_at-last.result (rw (o.instance, o.sealing, o.assoc, o.text) at c.count_at-last.ensures.0))

pub overflow_sub-last-2 : goal.overflow_sub-last-2
overflow_sub-last-2 c =
    let o = c.outline.ensures in
    omega (arith, below c.args.job c.requires.0 c.count_at-last.result (rw (o.instance, o.sealing, o.assoc, o.text) at c.count_at-last.ensures.0))

pub returns : goal.returns
returns c =
    let n = c.count_at-last in
    let k = c.has_row in
    let a = c.args in
    let o = c.outline.ensures in
    let count = rw (o.instance, o.sealing, o.assoc, o.text) at n.ensures.0 in
    let there = below a.job c.requires.0 n.result count in
    let can = sym (rw c.sealing.ensures at k.ensures) ∙ c.if-not-has_row.false in
    let up : c.min.result ≤ n.result - 1 - a.job.place.call = search rules in
    let within : c.min.result ≤ a.left / a.rounds = search rules in
    chosen a.job a.left a.rounds c.requires.3 c.if-at-ne0.false c.if-at-eq0.false can n.result count n.ensures.1
    c.min.result (omega (arith, up, there)) (omega (arith, there)) (le_trans (mul-le-mul_right a.rounds within) (div-mul-le_self a.left a.rounds))
