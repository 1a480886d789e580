-- `isap::turns::turn` meets its contract: what it calls, put together by `Turning`.
-- Assumes nothing.
use Rattle.std.proofs.Common.{arith, refl}
use Rattle.isap.proofs.Turning.{stands, rest, can_move, done_fits, together}
use Rattle.isap.proofs.turns.turn.Goals as goal

pub entered-met-requires : goal.entered-met-requires
entered-met-requires c = let a = c.args in stands a.job a.assoc.now a.text.now a.out.now a.count c.requires.0

pub rounds-state-requires : goal.rounds-state-requires
rounds-state-requires c = let a = c.args in rw c.sealing-sealing.ensures (rest a.job a.assoc.now a.text.now a.out.now a.count c.requires.0)

pub left_behind-tag-requires : goal.left_behind-tag-requires
left_behind-tag-requires c = let a = c.args in stands a.job a.assoc.now a.text.now a.out.now a.count c.requires.0

pub overflow_add-done : goal.overflow_add-done
overflow_add-done c = let a = c.args in omega (arith, done_fits a.job a.assoc.now a.text.now a.out.now a.count c.requires.0)

pub moved-place-requires : goal.moved-place-requires
moved-place-requires c =
    let a = c.args in
    let o = c.outline.ensures in
    rw (o.instance, o.sealing, o.assoc, o.text) (can_move a.job a.assoc.now a.text.now a.out.now a.count c.requires.0 a.rounds c.requires.2)

pub returns : goal.returns
returns c =
    let m = c.moved-place in
    let e = c.ending_after-ending in
    let l = c.left_behind-tag in
    let s = c.rounds-state in
    let n = c.entered-met in
    let a = c.args in
    let o = c.outline.ensures in
    together a.job a.assoc.now a.text.now a.out.now a.count c.requires.0 a.rounds c.requires.2 a.counts.front a.counts.back c.requires.1 n.result.state n.result.session s.result _ l.result
    n.ensures (rw c.sealing-sealing.ensures at s.ensures) l.ensures e.result e.ensures m.result (rw (o.instance, o.sealing, o.assoc, o.text) at m.ensures) l.auto.out _ refl
