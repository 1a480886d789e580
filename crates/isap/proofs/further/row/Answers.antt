-- `isap::further::row` meets its contract: what it calls, put together by `Going`.
-- Assumes nothing.
use Rattle.std.proofs.Common.{arith, refl}
use Rattle.isap.proofs.Going.{sum_fits, gone_on}
use Rattle.isap.proofs.further.row.Goals as goal

pub overflow_mul-result : goal.overflow_mul-result
overflow_mul-result c =
    let a = c.args in
    omega (arith, sum_fits a.job a.assoc.now a.text.now a.out.now c.requires.0 a.calls c.requires.1.row a.rounds c.requires.2)

pub overflow_add-result : goal.overflow_add-result
overflow_add-result c =
    let a = c.args in
    omega (arith, sum_fits a.job a.assoc.now a.text.now a.out.now c.requires.0 a.calls c.requires.1.row a.rounds c.requires.2)

pub returns : goal.returns
returns c =
    let g = c.state_after-state in
    let a = c.args in
    gone_on a.job a.assoc.now a.text.now a.out.now c.requires.0 a.calls c.requires.1.row a.rounds c.requires.2 g.result _ g.ensures g.auto.out _ refl
