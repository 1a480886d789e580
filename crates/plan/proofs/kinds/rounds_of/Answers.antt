-- `plan::kinds::rounds_of` meets its contract: the rounds of each kind are the shapes'.
-- Assumes nothing.
use Rattle.std.proofs.Common.{arith}
use Rattle.stopping.specs.Places.{shape_at}
use Rattle.mode.specs.Counts.{enc_shapes, mac_shapes}
use Rattle.plan.specs.Kinds.{shape_of}
use Rattle.plan.proofs.Counting.{rounds_fit}
use Rattle.plan.proofs.kinds.rounds_of.Goals as goal

pub returns-in-KeyBits : goal.returns-in-KeyBits
unfolding shape_of shape_at enc_shapes mac_shapes
returns-in-KeyBits c =
    let fits = rounds_fit c.args.instance c.numbers_of-q.result c.numbers_of-q.ensures in
    (λ a m. grind arith, omega arith, omega arith)

pub returns-in-Texts : goal.returns-in-Texts
unfolding shape_of shape_at enc_shapes mac_shapes
returns-in-Texts c =
    let fits = rounds_fit c.args.instance c.numbers_of-q.result c.numbers_of-q.ensures in
    (λ a m. grind arith, omega arith, omega arith)

pub returns-in-KeyStart : goal.returns-in-KeyStart
unfolding shape_of shape_at enc_shapes mac_shapes
returns-in-KeyStart c =
    let fits = rounds_fit c.args.instance c.numbers_of-q.result c.numbers_of-q.ensures in
    (λ a m. grind arith, omega arith, omega arith)

pub returns-in-MacStart : goal.returns-in-MacStart
unfolding shape_of shape_at enc_shapes mac_shapes
returns-in-MacStart c =
    let fits = rounds_fit c.args.instance c.numbers_of-q.result c.numbers_of-q.ensures in
    (λ a m. grind arith, omega arith, omega arith)
