-- `clyde::Rows::constant` meets its contract: the numbers hold the register's states of the twelve rounds, tested at each.
-- Assumes nothing.
use Rattle.std.proofs.Common.{bit_and, eqb, eqb-true, refl, true, ℕ, ◌/◌, ◌^◌, ◌≡◌}
use Rattle.bits.specs.Every.{every, every_at}
use Rattle.clyde.specs.Components.{register_step, W}
use Rattle.clyde.proofs.Rows.constant.Goals as goal

-- digit i of a number
abbrev bit_of : ℕ → ℕ → ℕ
bit_of m i = bit_and (m / 2 ^ i) 1

test0 : every 12 (λ i. eqb (bit_of 0x591 i) (W i).x0) ≡ true
unfolding every register_step W
test0 = refl

test1 : every 12 (λ i. eqb (bit_of 0xeb2 i) (W i).x1) ≡ true
unfolding every register_step W
test1 = refl

test2 : every 12 (λ i. eqb (bit_of 0xd64 i) (W i).x2) ≡ true
unfolding every register_step W
test2 = refl

test3 : every 12 (λ i. eqb (bit_of 0xac8 i) (W i).x3) ≡ true
unfolding every register_step W
test3 = refl

pub returns : goal.returns
returns c =
    let r = c.args.r in
    let e0 = eqb-true (bit_of 0x591 r) (W r).x0 (every_at 12 (λ i. eqb (bit_of 0x591 i) (W i).x0) test0 r c.requires) in
    let e1 = eqb-true (bit_of 0xeb2 r) (W r).x1 (every_at 12 (λ i. eqb (bit_of 0xeb2 i) (W i).x1) test1 r c.requires) in
    let e2 = eqb-true (bit_of 0xd64 r) (W r).x2 (every_at 12 (λ i. eqb (bit_of 0xd64 i) (W i).x2) test2 r c.requires) in
    let e3 = eqb-true (bit_of 0xac8 r) (W r).x3 (every_at 12 (λ i. eqb (bit_of 0xac8 i) (W i).x3) test3 r c.requires) in
    λ i. record { x0 = e0 i; x1 = e1 i; x2 = e2 i; x3 = e3 i }
