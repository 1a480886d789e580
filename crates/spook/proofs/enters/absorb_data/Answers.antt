-- `spook::enters::absorb_data` meets its contract: a whole block is a part of the data, a short one the rest of it, marked and padded.
-- Assumes nothing.
use Rattle.std.proofs.Common.{ap, ap₂, arith, drop, length, length-drop, rules, sym, take, take_all, ℕ, ◌*◌, ◌+◌, ◌-◌, ◌∙◌, ◌≡◌}
use Rattle.bits.specs.Strings.{xor_into, xor_at, block}
use Rattle.s1p.proofs.Evenly.{full_data}
use Rattle.spook.proofs.Blocks.{block_long, data_short}
use Rattle.spook.proofs.enters.absorb_data.Goals as goal

pub returns-then-end-assoc : goal.returns-then-end-assoc
unfolding block
returns-then-end-assoc c =
    let a = c.args in
    let t = a.assoc.now in
    let e : a.call * 32 + 32 - a.call * 32 ≡ 32 = omega arith in
    c.absorb.ensures
    ∙ ap (λ (k : ℕ). xor_into (take k (drop (a.call * 32) t)) a.state) e
    ∙ sym (full_data (block 32 a.call t) a.state (block_long a.call t (omega arith)))

pub returns : goal.returns
returns c =
    let a = c.args in
    let t = a.assoc.now in
    let at = a.call * 32 in
    let long : length a.state ≡ 64 = search rules in
    c.marked-2.ensures
    ∙ ap (xor_at (length t - at) 1)
    (c.absorb-s.ensures
    ∙ ap₂ xor_into (take_all (length t - at) (drop at t) (omega (arith, length-drop at t))) c.marked.ensures)
    ∙ sym (data_short a.call t a.state (omega arith) (omega arith) (omega arith))
