-- `sponge::absorbing::absorb_padded` meets its contract: a whole block is a part of the string, the last one its rest and the padding's byte.
-- Assumes nothing.
use Rattle.std.proofs.Common.{List, ap, arith, drop, length, length-drop, rules, sym, take, take_all, ℕ, ◌*◌, ◌+◌, ◌-◌, ◌∙◌, ◌≡◌}
use Rattle.bits.specs.Strings.{xor_into, xor_at}
use Rattle.mode.specs.StringLaws.{block_full}
use Rattle.sponge.proofs.Padded.{absorb_last}
use Rattle.sponge.proofs.absorbing.absorb_padded.Goals as goal

pub returns-then-e-src : goal.returns-then-e-src
returns-then-e-src c =
    let a = c.args in
    let src = a.src.now in
    let e : a.i * a.b + a.b - a.i * a.b ≡ a.b = omega arith in
    c.absorb.ensures
    ∙ ap (λ (k : ℕ). xor_into (take k (drop (a.i * a.b) src)) a.state) e
    ∙ ap (λ (u : List ℕ). xor_into u a.state) (sym (block_full a.b a.i src (omega arith)))

pub returns : goal.returns
unfolding xor_at
returns c =
    let a = c.args in
    let src = a.src.now in
    let long : length a.state ≡ 64 = search rules in
    let at = length src - a.i * a.b in
    let rest = take_all at (drop (a.i * a.b) src) (omega (arith, length-drop (a.i * a.b) src)) in
    ap (xor_at at 128) (c.absorb-s.ensures ∙ ap (λ (u : List ℕ). xor_into u a.state) rest)
    ∙ sym (absorb_last a.b a.i src a.state (omega arith) (omega arith) (omega arith))
