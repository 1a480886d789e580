-- `spook::enters::take_cipher` meets its contract: a whole block is a part of the ciphertext, a short one the rest of it, behind its mark and its padding.
-- Assumes nothing.
use Rattle.std.proofs.Common.{ap, ap₂, arith, drop, length, length-drop, sym, take, take_all, ℕ, ◌*◌, ◌+◌, ◌-◌, ◌∙◌, ◌≡◌}
use Rattle.bits.specs.Put.{put_at, put_at_zero}
use Rattle.bits.specs.Strings.{xor_at, block}
use Rattle.s1p.proofs.Evenly.{full_text}
use Rattle.spook.proofs.Blocks.{block_long, text_short}
use Rattle.spook.proofs.enters.take_cipher.Goals as goal

pub returns-then-end-cipher : goal.returns-then-end-cipher
unfolding block
returns-then-end-cipher c =
    let a = c.args in
    let t = a.cipher.now in
    let e : a.call * 32 + 32 - a.call * 32 ≡ 32 = omega arith in
    c.put_at.ensures
    ∙ ap (λ (k : ℕ). put_at 0 (take k (drop (a.call * 32) t)) a.state) e
    ∙ put_at_zero (take 32 (drop (a.call * 32) t)) a.state
    ∙ sym (full_text (block 32 a.call t) a.state (block_long a.call t (omega arith)))

pub returns : goal.returns
returns c =
    let a = c.args in
    let t = a.cipher.now in
    let at = a.call * 32 in
    c.put_at-2.ensures
    ∙ ap₂ (put_at 0) (take_all (length t - at) (drop at t) (omega (arith, length-drop at t)))
    (c.marked-s.ensures ∙ ap (xor_at (length t - at) 1) c.marked.ensures)
    ∙ put_at_zero (drop at t) (xor_at (length t - at) 1 (xor_at 32 2 a.state))
    ∙ sym (text_short a.call t a.state (omega arith) (omega arith))
