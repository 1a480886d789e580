-- `spook::turns::with_tweak` meets its contract: bytes 16 to 30 are as they were, and byte 31 has its top bit set.
-- Assumes nothing.
use Rattle.std.proofs.Common.{List, [], ap, append_assoc, arith, drop, drop_at, get_or, length, length-append, length-drop, length-take-le, rules, set, sym, take, take-add, take_at, ℕ, ◌%◌, ◌++◌, ◌+◌, ◌∙◌, ◌∷◌, ◌≡◌}
use lib.Seq.{set_split}
use Rattle.s1p.specs.Paper.{closing_tweak}
use Rattle.spook.proofs.turns.with_tweak.Goals as goal

marked : (s : List ℕ) (v : ℕ) → length s ≡ 64 → take 16 (drop 16 (set s 31 v)) ≡ take 15 (drop 16 s) ++ (v ∷ [])
marked s v h =
    let f = take 15 (drop 16 s) in
    let r = drop 32 s in
    let e : length f ≡ 15 = length-take-le 15 (drop 16 s) (omega (arith, length-drop 16 s)) in
    ap (λ (u : List ℕ). take 16 (drop 16 u))
    (set_split s 31 v (omega arith) ∙ ap (λ (u : List ℕ). u ++ (v ∷ r)) (take-add 16 15 s) ∙ append_assoc (take 16 s) f (v ∷ r))
    ∙ ap (take 16) (drop_at (take 16 s) (f ++ (v ∷ r)) 16 (length-take-le 16 s (omega arith)) ∙ sym (append_assoc f (v ∷ []) r))
    ∙ take_at (f ++ (v ∷ [])) r 16 (length-append f (v ∷ []) ∙ ap (λ (n : ℕ). n + 1) e)

pub returns : goal.returns
unfolding closing_tweak
returns c =
    let s = c.args.session in
    let long : length s ≡ 64 = search rules in
    marked s (get_or s 31 0 % 128 + 128) long
