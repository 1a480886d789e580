-- What the last block of a padded string comes to: the rest of the string and one byte.
-- Assumes nothing.
use mathlib.Core.Path.{◌≡◌, ap, ◌∙◌}
use mathlib.Core.List.{List, ◌∷◌, ◌++◌}
use Prim.Native.Nat.{ℕ, ◌+◌, ◌-◌, ◌*◌, ◌%◌, ◌≤◌, ◌<◌}
use native.Mathlib.Omega.{arith}
use lib.Arith.{digits_mod}
use lib.ListN.{length, take, drop, replicate, length-append, length-drop, length-replicate}
use lib.Seq.{drop-append-le, take_all}
use Rattle.bits.specs.Strings.{xor_into, xor_at, block}
use Rattle.bits.specs.StringLaws.{xor_into_pad}
use Rattle.mode.specs.Strings.{padded}

block_last : (b i : ℕ) (str : List ℕ) → i * b ≤ length str → length str < i * b + b
    → block b i (padded b str) ≡ drop (i * b) str ++ (128 ∷ replicate (b - 1 - (length str - i * b)) 0)
unfolding block padded
block_last b i str h k =
    let j = length str - i * b in
    let e : length str ≡ i * b + j = omega arith in
    let r : length str % b ≡ j = ap (λ (n : ℕ). n % b) e ∙ digits_mod i (omega arith) in
    let rest : List ℕ = drop (i * b) str ++ (128 ∷ replicate (b - 1 - j) 0) in
    ap (take b) (drop-append-le (i * b) str (128 ∷ replicate (b - 1 - length str % b) 0) (omega arith))
    ∙ ap (λ (n : ℕ). take b (drop (i * b) str ++ (128 ∷ replicate (b - 1 - n) 0))) r
    ∙ take_all b rest
    (omega (arith, length-append (drop (i * b) str) (128 ∷ replicate (b - 1 - j) 0), length-drop (i * b) str, length-replicate {A = ℕ} (b - 1 - j) 0))

pub absorb_last : (b i : ℕ) (str s : List ℕ) → i * b ≤ length str → length str < i * b + b → b ≤ length s
    → xor_into (block b i (padded b str)) s ≡ xor_at (length str - i * b) 128 (xor_into (drop (i * b) str) s)
absorb_last b i str s h k n =
    let j = length str - i * b in
    let e : length (drop (i * b) str) ≡ j = length-drop (i * b) str in
    ap (λ (u : List ℕ). xor_into u s) (block_last b i str h k)
    ∙ xor_into_pad 128 (drop (i * b) str) (b - 1 - j) s (omega arith)
    ∙ ap (λ (u : ℕ). xor_at u 128 (xor_into (drop (i * b) str) s)) e
