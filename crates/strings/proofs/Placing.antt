-- What a loop does that absorbs a string or writes it, byte by byte, and what parts of texts come to.
-- Assumes nothing.
use mathlib.Core.Path.{◌≡◌, refl, sym, ap, ◌∙◌}
use mathlib.Core.List.{List, [], ◌∷◌, ◌++◌}
use Prim.Native.Nat.{ℕ, zero, suc, ◌+◌, ◌-◌, ◌*◌, ◌≤◌, ◌<◌, min}
use native.Mathlib.Decide.{dec_lt}
use native.Mathlib.Omega.{arith}
use lib.Bits.{bit_xor}
use lib.ListN.{length, get_or, take, drop, set, length-drop}
use lib.Seq.{drop-drop, length-take-le, take_all}
use Rattle.bits.specs.Put.{put_at}
use Rattle.bits.specs.Xors.{xors, length-xors, xors_none}
use Rattle.bits.specs.Strings.{xor_into, block}

-- ---- a string absorbed

-- one byte more
pub xor_into_more : (xs s : List ℕ) (i : ℕ) → i < length xs
    → set (xor_into (take i xs) s) i (bit_xor (get_or (xor_into (take i xs) s) i 0) (get_or xs i 0)) ≡ xor_into (take (suc i) xs) s
unfolding xor_into xors
xor_into_more [] s i h = absurd (omega arith)
xor_into_more (x ∷ xs) [] zero h = refl
xor_into_more (x ∷ xs) (y ∷ s) zero h = ap (λ (u : List ℕ). bit_xor y x ∷ (u ++ s)) (sym (xors_none s))
xor_into_more (x ∷ xs) [] (suc i) h = refl
xor_into_more (x ∷ xs) (y ∷ s) (suc i) h = ap (λ (u : List ℕ). bit_xor y x ∷ u) (xor_into_more xs s i (omega arith))

-- ---- a block of text

-- one byte more
pub xors_more : (s xs o : List ℕ) (i : ℕ) → i < length xs → length xs ≤ length s → length o ≡ length xs
    → set (xors s (take i xs) ++ drop i o) i (bit_xor (get_or s i 0) (get_or xs i 0)) ≡ xors s (take (suc i) xs) ++ drop (suc i) o
unfolding xors
xors_more s [] o i h k e = absurd (omega arith)
xors_more [] (x ∷ xs) o i h k e = absurd (omega arith)
xors_more (y ∷ s) (x ∷ xs) [] i h k e = absurd (omega arith)
xors_more (y ∷ s) (x ∷ xs) (z ∷ o) zero h k e = ap (λ (u : List ℕ). bit_xor y x ∷ (u ++ o)) (sym (xors_none s))
xors_more (y ∷ s) (x ∷ xs) (z ∷ o) (suc i) h k e = ap (λ (u : List ℕ). bit_xor y x ∷ u) (xors_more s xs o i (omega arith) (omega arith) (omega arith))

-- the part of a text up to its block's end is the block
text_part : (b i e : ℕ) (text : List ℕ) → i * b ≤ length text → e ≡ min (i * b + b) (length text) → take (e - i * b) (drop (i * b) text) ≡ block b i text
unfolding block
text_part b i e text h k =
    elim (dec_lt (length text) (i * b + b)) [
      | yes y ↦
          take_all (e - i * b) (drop (i * b) text) (omega (arith, length-drop (i * b) text))
          ∙ sym (take_all b (drop (i * b) text) (omega (arith, length-drop (i * b) text)))
      | no z ↦ let q : e - i * b ≡ b = omega arith in ap (λ (n : ℕ). take n (drop (i * b) text)) q
    ]

-- the part of an output that came back holds its block
pub wrote : (i b e : ℕ) (ys text s o : List ℕ) → b ≤ length s → i * b ≤ length text → e ≡ min (i * b + b) (length text)
    → ys ≡ xors s (take (e - i * b) (drop (i * b) text))
    → take (i * b) o ++ (ys ++ drop (e - i * b) (drop (i * b) o)) ≡ put_at (i * b) (xors s (block b i text)) o
unfolding put_at
wrote i b e ys text s o small off he h =
    let n = e - i * b in
    let part = take n (drop (i * b) text) in
    let long : length part ≡ n = length-take-le n (drop (i * b) text) (omega (arith, length-drop (i * b) text)) in
    let k : length ys ≡ n = ap length h ∙ length-xors s part ∙ omega arith in
    let y : ys ≡ xors s (block b i text) = h ∙ ap (xors s) (text_part b i e text off he) in
    ap (λ (u : List ℕ). take (i * b) o ++ (ys ++ u)) (drop-drop n (i * b) o)
    ∙ ap (λ (j : ℕ). take (i * b) o ++ (ys ++ drop (i * b + j) o)) (sym k)
    ∙ ap (λ (u : List ℕ). put_at (i * b) u o) y
