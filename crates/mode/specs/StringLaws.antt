-- Laws of a string's padding and of its bits.
-- Assumes nothing.
use Rattle.std.specs.Prelude.{◌≡◌, refl, Bool, List, [], ◌∷◌, ◌++◌, ℕ, ◌+◌, ◌-◌, ◌*◌, ◌%◌, ◌≤◌, ◌<◌, length, take, drop, replicate}
use Rattle.std.proofs.Common.{ap, ◌∙◌, arith, lit<, length-drop}
use Rattle.std.proofs.lemmas.List.{drop-append-le, take-append-le}
use Rattle.bits.specs.Number.{value, value_lt}
use Rattle.bits.specs.Bytes.{Bytes, bytes-zeros, bytes-append, cons_bytes}
use Rattle.bits.specs.Strings.{block}
use Rattle.bits.specs.StringLaws.{length-xor_at, xor_at-front, bytes-xor_at}
use Rattle.mode.specs.Strings.{padded, bits_of, xor_bit}

pub length-xor_bit : (y : Bool) (s : List ℕ) → length (xor_bit y s) ≡ length s
unfolding xor_bit
length-xor_bit y s = length-xor_at 0 (value y * 128) s

pub length-bits_of : (s : List ℕ) → length (bits_of s) ≡ 8 * length s
unfolding bits_of
length-bits_of [] = refl
length-bits_of (x ∷ s) = omega (arith, length-bits_of s)

pub xor_bit-front : (y : Bool) (s t : List ℕ) → 0 < length s → xor_bit y (s ++ t) ≡ xor_bit y s ++ t
unfolding xor_bit
xor_bit-front y s t h = xor_at-front 0 (value y * 128) s t h

pub bytes-xor_bit : (y : Bool) (s : List ℕ) → Bytes s → Bytes (xor_bit y s)
unfolding xor_bit
bytes-xor_bit y s k = bytes-xor_at 0 (value y * 128) s (omega (arith, value_lt y)) k

pub bytes-padded : (b : ℕ) (s : List ℕ) → Bytes s → Bytes (padded b s)
unfolding padded
bytes-padded b s h = bytes-append h (cons_bytes (lit< tt) (bytes-zeros (b - 1 - length s % b)))

-- a block that the string fills
pub block_full : (b i : ℕ) (str : List ℕ) → i * b + b ≤ length str → block b i (padded b str) ≡ take b (drop (i * b) str)
unfolding block padded
block_full b i str h =
    let pad : List ℕ = 128 ∷ replicate (b - 1 - length str % b) 0 in
    ap (take b) (drop-append-le (i * b) str pad (omega arith))
    ∙ take-append-le b (drop (i * b) str) pad (omega (arith, length-drop (i * b) str))
