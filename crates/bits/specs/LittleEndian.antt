-- A number as n bytes, the least significant first, and the way back; and where its digits stand in them.
-- Assumes nothing.
use Rattle.std.specs.Prelude.{◌≡◌, refl, List, [], ◌∷◌, ℕ, zero, suc, ◌+◌, ◌-◌, ◌*◌, ◌/◌, ◌%◌, ◌^◌, ◌<◌, length, get_or}
use Rattle.std.proofs.Common.{sym, ap, ap₂, ◌∙◌, subst, zero-lt-suc, mod-lt, pow-suc, arith}
use Rattle.std.proofs.Math.Nat.{mod-one}
use Rattle.std.proofs.Math.Decide.{dec_lt}
use Rattle.std.proofs.Math.Arith.{digits_lt, digits_div, digits_mod, mod-mul}
use Rattle.std.specs.Int.Bits.{bit_xor}
use Rattle.std.proofs.lemmas.Nat.{xor_shr, xor_mod}
use Rattle.bits.specs.Digit.{bit, bit-mod, bit-shr, bit_high}
use Rattle.bits.specs.Bytes.{Bytes, head_byte, tail_bytes, no_bytes, cons_bytes, bytes_pos}
use Rattle.bits.specs.Xors.{xors}

-- the n low bytes of x, the least significant first
unfoldable pub le_bytes : ℕ → ℕ → List ℕ
le_bytes zero x = []
le_bytes (suc n) x = x % 256 ∷ le_bytes n (x / 256)

-- the number that a list of bytes is, the first least significant
unfoldable pub from_le : List ℕ → ℕ
from_le [] = 0
from_le (b ∷ s) = from_le s * 256 + b

pub length-le_bytes : (n x : ℕ) → length (le_bytes n x) ≡ n
unfolding le_bytes
length-le_bytes zero x = refl
length-le_bytes (suc n) x = ap suc (length-le_bytes n (x / 256))

pub bytes-le_bytes : (n x : ℕ) → Bytes (le_bytes n x)
unfolding le_bytes
bytes-le_bytes zero x = no_bytes
bytes-le_bytes (suc n) x = cons_bytes (mod-lt x (zero-lt-suc 255)) (bytes-le_bytes n (x / 256))

pub from_le_lt : (s : List ℕ) → Bytes s → from_le s < 256 ^ length s
unfolding from_le
from_le_lt [] h = zero-lt-suc 0
from_le_lt (b ∷ s) h =
    subst (λ (n : ℕ). from_le s * 256 + b < n) (sym (pow-suc 256 (length s))) (digits_lt (from_le_lt s (tail_bytes h)) (head_byte h))

pub from_le-le_bytes : (n x : ℕ) → from_le (le_bytes n x) ≡ x % 256 ^ n
unfolding from_le le_bytes
from_le-le_bytes zero x = sym (mod-one x)
from_le-le_bytes (suc n) x =
    ap (λ (y : ℕ). y * 256 + x % 256) (from_le-le_bytes n (x / 256))
    ∙ sym (ap (λ (m : ℕ). x % m) (pow-suc 256 n) ∙ mod-mul x (bytes_pos n) (zero-lt-suc 255))

-- back and there
pub le_bytes-from_le : (s : List ℕ) → Bytes s → le_bytes (length s) (from_le s) ≡ s
unfolding from_le le_bytes
le_bytes-from_le [] h = refl
le_bytes-from_le (b ∷ s) h =
    ap₂ (λ (x : ℕ) (r : List ℕ). x ∷ r) (digits_mod (from_le s) (head_byte h))
    (ap (le_bytes (length s)) (digits_div (from_le s) (head_byte h)) ∙ le_bytes-from_le s (tail_bytes h))

-- the bytes of a xor
pub le_bytes-xor : (n x y : ℕ) → le_bytes n (bit_xor x y) ≡ xors (le_bytes n x) (le_bytes n y)
unfolding le_bytes xors
le_bytes-xor zero x y = refl
le_bytes-xor (suc n) x y =
    ap₂ (λ (z : ℕ) (s : List ℕ). z ∷ s) (xor_mod x y 8) (ap (le_bytes n) (xor_shr x y 8) ∙ le_bytes-xor n (x / 256) (y / 256))

-- ---- the digits of a number, by its little-endian bytes: digit i stands in byte i / 8, at place i % 8

low_digit : (x b i : ℕ) → b < 256 → i < 8 → bit (x * 256 + b) i ≡ bit b i
low_digit x b i h l = sym (bit-mod (x * 256 + b) 8 i l) ∙ ap (λ (n : ℕ). bit n i) (digits_mod x h)

high_digit : (x b i : ℕ) → b < 256 → bit (x * 256 + b) (8 + i) ≡ bit x i
high_digit x b i h = sym (bit-shr (x * 256 + b) 8 i) ∙ ap (λ (n : ℕ). bit n i) (digits_div x h)

pub bit-from_le : (s : List ℕ) → Bytes s → (i : ℕ) → bit (from_le s) i ≡ bit (get_or s (i / 8) 0) (i % 8)
unfolding from_le
bit-from_le [] h i = bit_high 0 0 i (zero-lt-suc 0) (omega arith) ∙ sym (bit_high 0 0 (i % 8) (zero-lt-suc 0) (omega arith))
bit-from_le (b ∷ s) h i = elim (dec_lt i 8) [ yes l ↦ first i l | no f ↦ later (i - 8) i (omega arith) (bit-from_le s (tail_bytes h) (i - 8)) ]
  where
    first : (i : ℕ) → i < 8 → bit (from_le s * 256 + b) i ≡ bit (get_or (b ∷ s) (i / 8) 0) (i % 8)
    first i l =
        let p : 0 ≡ i / 8 = omega arith in
        let q : i ≡ i % 8 = omega arith in
        low_digit (from_le s) b i (head_byte h) l ∙ ap₂ (λ (j k : ℕ). bit (get_or (b ∷ s) j 0) k) p q

    later : (j i : ℕ) → 8 + j ≡ i → bit (from_le s) j ≡ bit (get_or s (j / 8) 0) (j % 8)
        → bit (from_le s * 256 + b) i ≡ bit (get_or (b ∷ s) (i / 8) 0) (i % 8)
    later j i e r =
        let p : suc (j / 8) ≡ i / 8 = omega arith in
        let q : j % 8 ≡ i % 8 = omega arith in
        ap (bit (from_le s * 256 + b)) (sym e) ∙ high_digit (from_le s) b j (head_byte h) ∙ r
        ∙ ap₂ (λ (m k : ℕ). bit (get_or (b ∷ s) m 0) k) p q
