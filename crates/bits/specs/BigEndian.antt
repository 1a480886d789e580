-- A number as n bytes, the most significant first, and the way back; also as a program puts bytes together, by shifts and `or`s.
-- Assumes nothing.
use Rattle.std.specs.Prelude.{◌≡◌, refl, List, [], ◌∷◌, ℕ, zero, suc, ◌+◌, ◌*◌, ◌/◌, ◌%◌, ◌^◌, ◌<◌, length}
use Rattle.std.proofs.Common.{sym, ap, ap₂, ◌∙◌, subst, zero-lt-suc, mod-lt, mod-eq_of_lt, mul_assoc, add_comm, pow-suc, add-zero, add_assoc, add-mul, mul-lt-mul_of_pos_right, arith, pow-add}
use Rattle.std.proofs.Math.Nat.{add-mul-div_right, add-mul-mod_self_right, pow-succ', mod-one}
use Rattle.std.proofs.Math.Arith.{digits_lt, digits_div, mod-mul}
use Rattle.std.specs.Int.Bits.{bit_or, bit_xor}
use Rattle.std.proofs.lemmas.Nat.{or_shifted, xor_shr, xor_mod}
use Rattle.bits.specs.Bytes.{Bytes, head_byte, tail_bytes, no_bytes, cons_bytes, bytes_pos}
use Rattle.bits.specs.Xors.{xors}

-- the n low bytes of x, the most significant first
unfoldable pub be_bytes : ℕ → ℕ → List ℕ
be_bytes zero x = []
be_bytes (suc n) x = x / 256 ^ n % 256 ∷ be_bytes n x

-- the number that a list of bytes is, the first most significant
unfoldable pub from_be : List ℕ → ℕ
from_be [] = 0
from_be (b ∷ s) = b * 256 ^ length s + from_be s

pub length-be_bytes : (n x : ℕ) → length (be_bytes n x) ≡ n
unfolding be_bytes
length-be_bytes zero x = refl
length-be_bytes (suc n) x = ap suc (length-be_bytes n x)

pub bytes-be_bytes : (n x : ℕ) → Bytes (be_bytes n x)
unfolding be_bytes
bytes-be_bytes zero x = no_bytes
bytes-be_bytes (suc n) x = cons_bytes (mod-lt (x / 256 ^ n) (zero-lt-suc 255)) (bytes-be_bytes n x)

pub from_be_lt : (s : List ℕ) → Bytes s → from_be s < 256 ^ length s
unfolding from_be
from_be_lt [] h = zero-lt-suc 0
from_be_lt (b ∷ s) h =
    subst (λ (n : ℕ). b * 256 ^ length s + from_be s < n) (sym (pow-succ' 256 (length s))) (digits_lt (head_byte h) (from_be_lt s (tail_bytes h)))

-- the n low bytes see nothing above them
shifted : (n q : ℕ) → q * 256 ^ suc n ≡ q * 256 * 256 ^ n
shifted n q = ap (λ (m : ℕ). q * m) (pow-succ' 256 n) ∙ sym (mul_assoc q 256 (256 ^ n))

top_byte : (n q r : ℕ) → (q * 256 * 256 ^ n + r) / 256 ^ n % 256 ≡ r / 256 ^ n % 256
top_byte n q r =
    ap (λ (m : ℕ). m / 256 ^ n % 256) (add_comm (q * 256 * 256 ^ n) r)
    ∙ ap (λ (m : ℕ). m % 256) (add-mul-div_right r (q * 256) (bytes_pos n)) ∙ add-mul-mod_self_right (r / 256 ^ n) q 256

below_be : (n q r : ℕ) → be_bytes n (q * 256 ^ n + r) ≡ be_bytes n r
unfolding be_bytes
below_be zero q r = refl
below_be (suc n) q r =
    ap (λ (m : ℕ). be_bytes (suc n) (m + r)) (shifted n q)
    ∙ ap₂ (λ (x : ℕ) (s : List ℕ). x ∷ s) (top_byte n q r) (below_be n (q * 256) r)

-- there and back
pub from_be-be_bytes : (n x : ℕ) → from_be (be_bytes n x) ≡ x % 256 ^ n
unfolding from_be be_bytes
from_be-be_bytes zero x = sym (mod-one x)
from_be-be_bytes (suc n) x =
    ap₂ (λ (l y : ℕ). x / 256 ^ n % 256 * 256 ^ l + y) (length-be_bytes n x) (from_be-be_bytes n x)
    ∙ sym (ap (λ (m : ℕ). x % m) (pow-succ' 256 n) ∙ mod-mul x (zero-lt-suc 255) (bytes_pos n))

-- back and there
pub be_bytes-from_be : (s : List ℕ) → Bytes s → be_bytes (length s) (from_be s) ≡ s
unfolding from_be be_bytes
be_bytes-from_be [] h = refl
be_bytes-from_be (b ∷ s) h =
    ap₂ (λ (x : ℕ) (r : List ℕ). x ∷ r)
    (ap (λ (n : ℕ). n % 256) (digits_div b (from_be_lt s (tail_bytes h))) ∙ mod-eq_of_lt (head_byte h))
    (below_be (length s) b (from_be s) ∙ be_bytes-from_be s (tail_bytes h))

-- ---- bytes put together by shifts and `or`s, as a program does

pub pow_256 : (n : ℕ) → 256 ^ n ≡ 2 ^ (8 * n)
pow_256 zero = refl
pow_256 (suc n) =
    pow-suc 256 n ∙ ap (λ (m : ℕ). m * 256) (pow_256 n) ∙ sym (pow-add 2 (8 * n) 8) ∙ ap (λ (m : ℕ). 2 ^ m) eight
  where
    eight : 8 * n + 8 ≡ 8 * suc n
    eight = omega arith

or_256 : (n h y : ℕ) → y < 256 ^ n → bit_or (h * 256 ^ n) y ≡ h * 256 ^ n + y
or_256 n h y = subst (λ (m : ℕ). y < m → bit_or (h * m) y ≡ h * m + y) (sym (pow_256 n)) (or_shifted h (8 * n) y)

-- each byte of s at its place, or'ed to what is there. On a list that is written out it computes to the `or`s themselves
abbrev pub or_bytes : ℕ → List ℕ → ℕ
or_bytes a [] = a
or_bytes a (b ∷ s) = or_bytes (bit_or a (b * 256 ^ length s)) s

or_byte : (n h b : ℕ) → b < 256 → bit_or (h * 256 ^ suc n) (b * 256 ^ n) ≡ (h * 256 + b) * 256 ^ n
or_byte n h b hb =
    or_256 (suc n) h (b * 256 ^ n) (subst (λ (m : ℕ). b * 256 ^ n < m) (sym (pow-succ' 256 n)) (mul-lt-mul_of_pos_right hb (bytes_pos n)))
    ∙ ap (λ (m : ℕ). m + b * 256 ^ n) (shifted n h) ∙ sym (add-mul (h * 256) b (256 ^ n))

or_all : (s : List ℕ) (h : ℕ) → Bytes s → or_bytes (h * 256 ^ length s) s ≡ h * 256 ^ length s + from_be s
unfolding from_be
or_all [] h k = sym (add-zero (h * 256 ^ 0))
or_all (b ∷ s) h k =
    ap (λ (m : ℕ). or_bytes m s) (or_byte (length s) h b (head_byte k))
    ∙ or_all s (h * 256 + b) (tail_bytes k)
    ∙ ap (λ (m : ℕ). m + from_be s) (add-mul (h * 256) b (256 ^ length s) ∙ ap (λ (m : ℕ). m + b * 256 ^ length s) (sym (shifted (length s) h)))
    ∙ add_assoc (h * 256 ^ suc (length s)) (b * 256 ^ length s) (from_be s)

-- `(b << 8n) | (c << 8(n-1)) | .. | z` is the number that the bytes b, c, .., z are
pub or_bytes_lem : (b : ℕ) (s : List ℕ) → Bytes s → or_bytes (b * 256 ^ length s) s ≡ from_be (b ∷ s)
unfolding from_be
or_bytes_lem b s k = or_all s b k

-- ---- the bytes of a xor

xor_byte : (n x y : ℕ) → bit_xor x y / 256 ^ n % 256 ≡ bit_xor (x / 256 ^ n % 256) (y / 256 ^ n % 256)
xor_byte n x y =
    subst (λ (m : ℕ). bit_xor x y / m % 256 ≡ bit_xor (x / m % 256) (y / m % 256)) (sym (pow_256 n))
    (ap (λ (m : ℕ). m % 256) (xor_shr x y (8 * n)) ∙ xor_mod (x / 2 ^ (8 * n)) (y / 2 ^ (8 * n)) 8)

pub be_bytes-xor : (n x y : ℕ) → be_bytes n (bit_xor x y) ≡ xors (be_bytes n x) (be_bytes n y)
unfolding be_bytes xors
be_bytes-xor zero x y = refl
be_bytes-xor (suc n) x y = ap₂ (λ (z : ℕ) (s : List ℕ). z ∷ s) (xor_byte n x y) (be_bytes-xor n x y)
