-- A number from its digits: `number w f` has the w digits f 0 .. f (w - 1). Two numbers below 2 ^ w are equal when their digits are.
-- Assumes nothing.
use Rattle.std.specs.Prelude.{◌≡◌, refl, Bool, true, false, ℕ, zero, suc, ◌+◌, ◌*◌, ◌/◌, ◌%◌, ◌^◌, ◌<◌, eqb}
use Rattle.std.proofs.Common.{sym, ap, ap₂, ◌∙◌, subst, not-suc-le-zero, mod-lt, mod-eq_of_lt, mul_comm, pow-suc, one-add, arith, below_more, lit<}
use Rattle.std.proofs.Math.Nat.{mod-one}
use Rattle.std.proofs.Math.Arith.{digits_lt}
use Rattle.std.proofs.Math.Pow.{high, low}
use Rattle.std.proofs.lemmas.Nat.{mod-pow-add}
use Rattle.bits.specs.Digit.{odd, bit, bit-mod, below2, two_pos}

-- a digit as a number
abbrev pub value : Bool → ℕ
value true = 1
value false = 0

-- the number with the digits f 0 .. f (w - 1)
unfoldable pub number : ℕ → (ℕ → Bool) → ℕ
number zero f = 0
number (suc w) f = value (f w) * 2 ^ w + number w f

pub value_lt : (b : Bool) → value b < 2
value_lt true = lit< tt
value_lt false = lit< tt

odd-value : (b : Bool) → odd (value b) ≡ b
unfolding odd
odd-value true = refl
odd-value false = refl

pub value-bit : (n z : ℕ) → value (bit n z) ≡ n / 2 ^ z % 2
unfolding bit odd
value-bit n z = below2 (λ (d : ℕ). value (eqb d 1) ≡ d) refl refl (n / 2 ^ z % 2) (mod-lt (n / 2 ^ z) two_pos)

pub number_lt : (w : ℕ) (f : ℕ → Bool) → number w f < 2 ^ w
unfolding number
number_lt zero f = lit< tt
number_lt (suc w) f =
    subst (λ (m : ℕ). value (f w) * 2 ^ w + number w f < m) (sym (pow-suc 2 w ∙ mul_comm (2 ^ w) 2))
    (digits_lt (value_lt (f w)) (number_lt w f))

pub number_cong : (w : ℕ) (f g : ℕ → Bool) → ((z : ℕ) → z < w → f z ≡ g z) → number w f ≡ number w g
unfolding number
number_cong zero f g h = refl
number_cong (suc w) f g h =
    ap₂ (λ (b : Bool) (n : ℕ). value b * 2 ^ w + n) (h w (omega arith)) (number_cong w f g (λ z l. h z (omega arith)))

-- the w low digits of n make n % 2 ^ w
pub number-bits : (w n : ℕ) → number w (bit n) ≡ n % 2 ^ w
unfolding number
number-bits zero n = sym (mod-one n)
number-bits (suc w) n =
    ap₂ (λ (a b : ℕ). a * 2 ^ w + b) (value-bit n w) (number-bits w n) ∙ sym (mod-pow-add n 1 w) ∙ ap (λ (j : ℕ). n % 2 ^ j) (one-add w)

-- the digits of a number that is made of digits: the one in front, and those behind it
bit-front : (b : Bool) (w r : ℕ) → r < 2 ^ w → bit (value b * 2 ^ w + r) w ≡ b
unfolding bit
bit-front b w r h = ap odd (high (value b) w h) ∙ odd-value b

bit-behind : (d w r z : ℕ) → r < 2 ^ w → z < w → bit (d * 2 ^ w + r) z ≡ bit r z
bit-behind d w r z h l = sym (bit-mod (d * 2 ^ w + r) w z l) ∙ ap (λ (n : ℕ). bit n z) (low d w h)

pub bit-number : (w : ℕ) (f : ℕ → Bool) (z : ℕ) → z < w → bit (number w f) z ≡ f z
unfolding number
bit-number zero f z h = absurd (not-suc-le-zero h)
bit-number (suc w) f z h =
    below_more (λ (z : ℕ). bit (number (suc w) f) z ≡ f z) w
    (λ z l. bit-behind (value (f w)) w (number w f) z (number_lt w f) l ∙ bit-number w f z l)
    (bit-front (f w) w (number w f) (number_lt w f))
    z (omega arith)

-- a number of w digits is the one made of the digits f when its digits are f's
pub is_number : (w a : ℕ) (f : ℕ → Bool) → a < 2 ^ w → ((z : ℕ) → z < w → bit a z ≡ f z) → a ≡ number w f
is_number w a f h e = sym (mod-eq_of_lt h) ∙ sym (number-bits w a) ∙ number_cong w (bit a) f e

-- two numbers of w digits are equal when their digits are
pub bit_ext : (w a b : ℕ) → a < 2 ^ w → b < 2 ^ w → ((z : ℕ) → z < w → bit a z ≡ bit b z) → a ≡ b
bit_ext w a b ha hb e = is_number w a (bit b) ha e ∙ number-bits w b ∙ mod-eq_of_lt hb
