-- A word by its digits: `Digits w a f` says that a has w digits and that they are f 0, f 1, .. A proof about a formula on words goes by
-- these laws along the formula, and ends in `digits_is`: the formula's value is the number made of the digits that it computes.
-- Assumes nothing.
use Rattle.std.specs.Prelude.{◌≡◌, refl, Bool, not, ◌&&◌, ◌||◌, ℕ, ◌+◌, ◌-◌, ◌%◌, ◌^◌, ◌<◌}
use Rattle.std.proofs.Common.{sym, ap, ap₂, ◌∙◌, mod-lt}
use Rattle.std.proofs.Math.Pow.{ones_sub-lt}
use Rattle.std.specs.Int.Bits.{bit_and, bit_or, bit_xor, and_lt}
use Rattle.std.proofs.lemmas.Nat.{or_lt, xor_lt}
use Rattle.bits.specs.Digit.{bit, bit-xor, bit-and, bit-or, bit_not, ◌⊕◌}
use Rattle.bits.specs.Number.{number, number_cong, is_number}
use Rattle.bits.specs.Rotate.{rotr, rotr_lt, bit-rotr}

-- a is a word of w digits, and digit k is f k
pub record Digits (w a : ℕ) (f : ℕ → Bool) : Type 0 where
  pub fits : a < 2 ^ w
  pub at : (k : ℕ) → k < w → bit a k ≡ f k

-- a word has its own digits
pub own : {w a : ℕ} → a < 2 ^ w → Digits w a (bit a)
own h = record { fits = h; at = λ k l. refl }

-- a word is the number made of its digits
pub digits_is : {w a : ℕ} {f : ℕ → Bool} → Digits w a f → a ≡ number w f
digits_is {w} {a} {f} d = is_number w a f d.fits d.at

-- words of the same digits are equal
pub same_digits : {w a b : ℕ} {f g : ℕ → Bool} → Digits w a f → Digits w b g → ((k : ℕ) → k < w → f k ≡ g k) → a ≡ b
same_digits {w} {a} {b} {f} {g} p q e = digits_is p ∙ number_cong w f g e ∙ sym (digits_is q)

module _ {w a b : ℕ} {f g : ℕ → Bool} (p : Digits w a f) (q : Digits w b g) where
  pub xor-digits : Digits w (bit_xor a b) (λ k. f k ⊕ g k)
  xor-digits =
      record { fits = xor_lt w a b p.fits q.fits; at = λ k l. bit-xor a b k ∙ ap₂ ◌⊕◌ (p.at k l) (q.at k l) }

  pub and-digits : Digits w (bit_and a b) (λ k. f k && g k)
  and-digits =
      record { fits = and_lt w a b p.fits q.fits; at = λ k l. bit-and a b k ∙ ap₂ ◌&&◌ (p.at k l) (q.at k l) }

  pub or_digits : Digits w (bit_or a b) (λ k. f k || g k)
  or_digits =
      record { fits = or_lt w a b p.fits q.fits; at = λ k l. bit-or a b k ∙ ap₂ ◌||◌ (p.at k l) (q.at k l) }

-- `!a`
pub not_digits : {w a : ℕ} {f : ℕ → Bool} → Digits w a f → Digits w (2 ^ w - 1 - a) (λ k. not (f k))
not_digits {w} {a} p = record { fits = ones_sub-lt w a; at = λ k l. bit_not w a k p.fits l ∙ ap not (p.at k l) }

-- a turned right by n places
pub turn_digits : {w a : ℕ} {f : ℕ → Bool} → 0 < w → Digits w a f → (n : ℕ) → Digits w (rotr w n a) (λ k. f ((k + n) % w))
turn_digits {w} {a} pos p n =
    record { fits = rotr_lt w n a; at = λ k l. bit-rotr w n a k l ∙ p.at ((k + n) % w) (mod-lt (k + n) pos) }
