-- A word xored with itself turned by a places and by b, computed with one turn inside the other; and that the two may change places.
-- Assumes nothing.
use mathlib.Core.Path.{◌≡◌, refl, ap, ◌∙◌}
use mathlib.Core.Bool.{Bool, true, false}
use Prim.Native.Nat.{ℕ, ◌+◌, ◌-◌, ◌%◌, ◌^◌, ◌<◌}
use native.Mathlib.Omega.{arith}
use lib.Dec.{lit<}
use lib.Bits.{bit_xor}
use Rattle.bits.specs.Digit.{bit, ◌⊕◌}
use Rattle.bits.specs.Rotate.{rotr}
use Rattle.bits.specs.Word.{Digits, own, same_digits, xor-digits, turn_digits}
use Rattle.ascon.specs.Permutation.{sigma}

xor_assoc : (a b c : Bool) → a ⊕ (b ⊕ c) ≡ (a ⊕ b) ⊕ c
xor_assoc true true true = refl
xor_assoc true true false = refl
xor_assoc true false c = refl
xor_assoc false b c = refl

xor_swap : (a b c : Bool) → (a ⊕ b) ⊕ c ≡ (a ⊕ c) ⊕ b
xor_swap true true true = refl
xor_swap true true false = refl
xor_swap true false true = refl
xor_swap true false false = refl
xor_swap false true true = refl
xor_swap false true false = refl
xor_swap false false true = refl
xor_swap false false false = refl

module _ {x : ℕ} (h : x < 2 ^ 64) where
  turn : (n : ℕ) → Digits 64 (rotr 64 n x) (λ k. bit x ((k + n) % 64))
  turn = turn_digits (lit< tt) (own h)

  digits : (a b : ℕ) → Digits 64 (sigma a b x) (λ k. (bit x k ⊕ bit x ((k + a) % 64)) ⊕ bit x ((k + b) % 64))
  unfolding sigma
  digits a b = xor-digits (xor-digits (own h) (turn a)) (turn b)

  pub sigma_swap : (a b : ℕ) → sigma a b x ≡ sigma b a x
  sigma_swap a b = same_digits (digits a b) (digits b a) (λ k l. xor_swap (bit x k) (bit x ((k + a) % 64)) (bit x ((k + b) % 64)))

  pub nested : (a b : ℕ) → a < b → bit_xor x (rotr 64 a (bit_xor x (rotr 64 (b - a) x))) ≡ sigma a b x
  nested a b l =
      same_digits (xor-digits (own h) (turn_digits (lit< tt) (xor-digits (own h) (turn (b - a))) a)) (digits a b)
      (λ k hk.
      let round : ((k + a) % 64 + (b - a)) % 64 ≡ (k + b) % 64 = omega arith in
      xor_assoc (bit x k) (bit x ((k + a) % 64)) (bit x (((k + a) % 64 + (b - a)) % 64))
      ∙ ap (λ (i : ℕ). (bit x k ⊕ bit x ((k + a) % 64)) ⊕ bit x i) round)
