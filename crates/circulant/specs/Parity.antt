-- The parity of the ones among n digits: whether an odd number of them is set. Sums of digits go by it as a matrix's lines do.
-- Assumes nothing.
use Rattle.std.specs.Prelude.{◌≡◌, refl, Bool, true, false, ℕ, zero, suc, ◌<◌}
use Rattle.std.proofs.Common.{ap, ap₂, ◌∙◌, not-suc-le-zero, arith}
use Rattle.std.proofs.Math.Decide.{ℕ_discrete}
use Rattle.bits.specs.Digit.{◌⊕◌}

-- f 0 ⊕ .. ⊕ f (n - 1)
unfoldable pub parity : ℕ → (ℕ → Bool) → Bool
parity zero f = false
parity (suc n) f = parity n f ⊕ f n

pub parity_cong : (n : ℕ) (f g : ℕ → Bool) → ((k : ℕ) → k < n → f k ≡ g k) → parity n f ≡ parity n g
unfolding parity
parity_cong zero f g e = refl
parity_cong (suc n) f g e = ap₂ ◌⊕◌ (parity_cong n f g (λ k l. e k (omega arith))) (e n (omega arith))

pub exchange : (a b c d : Bool) → (a ⊕ b) ⊕ (c ⊕ d) ≡ (a ⊕ c) ⊕ (b ⊕ d)
exchange true true true true = refl
exchange true true true false = refl
exchange true true false true = refl
exchange true true false false = refl
exchange true false true true = refl
exchange true false true false = refl
exchange true false false d = refl
exchange false true true true = refl
exchange false true true false = refl
exchange false true false true = refl
exchange false true false false = refl
exchange false false c d = refl

pub parity-xor : (n : ℕ) (f g : ℕ → Bool) → parity n (λ k. f k ⊕ g k) ≡ parity n f ⊕ parity n g
unfolding parity
parity-xor zero f g = refl
parity-xor (suc n) f g = ap (λ (b : Bool). b ⊕ (f n ⊕ g n)) (parity-xor n f g) ∙ exchange (parity n f) (parity n g) (f n) (g n)

-- no digit is set
pub parity_none : (n : ℕ) (f : ℕ → Bool) → ((k : ℕ) → k < n → f k ≡ false) → parity n f ≡ false
unfolding parity
parity_none zero f e = refl
parity_none (suc n) f e = ap₂ ◌⊕◌ (parity_none n f (λ k l. e k (omega arith))) (e n (omega arith))

xor_false : (b : Bool) → b ⊕ false ≡ b
xor_false true = refl
xor_false false = refl

-- no digit but that at k is set
pub parity_one : (n : ℕ) (f : ℕ → Bool) (k : ℕ) → k < n → ((j : ℕ) → j < n → (j ≡ k → ⊥) → f j ≡ false) → parity n f ≡ f k
unfolding parity
parity_one zero f k h e = absurd (not-suc-le-zero h)
parity_one (suc n) f k h e =
    elim (ℕ_discrete n k) [
      | yes p ↦ ap₂ ◌⊕◌ (parity_none n f (λ j l. e j (omega arith) (λ q. omega arith))) (ap f p)
      | no p ↦
          ap₂ ◌⊕◌ (parity_one n f k (omega arith) (λ j l q. e j (omega arith) q)) (e n (omega arith) p) ∙ xor_false (f k)
    ]
