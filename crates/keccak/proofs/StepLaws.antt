-- What the code computes of a lane, against the bits of FIPS 202, a law for each step mapping.
-- Assumes nothing.
use mathlib.Core.Path.{◌≡◌, refl, sym, ap, ap₂, ◌∙◌}
use mathlib.Core.Bool.{Bool, true, false, not, ◌&&◌, ◌||◌}
use mathlib.Core.List.{List, [], ◌∷◌}
use Prim.Native.Nat.{ℕ, zero, suc, ◌+◌, ◌*◌, ◌-◌, ◌%◌, ◌^◌, ◌<◌}
use native.Mathlib.Omega.{arith}
use lib.Bits.{bit_xor, bit_and, bit_or}
use lib.ListN.{length, get_or, set}
use Rattle.bits.specs.Digit.{bit, ◌⊕◌, bit-xor, bit-and, bit_not, xor_true}
use Rattle.bits.specs.Rotate.{rotl, bit-rotl}
use Rattle.bits.specs.Word.{own, same_digits, xor-digits, and-digits, or_digits, not_digits}
use Rattle.keccak.specs.Fips202.{C, D, θ, offset, ρ, π, χ, RC, ι}
use Rattle.keccak.specs.Agree.{Agree, mod5}
use Rattle.keccak.specs.Lanes.{five, at, lane, array_of, added_lane, parity_lane, effect_lane, chi_lane}
use Rattle.keccak.proofs.Five.{at_five}

-- ---- θ

parity-bits : (a : List (List ℕ)) (x z : ℕ) → bit (parity_lane a x) z ≡ C (array_of a) x z
unfolding C array_of
parity-bits a x z = simp bit-xor

-- the parities, a lane for each x
parity_at : (a : List (List ℕ)) (x z : ℕ) → x < 5 → bit (at (five (parity_lane a)) x) z ≡ C (array_of a) x z
parity_at a x z hx = ap (λ (v : ℕ). bit v z) (at_five (parity_lane a) 0 x hx) ∙ parity-bits a x z

effect_bits : (a : List (List ℕ)) (x z : ℕ) → x < 5 → z < 16 → bit (at (five (effect_lane (five (parity_lane a)))) x) z ≡ D (array_of a) x z
unfolding D
effect_bits a x z hx hz =
    let c = five (parity_lane a) in
    ap (λ (v : ℕ). bit v z) (at_five (effect_lane c) 0 x hx)
    ∙ bit-xor (at c ((x + 4) % 5)) (rotl 16 1 (at c ((x + 1) % 5))) z
    ∙ ap₂ ◌⊕◌ (parity_at a ((x + 4) % 5) z (mod5 (x + 4)))
    (bit-rotl 16 1 (at c ((x + 1) % 5)) z hz ∙ parity_at a ((x + 1) % 5) ((z + 15) % 16) (mod5 (x + 1)))

pub theta_bits : (a : List (List ℕ)) (d : List ℕ) → d ≡ five (effect_lane (five (parity_lane a)))
    → (x y z : ℕ) → x < 5 → y < 5 → z < 16 → bit (added_lane (get_or a y []) d x) z ≡ θ (array_of a) x y z
unfolding θ array_of
theta_bits a d e x y z hx hy hz =
    bit-xor (lane a x y) (at d x) z
    ∙ ap (λ (b : Bool). bit (lane a x y) z ⊕ b) (ap (λ (d : List ℕ). bit (at d x) z) e ∙ effect_bits a x z hx hz)

-- ---- ρ and π

pub rho_pi_bits : (a : List (List ℕ)) (x y z : ℕ) → x < 5 → y < 5 → z < 16
    → bit (rotl 16 (offset ((x + 3 * y) % 5) x % 16) (lane a ((x + 3 * y) % 5) x)) z ≡ π (ρ (array_of a)) x y z
unfolding π ρ array_of
rho_pi_bits a x y z hx hy hz = bit-rotl 16 (offset ((x + 3 * y) % 5) x % 16) (lane a ((x + 3 * y) % 5) x) z hz

-- ---- χ

-- `!a ^ (b | !c)` is `a ^ (!b & c)`: in one digit, and in a lane
or_digit : (a b c : Bool) → not a ⊕ (b || not c) ≡ a ⊕ (not b && c)
or_digit true true c = refl
or_digit true false true = refl
or_digit true false false = refl
or_digit false true c = refl
or_digit false false true = refl
or_digit false false false = refl

pub chi_or : (a b c : ℕ) → a < 2 ^ 16 → b < 2 ^ 16 → c < 2 ^ 16
    → bit_xor (65535 - a) (bit_or b (65535 - c)) ≡ bit_xor a (bit_and (65535 - b) c)
chi_or a b c ha hb hc =
    same_digits {w = 16} (xor-digits (not_digits (own ha)) (or_digits (own hb) (not_digits (own hc))))
    (xor-digits (own ha) (and-digits (not_digits (own hb)) (own hc)))
    (λ z l. or_digit (bit a z) (bit b z) (bit c z))

pub chi_bits : (a : List (List ℕ)) → ((x y : ℕ) → lane a x y < 2 ^ 16)
    → (x y z : ℕ) → x < 5 → y < 5 → z < 16 → bit (chi_lane (get_or a y []) x) z ≡ χ (array_of a) x y z
unfolding χ array_of
chi_bits a fits x y z hx hy hz =
    let v = lane a ((x + 1) % 5) y in
    let w = lane a ((x + 2) % 5) y in
    bit-xor (lane a x y) (bit_and (65535 - v) w) z
    ∙ ap (λ (b : Bool). bit (lane a x y) z ⊕ b)
    (bit-and (65535 - v) w z ∙ ap (λ (b : Bool). b && bit w z) (bit_not 16 v z (fits ((x + 1) % 5) y) hz ∙ sym (xor_true (bit v z))))

-- ---- ι

pub iota_bits : (a : List (List ℕ)) (k i : ℕ) → length a ≡ 5 → length (get_or a 0 []) ≡ 5 → ((z : ℕ) → z < 16 → bit k z ≡ RC i z)
    → Agree (array_of (set a 0 (set (get_or a 0 []) 0 (bit_xor (lane a 0 0) k)))) (ι i (array_of a))
unfolding Agree array_of ι
iota_bits [] k i l m h x y z hx hy hz = absurd (omega arith)
iota_bits ([] ∷ a) k i l m h x y z hx hy hz = absurd (omega arith)
iota_bits ((v ∷ p) ∷ a) k i l m h zero zero z hx hy hz = bit-xor v k z ∙ ap (λ (b : Bool). bit v z ⊕ b) (h z hz)
iota_bits ((v ∷ p) ∷ a) k i l m h zero (suc y) z hx hy hz = refl
iota_bits ((v ∷ p) ∷ a) k i l m h (suc x) zero z hx hy hz = refl
iota_bits ((v ∷ p) ∷ a) k i l m h (suc x) (suc y) z hx hy hz = refl
