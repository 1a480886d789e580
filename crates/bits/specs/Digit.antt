-- The binary digits of a number, as truth values: digit 0 is the lowest. The laws say what each operation of the machine does to one
-- digit; at a width of w digits `!a` is `2 ^ w - 1 - a`, `a >> n` is `a / 2 ^ n` and `a << n` is `a * 2 ^ n % 2 ^ w`.
-- Assumes nothing.
use Rattle.std.specs.Prelude.{◌≡◌, refl, Bool, true, false, not, ◌&&◌, ◌||◌, ℕ, zero, suc, ◌+◌, ◌-◌, ◌*◌, ◌/◌, ◌%◌, ◌^◌, ◌≤◌, ◌<◌, min, max}
use Rattle.std.proofs.Common.{sym, ◌∙◌, le_of_suc-le-suc, not-suc-le-zero, mod-lt, zero-lt-suc, mod-eq_of_lt, mul_assoc, lt_of_lt_of_le, arith, pow-add, pow_mono, shr-shr}
use Rattle.std.proofs.Math.Path.{ap}
use Rattle.std.proofs.Math.Nat.{mul-mod_left, div-eq_of_lt}
use Rattle.std.proofs.Math.Arith.{digits_mod}
use Rattle.std.proofs.Math.Dec.{eqb}
use Rattle.std.specs.Int.Bits.{bit_and, bit_or, bit_xor, differ, and_step, or_step, xor_step, xor_add_and}
use Rattle.std.proofs.lemmas.Nat.{and_shr, or_shr, xor_shr, and_mask, shl-shr}
use Rattle.std.proofs.Math.Pow.{high, low, field, mod-mod-pow, ones_split, ones_lt}

-- the number is odd
unfoldable pub odd : ℕ → Bool
odd n = eqb (n % 2) 1

-- digit z of n
unfoldable pub bit : ℕ → ℕ → Bool
bit n z = odd (n / 2 ^ z)

-- a ⊕ b: the two differ
abbrev pub ◌⊕◌ : Bool → Bool → Bool
true ⊕ b = not b
false ⊕ b = b

infixl 65 ◌⊕◌
-- ---- the operations on two numbers, digit by digit

-- what holds at 0 and at 1 holds below 2
pub below2 : (P : ℕ → Type 0) → P 0 → P 1 → (n : ℕ) → n < 2 → P n
below2 P p q zero h = p
below2 P p q (suc zero) h = q
below2 P p q (suc (suc n)) h = absurd (not-suc-le-zero (le_of_suc-le-suc (le_of_suc-le-suc h)))

pub two_pos : 0 < 2
two_pos = zero-lt-suc 1

module _ (op f : ℕ → ℕ → ℕ) (g : Bool → Bool → Bool)
    (step : (a b : ℕ) → op a b ≡ op (a / 2) (b / 2) * 2 + f (a % 2) (b % 2))
    (shr : (a b k : ℕ) → op a b / 2 ^ k ≡ op (a / 2 ^ k) (b / 2 ^ k))
    (small : (x y : ℕ) → x < 2 → y < 2 → f x y < 2)
    (same : (x y : ℕ) → x < 2 → y < 2 → eqb (f x y) 1 ≡ g (eqb x 1) (eqb y 1)) where
  odd_op : (a b : ℕ) → odd (op a b) ≡ g (odd a) (odd b)
  unfolding odd
  odd_op a b =
      ap (λ (n : ℕ). eqb (n % 2) 1) (step a b)
      ∙ ap (λ (n : ℕ). eqb n 1) (digits_mod (op (a / 2) (b / 2)) (small (a % 2) (b % 2) (mod-lt a two_pos) (mod-lt b two_pos)))
      ∙ same (a % 2) (b % 2) (mod-lt a two_pos) (mod-lt b two_pos)

  bit_op : (a b z : ℕ) → bit (op a b) z ≡ g (bit a z) (bit b z)
  unfolding bit
  bit_op a b z = ap odd (shr a b z) ∙ odd_op (a / 2 ^ z) (b / 2 ^ z)

-- two functions of two digits are equal when they are at the four pairs
four : (f : ℕ → ℕ → ℕ) (g : Bool → Bool → Bool)
    → eqb (f 0 0) 1 ≡ g false false → eqb (f 0 1) 1 ≡ g false true → eqb (f 1 0) 1 ≡ g true false → eqb (f 1 1) 1 ≡ g true true
    → (x y : ℕ) → x < 2 → y < 2 → eqb (f x y) 1 ≡ g (eqb x 1) (eqb y 1)
four f g p q r s x y hx hy =
    below2 (λ (x : ℕ). eqb (f x y) 1 ≡ g (eqb x 1) (eqb y 1))
    (below2 (λ (y : ℕ). eqb (f 0 y) 1 ≡ g false (eqb y 1)) p q y hy)
    (below2 (λ (y : ℕ). eqb (f 1 y) 1 ≡ g true (eqb y 1)) r s y hy) x hx

differ_small : (x y : ℕ) → x < 2 → y < 2 → differ x y < 2
differ_small x y hx hy =
    below2 (λ (x : ℕ). differ x y < 2) hy (below2 (λ (y : ℕ). differ 1 y < 2) (omega arith) (omega arith) y hy) x hx

pub bit-xor : (a b z : ℕ) → bit (bit_xor a b) z ≡ bit a z ⊕ bit b z
bit-xor = bit_op bit_xor differ ◌⊕◌ xor_step xor_shr differ_small (four differ ◌⊕◌ refl refl refl refl)

pub bit-and : (a b z : ℕ) → bit (bit_and a b) z ≡ (bit a z && bit b z)
bit-and = bit_op bit_and min ◌&&◌ and_step and_shr (λ x y hx hy. omega arith) (four min ◌&&◌ refl refl refl refl)

pub bit-or : (a b z : ℕ) → bit (bit_or a b) z ≡ (bit a z || bit b z)
bit-or = bit_op bit_or max ◌||◌ or_step or_shr (λ x y hx hy. omega arith) (four max ◌||◌ refl refl refl refl)

-- ---- shifts and masks

-- a place below w, said by what lies above it
above : (z w : ℕ) → z < w → w - suc z + 1 + z ≡ w
above z w h = omega arith

-- the low w digits
pub bit-mod : (n w z : ℕ) → z < w → bit (n % 2 ^ w) z ≡ bit n z
unfolding bit odd
bit-mod n w z h =
    let m : ℕ = w - suc z in
    ap (λ (k : ℕ). eqb (n % 2 ^ k / 2 ^ z % 2) 1) (sym (above z w h))
    ∙ ap (λ (k : ℕ). eqb (k % 2) 1) (field n (m + 1) z)
    ∙ ap (λ (k : ℕ). eqb k 1) (mod-mod-pow (n / 2 ^ z) m 1)

-- past the width there is no digit
pub bit_high : (n w z : ℕ) → n < 2 ^ w → w ≤ z → bit n z ≡ false
unfolding bit odd
bit_high n w z h l = ap (λ (k : ℕ). eqb (k % 2) 1) (div-eq_of_lt (lt_of_lt_of_le h (pow_mono l)))

-- n >> m
pub bit-shr : (n m z : ℕ) → bit (n / 2 ^ m) z ≡ bit n (m + z)
unfolding bit
bit-shr n m z = ap odd (shr-shr n m z)

-- n << r, from place r on
pub bit-shl : (n r z : ℕ) → bit (n * 2 ^ r) (r + z) ≡ bit n z
unfolding bit
bit-shl n r z = ap odd (sym (shr-shr (n * 2 ^ r) r z) ∙ ap (λ (k : ℕ). k / 2 ^ z) (shl-shr n r))

-- n << r, below place r
pub bit-shl-low : (n r z : ℕ) → z < r → bit (n * 2 ^ r) z ≡ false
unfolding bit odd
bit-shl-low n r z h =
    let m : ℕ = r - suc z in
    ap (λ (k : ℕ). eqb (n * 2 ^ k / 2 ^ z % 2) 1) (sym (above z r h))
    ∙ ap (λ (k : ℕ). eqb (n * k / 2 ^ z % 2) 1) (pow-add 2 (m + 1) z ∙ ap (λ (k : ℕ). k * 2 ^ z) (pow-add 2 m 1))
    ∙ ap (λ (k : ℕ). eqb (k / 2 ^ z % 2) 1) (sym (mul_assoc n (2 ^ m * 2) (2 ^ z)))
    ∙ ap (λ (k : ℕ). eqb (k % 2) 1) (shl-shr (n * (2 ^ m * 2)) z)
    ∙ ap (λ (k : ℕ). eqb (k % 2) 1) (sym (mul_assoc n (2 ^ m) 2))
    ∙ ap (λ (k : ℕ). eqb k 1) (mul-mod_left (n * 2 ^ m) 2)

-- ---- the complement

-- the w low digits of 2 ^ w - 1 are set
pub bit_ones : (w z : ℕ) → z < w → bit (2 ^ w - 1) z ≡ true
unfolding bit odd
bit_ones w z h =
    let m : ℕ = w - suc z in
    ap (λ (k : ℕ). eqb ((2 ^ k - 1) / 2 ^ z % 2) 1) (sym (above z w h))
    ∙ ap (λ (k : ℕ). eqb (k / 2 ^ z % 2) 1) (ones_split (m + 1) z)
    ∙ ap (λ (k : ℕ). eqb (k % 2) 1) (high (2 ^ (m + 1) - 1) z (ones_lt z))
    ∙ ap (λ (k : ℕ). eqb (k % 2) 1) (ones_split m 1)
    ∙ ap (λ (k : ℕ). eqb k 1) (low (2 ^ m - 1) 1 (ones_lt 1))

pub xor_true : (b : Bool) → b ⊕ true ≡ not b
xor_true true = refl
xor_true false = refl

-- !v
pub bit_not : (w v z : ℕ) → v < 2 ^ w → z < w → bit (2 ^ w - 1 - v) z ≡ not (bit v z)
bit_not w v z hv hz =
    ap (λ (n : ℕ). bit n z) flipped ∙ bit-xor v (2 ^ w - 1) z ∙ ap (λ (b : Bool). bit v z ⊕ b) (bit_ones w z hz) ∙ xor_true (bit v z)
  where
    flipped : 2 ^ w - 1 - v ≡ bit_xor v (2 ^ w - 1)
    flipped = omega (arith, xor_add_and v (2 ^ w - 1), and_mask v w ∙ mod-eq_of_lt hv)
