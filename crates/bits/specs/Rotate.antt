-- Rotation of a word of w digits, by its digits. The machine's form is an `or` of two shifts.
-- Assumes nothing.
use Rattle.std.specs.Prelude.{◌≡◌, refl, Bool, true, false, ◌||◌, ℕ, zero, suc, ◌+◌, ◌-◌, ◌*◌, ◌/◌, ◌%◌, ◌^◌, ◌≤◌, ◌<◌}
use Rattle.std.proofs.Common.{sym, ap, ap₂, ◌∙◌, subst, mod-lt, mod-eq_of_lt, mul-one, div-one, lt_of_le_of_lt, add_comm, add-zero, add-sub_of_le, arith, pow_pos}
use Rattle.std.proofs.Math.Nat.{mod_self, sub-zero, add-mod_left, add-mod_right}
use Rattle.std.proofs.Math.Decide.{dec_lt}
use Rattle.std.proofs.lemmas.Nat.{shr_le, or_lt, or_comm}
use Rattle.std.specs.Int.Bits.{bit_or, or_self}
use Rattle.bits.specs.Digit.{bit, bit-or, bit-shr, bit-mod, bit_high, bit-shl, bit-shl-low}
use Rattle.bits.specs.Number.{number, number_lt, bit-number, is_number}

-- x turned right by n places: digit k is x's digit k + n, counted round
unfoldable pub rotr : ℕ → ℕ → ℕ → ℕ
rotr w n x = number w (λ k. bit x ((k + n) % w))

-- x turned left by n places: digit k is x's digit k - n, counted round
unfoldable pub rotl : ℕ → ℕ → ℕ → ℕ
rotl w n x = number w (λ k. bit x ((k + (w - n)) % w))

pub rotr_lt : (w n x : ℕ) → rotr w n x < 2 ^ w
unfolding rotr
rotr_lt w n x = number_lt w (λ k. bit x ((k + n) % w))

pub bit-rotr : (w n x k : ℕ) → k < w → bit (rotr w n x) k ≡ bit x ((k + n) % w)
unfolding rotr
bit-rotr w n x k h = bit-number w (λ k. bit x ((k + n) % w)) k h

pub bit-rotl : (w n x k : ℕ) → k < w → bit (rotl w n x) k ≡ bit x ((k + (w - n)) % w)
unfolding rotl
bit-rotl w n x k h = bit-number w (λ k. bit x ((k + (w - n)) % w)) k h

or_false : (b : Bool) → (b || false) ≡ b
or_false true = refl
or_false false = refl

-- a digit of the two shifts put together; m is what n leaves of the width
module _ (w n m x : ℕ) (e : n + m ≡ w) (h : x < 2 ^ w) where
  -- the digit comes from the shift down
  down : (k : ℕ) → k < m → (bit x (n + k) || bit (x * 2 ^ m) k) ≡ bit x ((k + n) % w)
  down k l =
      ap (λ (b : Bool). bit x (n + k) || b) (bit-shl-low x m k l) ∙ or_false (bit x (n + k))
      ∙ ap (bit x) (add_comm n k ∙ sym (mod-eq_of_lt (omega arith)))

  -- the digit comes round
  around : (j : ℕ) → m + j < w → (bit x (n + (m + j)) || bit (x * 2 ^ m) (m + j)) ≡ bit x ((m + j + n) % w)
  around j l =
      ap₂ (λ (a b : Bool). a || b) (bit_high x w (n + (m + j)) h (omega arith)) (bit-shl x m j)
      ∙ ap (bit x) (sym (ap (λ (i : ℕ). i % w) turn ∙ add-mod_left w j ∙ mod-eq_of_lt (omega arith)))
    where
      turn : m + j + n ≡ w + j
      turn = omega arith

  from : (k : ℕ) → m ≤ k → k < w → (bit x (n + k) || bit (x * 2 ^ m) k) ≡ bit x ((k + n) % w)
  from k l hk = subst (λ (i : ℕ). (bit x (n + i) || bit (x * 2 ^ m) i) ≡ bit x ((i + n) % w)) (add-sub_of_le l) (around (k - m) (omega arith))

  digit : (k : ℕ) → k < w → bit (bit_or (x / 2 ^ n) (x * 2 ^ m % 2 ^ w)) k ≡ bit x ((k + n) % w)
  digit k hk =
      bit-or (x / 2 ^ n) (x * 2 ^ m % 2 ^ w) k
      ∙ ap₂ (λ (a b : Bool). a || b) (bit-shr x n k) (bit-mod (x * 2 ^ m) w k hk)
      ∙ elim (dec_lt k m) [ yes l ↦ down k l | no l ↦ from k (omega arith) hk ]

  -- `(x >> n) | (x << m)`
  pub rotr_shifts : bit_or (x / 2 ^ n) (x * 2 ^ m % 2 ^ w) ≡ rotr w n x
  unfolding rotr
  rotr_shifts =
      is_number w (bit_or (x / 2 ^ n) (x * 2 ^ m % 2 ^ w)) (λ k. bit x ((k + n) % w))
      (or_lt w (x / 2 ^ n) (x * 2 ^ m % 2 ^ w) (lt_of_le_of_lt (shr_le x n) h) (mod-lt (x * 2 ^ m) (pow_pos w))) digit

-- a turn to the left is the turn to the right by what is left of the width
rotl-rotr : (w n m x : ℕ) → n + m ≡ w → rotl w n x ≡ rotr w m x
unfolding rotl rotr
rotl-rotr w n m x e = ap (λ (i : ℕ). number w (λ k. bit x ((k + i) % w))) rest
  where
    rest : w - n ≡ m
    rest = omega arith

-- a turn by nothing
rotl_none : (w x : ℕ) → x < 2 ^ w → rotl w 0 x ≡ x
unfolding rotl
rotl_none w x h = sym (is_number w x (λ k. bit x ((k + (w - 0)) % w)) h (λ k l. ap (bit x) (sym (here k l))))
  where
    here : (k : ℕ) → k < w → (k + (w - 0)) % w ≡ k
    here k l = ap (λ (n : ℕ). (k + n) % w) (sub-zero w) ∙ add-mod_right k w ∙ mod-eq_of_lt l

-- `(x << n) | (x >> ((w - n) % w))`, which is also right where n is 0
pub rotl_shifts : (w n x : ℕ) → n < w → x < 2 ^ w → bit_or (x * 2 ^ n % 2 ^ w) (x / 2 ^ ((w - n) % w)) ≡ rotl w n x
rotl_shifts w zero x l h =
    ap₂ bit_or (ap (λ (y : ℕ). y % 2 ^ w) (mul-one x) ∙ mod-eq_of_lt h) (ap (λ (k : ℕ). x / 2 ^ (k % w)) (sub-zero w) ∙ ap (λ (k : ℕ). x / 2 ^ k) (mod_self w) ∙ div-one x)
    ∙ or_self x ∙ sym (rotl_none w x h)
rotl_shifts w (suc n) x l h =
    let m : ℕ = w - suc n in
    let short : m < w = omega arith in
    let e : suc n + m ≡ w = omega arith in
    ap (λ (k : ℕ). bit_or (x * 2 ^ suc n % 2 ^ w) (x / 2 ^ k)) (mod-eq_of_lt short)
    ∙ or_comm (x * 2 ^ suc n % 2 ^ w) (x / 2 ^ m) ∙ rotr_shifts w m (suc n) x (add_comm m (suc n) ∙ e) h ∙ sym (rotl-rotr w (suc n) m x e)

-- `(x >> n) | (x << ((w - n) % w))`, likewise
pub rotr_turn : (w n x : ℕ) → n < w → x < 2 ^ w → bit_or (x / 2 ^ n) (x * 2 ^ ((w - n) % w) % 2 ^ w) ≡ rotr w n x
unfolding rotr
rotr_turn w zero x l h =
    ap₂ bit_or (div-one x) (ap (λ (k : ℕ). x * 2 ^ (k % w) % 2 ^ w) (sub-zero w) ∙ ap (λ (k : ℕ). x * 2 ^ k % 2 ^ w) (mod_self w) ∙ ap (λ (y : ℕ). y % 2 ^ w) (mul-one x) ∙ mod-eq_of_lt h)
    ∙ or_self x ∙ is_number w x (λ k. bit x ((k + 0) % w)) h (λ k l. ap (bit x) (sym (ap (λ (j : ℕ). j % w) (add-zero k) ∙ mod-eq_of_lt l)))
rotr_turn w (suc n) x l h =
    let short : w - suc n < w = omega arith in
    ap (λ (k : ℕ). bit_or (x / 2 ^ suc n) (x * 2 ^ k % 2 ^ w)) (mod-eq_of_lt short) ∙ rotr_shifts w (suc n) (w - suc n) x (omega arith) h
