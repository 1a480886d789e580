-- Circulant matrices of w lines over the digits, and what they do to a word of w digits. `line` and `times` are the definition; the laws say
-- what first line belongs to a sum of such products, and to a product turned.
-- Assumes nothing.
use Rattle.std.specs.Prelude.{◌≡◌, refl, Bool, true, false, ◌&&◌, ℕ, ◌+◌, ◌-◌, ◌%◌, ◌^◌, ◌<◌}
use Rattle.std.proofs.Common.{sym, ap₂, ◌∙◌, mod-lt, mod-eq_of_lt, arith, lit<, pow_pos}
use Rattle.std.proofs.Math.Path.{ap}
use Rattle.std.proofs.Math.Nat.{mod_self, mod-add-mod, add-mod_left, add-mod_right}
use Rattle.std.proofs.Math.Decide.{dec_lt}
use Rattle.std.specs.Int.Bits.{bit_and, bit_xor}
use Rattle.std.proofs.lemmas.Nat.{xor_lt}
use Rattle.bits.specs.Digit.{odd, bit, bit-xor, bit-and, bit_high, ◌⊕◌}
use Rattle.bits.specs.Number.{number, number_lt, bit-number, bit_ext}
use Rattle.bits.specs.Rotate.{rotr, rotr_lt, bit-rotr, rotl, bit-rotl}
use Rattle.circulant.specs.Parity.{parity, parity_cong, parity-xor, parity_none, parity_one}

-- line k of circ(c): the first line is c, digit j in column j, and each further line is the one above moved one column to the right
unfoldable pub line : ℕ → ℕ → ℕ → ℕ
line w c k = rotl w k c

-- circ(c) · x: digit k is the parity of the ones in line k masked by x
unfoldable pub times : ℕ → ℕ → ℕ → ℕ
times w c x = number w (λ k. parity w (bit (bit_and (line w c k) x)))

pub times_lt : (w c x : ℕ) → times w c x < 2 ^ w
unfolding times
times_lt w c x = number_lt w (λ k. parity w (bit (bit_and (line w c k) x)))

bit_zero : (i : ℕ) → bit 0 i ≡ false
bit_zero i = bit_high 0 0 i (lit< tt) (omega arith)

bit_one : (i : ℕ) → 0 < i → bit 1 i ≡ false
bit_one i h = bit_high 1 1 i (lit< tt) (omega arith)

first_one : (b : Bool) → (bit 1 0 && b) ≡ b
unfolding bit odd
first_one b = refl

and_xor : (a b c : Bool) → ((a ⊕ b) && c) ≡ (a && c) ⊕ (b && c)
and_xor true true true = refl
and_xor true true false = refl
and_xor true false true = refl
and_xor true false false = refl
and_xor false b c = refl

module _ (w : ℕ) where
  -- column j of line k is the first line's column `place k j`
  abbrev place : ℕ → ℕ → ℕ
  place k j = (j + (w - k)) % w

  abbrev entry : ℕ → ℕ → ℕ → Bool
  entry c k j = bit c (place k j)

  bit-times : (c x k : ℕ) → k < w → bit (times w c x) k ≡ parity w (λ j. entry c k j && bit x j)
  unfolding times line
  bit-times c x k h =
      bit-number w (λ k. parity w (bit (bit_and (rotl w k c) x))) k h
      ∙ parity_cong w (bit (bit_and (rotl w k c) x)) (λ j. entry c k j && bit x j)
      (λ j l. bit-and (rotl w k c) x j ∙ ap (λ (b : Bool). b && bit x j) (bit-rotl w k c j l))

  -- ---- places

  on_diagonal : (k : ℕ) → k < w → place k k ≡ 0
  on_diagonal k h = ap (λ (n : ℕ). n % w) (whole k h) ∙ mod_self w
    where
      whole : (k : ℕ) → k < w → k + (w - k) ≡ w
      whole k h = omega arith

  off_diagonal : (j k : ℕ) → j < w → k < w → (j ≡ k → ⊥) → 0 < place k j
  off_diagonal j k hj hk n =
      elim (dec_lt j k) [
        | yes l ↦ let e : place k j ≡ j + (w - k) = mod-eq_of_lt (omega arith) in omega arith
        | no l ↦
            let f : j + (w - k) ≡ w + (j - k) = omega arith in
            let e : place k j ≡ j - k = ap (λ (n : ℕ). n % w) f ∙ add-mod_left w (j - k) ∙ mod-eq_of_lt (omega arith) in omega arith
      ]

  turned-place : (n j k : ℕ) → n < w → j < w → k < w → place n (place k j) ≡ place ((k + n) % w) j
  turned-place n j k hn hj hk =
      mod-add-mod (j + (w - k)) w (w - n)
      ∙ elim (dec_lt (k + n) w) [
        | yes l ↦
            let e : (k + n) % w ≡ k + n = mod-eq_of_lt l in
            let f : j + (w - k) + (w - n) ≡ j + (w - (k + n) % w) + w = omega arith in
            ap (λ (i : ℕ). i % w) f ∙ add-mod_right (j + (w - (k + n) % w)) w
        | no l ↦
            let g : k + n ≡ w + (k + n - w) = omega arith in
            let e : (k + n) % w ≡ k + n - w = ap (λ (i : ℕ). i % w) g ∙ add-mod_left w (k + n - w) ∙ mod-eq_of_lt (omega arith) in
            let f : j + (w - k) + (w - n) ≡ j + (w - (k + n) % w) = omega arith in
            ap (λ (i : ℕ). i % w) f
      ]

  -- ---- laws

  -- two words of w digits, the second a product, are equal when their digits are
  is_times : (a c x : ℕ) → a < 2 ^ w → ((k : ℕ) → k < w → bit a k ≡ parity w (λ j. entry c k j && bit x j)) → a ≡ times w c x
  is_times a c x h e = bit_ext w a (times w c x) h (times_lt w c x) (λ k hk. e k hk ∙ sym (bit-times c x k hk))

  -- the first line 0
  pub times_zero : (x : ℕ) → 0 ≡ times w 0 x
  times_zero x =
      is_times 0 0 x (pow_pos w)
      (λ k hk.
      bit_zero k
      ∙ sym (parity_none w (λ j. entry 0 k j && bit x j) (λ j hj. ap (λ (b : Bool). b && bit x j) (bit_zero (place k j)))))

  -- the first line 1 is that of the identity
  pub times_one : (x : ℕ) → x < 2 ^ w → x ≡ times w 1 x
  times_one x h =
      is_times x 1 x h
      (λ k hk.
      sym
      (parity_one w (λ j. entry 1 k j && bit x j) k hk
      (λ j hj n. ap (λ (b : Bool). b && bit x j) (bit_one (place k j) (off_diagonal j k hj hk n)))
      ∙ ap (λ (i : ℕ). bit 1 i && bit x k) (on_diagonal k hk) ∙ first_one (bit x k)))

  -- first lines add
  pub times-xor : (c d x : ℕ) → bit_xor (times w c x) (times w d x) ≡ times w (bit_xor c d) x
  times-xor c d x =
      is_times (bit_xor (times w c x) (times w d x)) (bit_xor c d) x (xor_lt w (times w c x) (times w d x) (times_lt w c x) (times_lt w d x))
      (λ k hk.
      bit-xor (times w c x) (times w d x) k ∙ ap₂ ◌⊕◌ (bit-times c x k hk) (bit-times d x k hk)
      ∙ sym
      (parity_cong w (λ j. entry (bit_xor c d) k j && bit x j) (λ j. (entry c k j && bit x j) ⊕ (entry d k j && bit x j))
      (λ j hj. ap (λ (b : Bool). b && bit x j) (bit-xor c d (place k j)) ∙ and_xor (entry c k j) (entry d k j) (bit x j))
      ∙ parity-xor w (λ j. entry c k j && bit x j) (λ j. entry d k j && bit x j)))

  -- the product turned right has the first line turned left
  pub times_turn : (n c x : ℕ) → n < w → rotr w n (times w c x) ≡ times w (rotl w n c) x
  times_turn n c x hn =
      is_times (rotr w n (times w c x)) (rotl w n c) x (rotr_lt w n (times w c x))
      (λ k hk.
      let pos : 0 < w = omega arith in
      let i : ℕ = (k + n) % w in
      bit-rotr w n (times w c x) k hk ∙ bit-times c x i (mod-lt (k + n) pos)
      ∙ sym
      (parity_cong w (λ j. entry (rotl w n c) k j && bit x j) (λ j. entry c i j && bit x j)
      (λ j hj.
      ap (λ (b : Bool). b && bit x j)
      (bit-rotl w n c (place k j) (mod-lt (j + (w - k)) pos) ∙ ap (bit c) (turned-place n j k hn hj hk)))))
