-- Section 3.1's bits: bit 8 j + i of a string is bit i of byte j (BMAP). So read, the padding, the marks, the state that takes a block and
-- the closing tweak are those of Algorithm 3.
-- Assumes nothing.
use Rattle.std.specs.Prelude.{◌≡◌, Bool, true, false, ℕ, zero, suc, ◌+◌, ◌-◌, ◌%◌, ◌≤◌, ◌<◌, eqb, take, drop, set}
use Rattle.std.proofs.Math.Path.{refl, ap}
use Rattle.std.proofs.Common.{sym, ◌∙◌, length-append, length-drop, length-take-le, get_or-set_same, get_or-set_other}
use Rattle.std.proofs.Math.Bool.{beq}
use mathlib.Core.List.{List, [], ◌∷◌, ◌++◌}
use native.Mathlib.Omega.{arith}
use Rattle.std.proofs.Math.ListN.{length, get_or, replicate, get_or-append}
use Rattle.std.proofs.lemmas.List.{length-replicate}
use Rattle.std.proofs.Math.Seq.{get_or-take, get_or-drop, get_or_at, get_or-append-add}
use Rattle.std.specs.Int.Bits.{bit_xor, xor_zero_r}
use borrow.Author.Tests.{eqb-true, eqb-false, lt-ltb, le-ltb}
use Rattle.bits.specs.Pick.{pick}
use Rattle.bits.specs.Digit.{odd, bit, ◌⊕◌, bit-xor}
use Rattle.bits.specs.Every.{every, every_at, same_bool}
use Rattle.bits.specs.Put.{put}
use Rattle.bits.specs.Xors.{xors, xors_none}
use Rattle.bits.specs.Strings.{xor_into, xor_at}
use Rattle.bits.specs.StringLaws.{length-xor_at}
use Rattle.scheme.specs.Machine.{Buffer}
use Rattle.s1p.specs.Paper.{text_mark, short_mark, padded, last_data, last_text, closing_tweak}
use Rattle.s1p.specs.Layouts.{at, only}

⊕_none : (a : Bool) → a ≡ (a ⊕ false)
⊕_none true = refl
⊕_none false = refl

-- ---- padding: the bits of A, a 1, zeros up to 256

pub length-padded : (a : List ℕ) → length a < 32 → length (padded a) ≡ 32
unfolding padded
length-padded a h = rw (length-append, length-replicate) (omega arith)

module _ (a : List ℕ) (l : length a < 32) where
  pub padded-front : (j : ℕ) → j < length a → get_or (padded a) j 0 ≡ get_or a j 0
  unfolding padded
  padded-front j k = get_or-append a _ 0 j k

  pub padded_one : get_or (padded a) (length a) 0 ≡ 1
  unfolding padded
  padded_one = get_or_at a 1 (replicate (31 - length a) 0) 0 (length a) refl

  zeros_at : (n j : ℕ) → ◌≡◌ {A = ℕ} (get_or (replicate n 0) j 0) 0
  zeros_at zero j = refl
  zeros_at (suc n) zero = refl
  zeros_at (suc n) (suc j) = zeros_at n j

  pub padded-zeros : (j : ℕ) → get_or (padded a) (length a + suc j) 0 ≡ 0
  unfolding padded
  padded-zeros j = get_or-append-add a (1 ∷ replicate (31 - length a) 0) (suc j) 0 ∙ zeros_at (31 - length a) j

-- ---- marks: S ⊕ (0^r ‖ 10 ‖ 0*) and S ⊕ (0^r ‖ 01 ‖ 0*) are bits 256 and 257

pub length-text_mark : (s : List ℕ) → length (text_mark s) ≡ length s
unfolding text_mark
length-text_mark s = length-xor_at 32 _ s

pub length-short_mark : (s : List ℕ) → length (short_mark s) ≡ length s
unfolding short_mark
length-short_mark s = length-xor_at 32 _ s

xor_at_at : (n v : ℕ) (s : List ℕ) → n < length s → (j i : ℕ) → at (xor_at n v s) j i ≡ (at s j i ⊕ only n v j i)
unfolding xor_at
xor_at_at n v s h j i = by (eqb j n) refl
  where
    by : (b : Bool) → eqb j n ≡ b → at (set s n (bit_xor (get_or s n 0) v)) j i ≡ (at s j i ⊕ pick b (bit v i) false)
    by true e =
        let same : j ≡ n = eqb-true j n e in
        ap (λ (b : ℕ). at (set s n (bit_xor (get_or s n 0) v)) b i) same
        ∙ ap (λ (b : ℕ). bit b i) (get_or-set_same s n (bit_xor (get_or s n 0) v) 0 h)
        ∙ bit-xor (get_or s n 0) v i
        ∙ ap (λ (b : ℕ). at s b i ⊕ bit v i) (sym same)
    by false e = ap (λ (b : ℕ). bit b i) (get_or-set_other s n j (bit_xor (get_or s n 0) v) 0 (eqb-false j n e)) ∙ ⊕_none (at s j i)

module _ (s : List ℕ) (h : length s ≡ 64) where
  pub text_mark_at : (j i : ℕ) → at (text_mark s) j i ≡ (at s j i ⊕ only 32 1 j i)
  unfolding text_mark
  text_mark_at j i = xor_at_at 32 1 s (omega arith) j i

  pub short_mark_at : (j i : ℕ) → at (short_mark s) j i ≡ (at s j i ⊕ only 32 2 j i)
  unfolding short_mark
  short_mark_at j i = xor_at_at 32 2 s (omega arith) j i

-- ---- the state that takes a block of data

-- S ⊕ (A ‖ 0*)
into_at : (xs s : List ℕ) → length xs ≤ length s → (j : ℕ) → get_or (xor_into xs s) j 0 ≡ bit_xor (get_or s j 0) (get_or xs j 0)
unfolding xor_into xors
into_at [] s h j = ap (λ (u : List ℕ). get_or (u ++ s) j 0) (xors_none s) ∙ sym (xor_zero_r (get_or s j 0))
into_at (x ∷ xs) [] h j = absurd (omega arith)
into_at (x ∷ xs) (y ∷ s) h zero = refl
into_at (x ∷ xs) (y ∷ s) h (suc j) = into_at xs s (omega arith) j

module _ (a s : List ℕ) (h : length s ≡ 64) where
  pub full_data_at : length a ≡ 32 → (j i : ℕ) → at (last_data a s) j i ≡ (at s j i ⊕ at a j i)
  unfolding last_data
  full_data_at e j i =
      let full = le-ltb (length a) 32 (omega arith) in
      rw full (ap (λ (b : ℕ). bit b i) (into_at a s (omega arith) j) ∙ bit-xor (get_or s j 0) (get_or a j 0) i)

  -- a short one with its padding and bit 257
  pub short_data_at : length a < 32 → (j i : ℕ) → at (last_data a s) j i ≡ ((at s j i ⊕ only 32 2 j i) ⊕ at (padded a) j i)
  unfolding last_data
  short_data_at l j i =
      let long = length-padded a l in
      let mark = length-short_mark s in
      rw (lt-ltb (length a) 32 l)
      (ap (λ (b : ℕ). bit b i) (into_at (padded a) (short_mark s) (omega arith) j)
      ∙ bit-xor (get_or (short_mark s) j 0) (get_or (padded a) j 0) i
      ∙ ap (λ (b : Bool). b ⊕ at (padded a) j i) (short_mark_at s h j i))

-- ---- the state that takes a block of ciphertext: C ‖ S[|C|:]

module _ (c s : List ℕ) where
  put_front : (j : ℕ) → j < length c → get_or (put c s) j 0 ≡ get_or c j 0
  unfolding put
  put_front j l = get_or-append c (drop (length c) s) 0 j l

  put-behind : (j : ℕ) → length c ≤ j → get_or (put c s) j 0 ≡ get_or s j 0
  unfolding put
  put-behind j l =
      let e : length c + (j - length c) ≡ j = omega arith in
      ap (λ (k : ℕ). get_or (put c s) k 0) (sym e) ∙ get_or-append-add c (drop (length c) s) (j - length c) 0
      ∙ get_or-drop (length c) s (j - length c) 0 ∙ ap (λ (k : ℕ). get_or s k 0) e

module _ (c s : List ℕ) (h : length s ≡ 64) where
  pub full_text_front : length c ≡ 32 → (j : ℕ) → j < 32 → get_or (last_text c s) j 0 ≡ get_or c j 0
  unfolding last_text
  full_text_front e j l = let full = le-ltb (length c) 32 (omega arith) in rw full (put_front c s j (omega arith))

  pub full_text_behind : length c ≡ 32 → (j : ℕ) → 32 ≤ j → get_or (last_text c s) j 0 ≡ get_or s j 0
  unfolding last_text
  full_text_behind e j l = let full = le-ltb (length c) 32 (omega arith) in rw full (put-behind c s j (omega arith))

  -- a short one with bits 8 |C| and 257
  pub short_text_front : length c < 32 → (j : ℕ) → j < length c → get_or (last_text c s) j 0 ≡ get_or c j 0
  unfolding last_text
  short_text_front e j l = rw (lt-ltb (length c) 32 e) (put_front c _ j l)

  pub short_text_behind : length c < 32 → (j i : ℕ) → length c ≤ j
      → at (last_text c s) j i ≡ ((at s j i ⊕ only 32 2 j i) ⊕ only (length c) 1 j i)
  unfolding last_text
  short_text_behind e j i l =
      let mark = length-short_mark s in
      rw (lt-ltb (length c) 32 e)
      (ap (λ (b : ℕ). bit b i) (put-behind c (xor_at (length c) 1 (short_mark s)) j l)
      ∙ xor_at_at (length c) 1 (short_mark s) (omega arith) j i
      ∙ ap (λ (b : Bool). b ⊕ only (length c) 1 j i) (short_mark_at s h j i))

-- ---- the closing tweak: V is bits 128 to 254, and a 1 comes after it

module _ (s : List ℕ) (h : Buffer 64 s) where
  fifteen : length (take 15 (drop 16 s)) ≡ 15
  fifteen = length-take-le 15 (drop 16 s) (omega (arith, length-drop 16 s, h.long))

  pub tweak_bytes : (j : ℕ) → j < 15 → get_or (closing_tweak s) j 0 ≡ get_or s (16 + j) 0
  unfolding closing_tweak
  tweak_bytes j l =
      get_or-append (take 15 (drop 16 s)) _ 0 j (omega (arith, fifteen)) ∙ get_or-take 15 (drop 16 s) j 0 l ∙ get_or-drop 16 s j 0

  last_byte : get_or (closing_tweak s) 15 0 ≡ get_or s 31 0 % 128 + 128
  unfolding closing_tweak
  last_byte = get_or_at (take 15 (drop 16 s)) (get_or s 31 0 % 128 + 128) [] 0 15 fifteen

  pub tweak_last : (i : ℕ) → i < 7 → at (closing_tweak s) 15 i ≡ at s 31 i
  unfolding every odd bit
  tweak_last i l =
      ap (λ (b : ℕ). bit b i) last_byte
      ∙ same_bool (bit (get_or s 31 0 % 128 + 128) i) (bit (get_or s 31 0) i)
      (every_at 7 (λ i. beq (bit (get_or s 31 0 % 128 + 128) i) (bit (get_or s 31 0) i))
      (every_at 256 (λ x. every 7 (λ i. beq (bit (x % 128 + 128) i) (bit x i))) refl (get_or s 31 0) (h.bytes.each 31)) i l)

  pub tweak_one : at (closing_tweak s) 15 7 ≡ true
  unfolding every odd bit
  tweak_one =
      ap (λ (b : ℕ). bit b 7) last_byte ∙ every_at 256 (λ x. bit (x % 128 + 128) 7) refl (get_or s 31 0) (h.bytes.each 31)
