-- The rotations and the byte orders of the library's integers, at each of their widths, are those of this crate; and what it says of
-- a part of a slice is what this crate says.
-- Assumes nothing.
use Rattle.std.specs.Prelude.{◌≡◌, refl, List, [], ◌∷◌, ◌++◌, ℕ, zero, suc, ◌+◌, ◌-◌, ◌*◌, ◌/◌, ◌%◌, ◌^◌, ◌<◌, length, get_or, take, drop}
use Rattle.std.proofs.Common.{sym, ap, ap₂, ◌∙◌, lit≤, mul-one, div-one, mul_assoc, add-mul, add_assoc, add_comm, add-zero, zero-add, pow-suc, mod-eq_of_lt, arith, drop-drop}
use Rattle.std.proofs.Math.Nat.{sub-zero}
use native.Mathlib.Nat.{div-div-eq-div-mul}
use Rattle.std.specs.Int.{Width, w8, w16, w32, w64, w128, byte_len, byte_at, byte_worth, bytes_low_first, bytes_high_first, sum_through, rotate_left, rotate_right, to_le_bytes, to_be_bytes, from_le_bytes, from_be_bytes}
use mir.Val.{bits}
use borrow.Rule.Slice.PartMut.{put_mid}
use Rattle.std.specs.Int.Bits.{bit_or}
use Rattle.bits.specs.Rotate.{rotl, rotr, rotl_shifts, rotr_turn}
use Rattle.bits.specs.LittleEndian.{le_bytes, from_le}
use Rattle.bits.specs.BigEndian.{be_bytes, from_be}

-- ---- rotations, by less than the width

module _ (w : Width) (x n : ℕ) (l : n < bits w) (h : x < 2 ^ bits w) where
  pub rotate_left_lem : rotate_left w x n ≡ rotl (bits w) n x
  rotate_left_lem =
      ap (λ (k : ℕ). bit_or (x * 2 ^ k % 2 ^ bits w) (x / 2 ^ ((bits w - k) % bits w))) (mod-eq_of_lt l) ∙ rotl_shifts (bits w) n x l h

  pub rotate_right_lem : rotate_right w x n ≡ rotr (bits w) n x
  rotate_right_lem =
      ap (λ (k : ℕ). bit_or (x / 2 ^ k) (x * 2 ^ ((bits w - k) % bits w) % 2 ^ bits w)) (mod-eq_of_lt l) ∙ rotr_turn (bits w) n x l h

-- ---- a number as bytes

byte_is : (i n : ℕ) → byte_at i n ≡ n / 256 ^ i % 256
byte_is zero n = ap (λ (m : ℕ). m % 256) (sym (div-one n))
byte_is (suc i) n = refl

high_first : (k n : ℕ) → bytes_high_first k n ≡ be_bytes k n
unfolding be_bytes
high_first zero n = refl
high_first (suc k) n = ap₂ (λ (b : ℕ) (s : List ℕ). b ∷ s) (byte_is k n) (high_first k n)

low_first : (k i n : ℕ) → bytes_low_first i k n ≡ le_bytes k (n / 256 ^ i)
unfolding le_bytes
low_first zero i n = refl
low_first (suc k) i n =
    let next : n / 256 ^ suc i ≡ n / 256 ^ i / 256 = ap (λ (m : ℕ). n / m) (pow-suc 256 i) ∙ sym (div-div-eq-div-mul n (256 ^ i) 256) in
    ap₂ (λ (b : ℕ) (s : List ℕ). b ∷ s) (byte_is i n) (low_first k (suc i) n ∙ ap (le_bytes k) next)

module _ (w : Width) (n : ℕ) where
  pub to_be_bytes_lem : to_be_bytes w n ≡ be_bytes (byte_len w) n
  to_be_bytes_lem = high_first (byte_len w) n

  pub to_le_bytes_lem : to_le_bytes w n ≡ le_bytes (byte_len w) n
  to_le_bytes_lem = low_first (byte_len w) 0 n ∙ ap (le_bytes (byte_len w)) (div-one n)

-- ---- bytes as a number

worth_is : (i b : ℕ) → byte_worth i b ≡ b * 256 ^ i
worth_is zero b = sym (mul-one b)
worth_is (suc i) b = refl

sum_first : (f : ℕ → ℕ) (k : ℕ) → sum_through f (suc k) ≡ f 0 + sum_through (λ i. f (suc i)) k
sum_first f zero = refl
sum_first f (suc k) = ap (λ (n : ℕ). n + f (suc (suc k))) (sum_first f k) ∙ add_assoc (f 0) (sum_through (λ i. f (suc i)) k) (f (suc (suc k)))

sum_cong : (f g : ℕ → ℕ) (k : ℕ) → ((i : ℕ) → f i ≡ g i) → sum_through f k ≡ sum_through g k
sum_cong f g zero e = e 0
sum_cong f g (suc k) e = ap₂ (λ (m n : ℕ). m + n) (sum_cong f g k e) (e (suc k))

sum_times : (f : ℕ → ℕ) (c k : ℕ) → sum_through (λ i. f i * c) k ≡ sum_through f k * c
sum_times f c zero = refl
sum_times f c (suc k) = ap (λ (n : ℕ). n + f (suc k) * c) (sum_times f c k) ∙ sym (add-mul (sum_through f k) (f (suc k)) c)

-- the bytes b, and then those of s
high_sum : (b : ℕ) (s : List ℕ) → sum_through (λ i. byte_worth (length s - i) (get_or (b ∷ s) i 0)) (length s) ≡ from_be (b ∷ s)
unfolding from_be
high_sum b [] = worth_is 0 b ∙ sym (add-zero (b * 256 ^ 0))
high_sum b (c ∷ s) =
    let f : ℕ → ℕ = λ i. byte_worth (suc (length s) - i) (get_or (b ∷ c ∷ s) i 0) in
    let later : (i : ℕ) → suc (length s) - suc i ≡ length s - i = λ i. omega arith in
    sum_first f (length s)
    ∙ ap₂ (λ (m n : ℕ). m + n) (ap (λ (k : ℕ). byte_worth k b) (sub-zero (suc (length s))) ∙ worth_is (suc (length s)) b)
    (sum_cong (λ i. f (suc i)) (λ i. byte_worth (length s - i) (get_or (c ∷ s) i 0)) (length s) (λ i. ap (λ (k : ℕ). byte_worth k (get_or (c ∷ s) i 0)) (later i))
    ∙ high_sum c s)

low_sum : (b : ℕ) (s : List ℕ) → sum_through (λ i. byte_worth i (get_or (b ∷ s) i 0)) (length s) ≡ from_le (b ∷ s)
unfolding from_le
low_sum b [] = sym (zero-add b)
low_sum b (c ∷ s) =
    let rest : List ℕ = c ∷ s in
    let next : (i : ℕ) → byte_worth (suc i) (get_or rest i 0) ≡ byte_worth i (get_or rest i 0) * 256 =
    λ i. let v = get_or rest i 0 in ap (λ (m : ℕ). v * m) (pow-suc 256 i) ∙ sym (mul_assoc v (256 ^ i) 256) ∙ ap (λ (m : ℕ). m * 256) (sym (worth_is i v)) in
    sum_first (λ i. byte_worth i (get_or (b ∷ rest) i 0)) (length s)
    ∙ ap (λ (n : ℕ). b + n)
    (sum_cong (λ i. byte_worth (suc i) (get_or rest i 0)) (λ i. byte_worth i (get_or rest i 0) * 256) (length s) next
    ∙ sum_times (λ i. byte_worth i (get_or rest i 0)) 256 (length s)
    ∙ ap (λ (n : ℕ). n * 256) (low_sum c s))
    ∙ add_comm b (from_le rest * 256)

some : (w : Width) → 0 < byte_len w
some w8 = lit≤ tt
some w16 = lit≤ tt
some w32 = lit≤ tt
some w64 = lit≤ tt
some w128 = lit≤ tt

pub from_be_bytes_lem : (w : Width) (s : List ℕ) → length s ≡ byte_len w → from_be_bytes w s ≡ from_be s
from_be_bytes_lem w [] e = absurd (omega (arith, some w))
from_be_bytes_lem w (b ∷ s) e =
    let last : byte_len w - 1 ≡ length s = omega arith in
    ap (λ (k : ℕ). sum_through (λ i. byte_worth (k - i) (get_or (b ∷ s) i 0)) k) last ∙ high_sum b s

pub from_le_bytes_lem : (w : Width) (s : List ℕ) → length s ≡ byte_len w → from_le_bytes w s ≡ from_le s
from_le_bytes_lem w [] e = absurd (omega (arith, some w))
from_le_bytes_lem w (b ∷ s) e =
    let last : byte_len w - 1 ≡ length s = omega arith in
    ap (sum_through (λ i. byte_worth i (get_or (b ∷ s) i 0))) last ∙ low_sum b s

-- ---- n elements from place at on, as `s[at..at + n]` reads and writes them

module _ (at n : ℕ) where
  as_many : at + n - at ≡ n
  as_many = omega arith

  pub part-read : (s : List ℕ) → take (at + n - at) (drop at s) ≡ take n (drop at s)
  part-read s = ap (λ (k : ℕ). take k (drop at s)) as_many

  pub part-written : (s ys zs : List ℕ) → ys ≡ zs → put_mid at (at + n - at) s ys ≡ take at s ++ (zs ++ drop (at + n) s)
  part-written s ys zs e =
      ap₂ (λ (k : ℕ) (v : List ℕ). take at s ++ (v ++ drop k (drop at s))) as_many e ∙ ap (λ (t : List ℕ). take at s ++ (zs ++ t)) (drop-drop n at s)
