-- Clyde-128's rounds on 16 bytes, and the laws that callers go by: rows become bytes and come back unchanged, so a run of rounds on rows is
-- the run on the bytes that they stand for.
-- Assumes nothing.
use Rattle.std.specs.Prelude.{◌≡◌, Bool, true, false, eqb, length, get_or, take, drop}
use Rattle.std.proofs.Math.Path.{refl, ap}
use Rattle.std.proofs.Common.{sym, ◌∙◌, mod-eq_of_lt, arith, lit≤, take_all, get_or-take, get_or-drop}
use mathlib.Core.List.{List, ◌++◌}
use Prim.Native.Nat.{ℕ, zero, suc, ◌+◌, ◌-◌, ◌*◌, ◌/◌, ◌%◌, ◌^◌, ◌≤◌, ◌<◌}
use Rattle.bits.specs.Digit.{bit}
use Rattle.bits.specs.Every.{upto_at}
use Rattle.bits.specs.Bytes.{Bytes, Buffer, bytes_take, bytes_drop, bytes-append}
use Rattle.bits.specs.LittleEndian.{le_bytes, from_le, bytes-le_bytes, from_le_lt, from_le-le_bytes, le_bytes-from_le, bit-from_le}
use Rattle.bits.specs.Part.{length_part, parts, parts-take}
use Rattle.bits.specs.Run.{turns, rounds, Keeps}
use Rattle.clyde.specs.declared.Rows.{Rows}
use Rattle.clyde.specs.Clyde.{TK, rows_of, bytes_of, first, second, clyde_round, clyde_round_inverse}
use Rattle.clyde.specs.Sbox.{Fit}
use Rattle.clyde.proofs.Undone.{add_fit, TK_fit, round-fit, round_inverse-fit, pick-fit}
use Rattle.clyde.specs.OnBytes.{clyde_turn, clyde_turn_back, round_by, turn_by, row, B}

pub row-bits : (s : List ℕ) → Bytes s → (i j : ℕ) → i < 4 → j < 32 → bit (row (rows_of s) i) j ≡ B s (32 * i + j)
unfolding rows_of
row-bits s h i j l hj =
    upto_at (λ (i : ℕ). bit (row (rows_of s) i) j ≡ B s (32 * i + j)) 4 ((((tt, place 0 0 refl), place 4 1 refl), place 8 2 refl), place 12 3 refl) i l
  where
    place : (m i : ℕ) → m ≡ 4 * i → bit (from_le (take 4 (drop m s))) j ≡ B s (32 * i + j)
    place m i e =
        let p : m + j / 8 ≡ (32 * i + j) / 8 = omega arith in
        let q : j % 8 ≡ (32 * i + j) % 8 = omega arith in
        bit-from_le (take 4 (drop m s)) (bytes_take 4 (bytes_drop m h)) j
        ∙ ap (λ (b : ℕ). bit b (j % 8)) (get_or-take 4 (drop m s) (j / 8) 0 (omega arith) ∙ get_or-drop m s (j / 8) 0)
        ∙ (λ a. bit (get_or s (p a) 0) (q a))

-- ---- rows to bytes and back

back4 : {x : ℕ} → x < 2 ^ 32 → from_le (le_bytes 4 x) ≡ x
back4 {x} h = from_le-le_bytes 4 x ∙ mod-eq_of_lt h

pub rows_of-bytes_of : (s : Rows) → Fit s → rows_of (bytes_of s) ≡ s
unfolding rows_of bytes_of le_bytes
rows_of-bytes_of s h = λ i. record { x0 = back4 h.f0 i; x1 = back4 h.f1 i; x2 = back4 h.f2 i; x3 = back4 h.f3 i }

pub length-bytes_of : (s : Rows) → length (bytes_of s) ≡ 16
unfolding bytes_of le_bytes
length-bytes_of s = refl

pub bytes-bytes_of : (s : Rows) → Bytes (bytes_of s)
unfolding bytes_of
bytes-bytes_of s =
    bytes-append (bytes-append (bytes-append (bytes-le_bytes 4 s.x0) (bytes-le_bytes 4 s.x1)) (bytes-le_bytes 4 s.x2)) (bytes-le_bytes 4 s.x3)

pub rows_are : (s : Rows) → Buffer 16 (bytes_of s)
rows_are s = record { long = length-bytes_of s; bytes = bytes-bytes_of s }

-- ---- bytes to rows and back

module _ (s : List ℕ) (l : 16 ≤ length s) (h : Bytes s) where
  four : (m : ℕ) → m + 4 ≤ 16 → length (take 4 (drop m s)) ≡ 4
  four m k = length_part s m 4 (omega arith)

  bytes : (m : ℕ) → Bytes (take 4 (drop m s))
  bytes m = bytes_take 4 (bytes_drop m h)

  row_fits : (m : ℕ) → m + 4 ≤ 16 → from_le (take 4 (drop m s)) < 2 ^ 32
  row_fits m k = rw (four m k) at (from_le_lt (take 4 (drop m s)) (bytes m))

  pub rows_of-fit : Fit (rows_of s)
  unfolding rows_of
  rows_of-fit =
      record { f0 = row_fits 0 (lit≤ tt); f1 = row_fits 4 (lit≤ tt); f2 = row_fits 8 (lit≤ tt); f3 = row_fits 12 (lit≤ tt) }

  row_back : (m : ℕ) → m + 4 ≤ 16 → le_bytes 4 (from_le (take 4 (drop m s))) ≡ take 4 (drop m s)
  row_back m k = ap (λ (n : ℕ). le_bytes n (from_le (take 4 (drop m s)))) (sym (four m k)) ∙ le_bytes-from_le (take 4 (drop m s)) (bytes m)

  pub bytes_of-rows_of : bytes_of (rows_of s) ≡ take 16 s
  unfolding bytes_of rows_of parts
  bytes_of-rows_of =
      let b0 = row_back 0 (lit≤ tt) in
      let b1 = row_back 4 (lit≤ tt) in
      let b2 = row_back 8 (lit≤ tt) in
      let b3 = row_back 12 (lit≤ tt) in
      (λ i. b0 i ++ b1 i ++ b2 i ++ b3 i) ∙ parts-take 4 4 s

pub block_fit : {s : List ℕ} → Buffer 16 s → Fit (rows_of s)
block_fit {s} b = let l : 16 ≤ length s = omega arith in rows_of-fit s l b.bytes

pub block_back : (s : List ℕ) → Buffer 16 s → bytes_of (rows_of s) ≡ s
block_back s b = let l : 16 ≤ length s = omega arith in bytes_of-rows_of s l b.bytes ∙ take_all 16 s (omega arith)

-- ---- what a round keeps

pub clyde-keeps : (k t : List ℕ) → Keeps 16 (clyde_turn k t)
unfolding clyde_turn
clyde-keeps k t = record { long = λ i s h. length-bytes_of _; bytes = λ i s h b. bytes-bytes_of _ }

pub clyde-back-keeps : (k t : List ℕ) → Keeps 16 (clyde_turn_back k t)
unfolding clyde_turn_back
clyde-back-keeps k t = record { long = λ i s h. length-bytes_of _; bytes = λ i s h b. bytes-bytes_of _ }

module _ {k t : Rows} (hk : Fit k) (ht : Fit t) (i : ℕ) (s : Rows) where
  forward_fit : Fit (clyde_round k t i s)
  unfolding clyde_round second
  forward_fit =
      let r = round-fit i (first (TK k t 0) i s) in
      pick-fit (eqb (i % 2) 1) (add_fit (TK_fit hk ht _) r) r

  backward_fit : Fit (clyde_round_inverse k t i s)
  unfolding clyde_round_inverse second
  backward_fit =
      let r = round_inverse-fit (11 - i) (first (TK k t 6) i s) in
      pick-fit (eqb (i % 2) 1) (add_fit (TK_fit hk ht _) r) r

-- ---- a run of rounds on rows is the run on the bytes that they stand for

module _ (f : ℕ → Rows → Rows) (fit : (i : ℕ) (s : Rows) → Fit (f i s)) where
  turns_fit : (n : ℕ) (s : Rows) → Fit s → Fit (turns f n s)
  unfolding turns
  turns_fit zero s h = h
  turns_fit (suc n) s h = fit n (turns f n s)

  turns-bytes : (n : ℕ) (s : Rows) → Fit s → bytes_of (turns f n s) ≡ turns (λ i u. bytes_of (f i (rows_of u))) n (bytes_of s)
  unfolding turns
  turns-bytes zero s h = refl
  turns-bytes (suc n) s h =
      ap (λ (r : Rows). bytes_of (f n r)) (sym (rows_of-bytes_of (turns f n s) (turns_fit n s h)))
      ∙ ap (λ (u : List ℕ). bytes_of (f n (rows_of u))) (turns-bytes n s h)

module _ (k t : List ℕ) (hk : Buffer 16 k) (ht : Buffer 16 t) (from n : ℕ) (s : Rows) (h : Fit s) where
  pub forward_bytes : bytes_of (rounds (clyde_round (rows_of k) (rows_of t)) from n s) ≡ rounds (clyde_turn k t) from n (bytes_of s)
  unfolding rounds clyde_turn
  forward_bytes =
      turns-bytes (λ i. clyde_round (rows_of k) (rows_of t) (from + i)) (λ i. forward_fit (block_fit hk) (block_fit ht) (from + i)) n s h

  pub backward_bytes : bytes_of (rounds (clyde_round_inverse (rows_of k) (rows_of t)) from n s) ≡ rounds (clyde_turn_back k t) from n (bytes_of s)
  unfolding rounds clyde_turn_back
  backward_bytes =
      turns-bytes (λ i. clyde_round_inverse (rows_of k) (rows_of t) (from + i)) (λ i. backward_fit (block_fit hk) (block_fit ht) (from + i)) n s h

-- ---- either direction

pub keeps_by : (back : Bool) (k t : List ℕ) → Keeps 16 (turn_by back k t)
keeps_by true = clyde-back-keeps
keeps_by false = clyde-keeps

pub bytes_by : (back : Bool) (k t : List ℕ) → Buffer 16 k → Buffer 16 t → (from n : ℕ) (s : Rows) → Fit s
    → bytes_of (rounds (round_by back (rows_of k) (rows_of t)) from n s) ≡ rounds (turn_by back k t) from n (bytes_of s)
bytes_by true = backward_bytes
bytes_by false = forward_bytes
