-- Lanes xored with a block are the state's bytes xored with it: the block is the bytes of its nine lanes.
-- Assumes nothing.
use mathlib.Core.Path.{◌≡◌, ap, ◌∙◌}
use mathlib.Core.List.{List, [], ◌∷◌, ◌++◌}
use Prim.Native.Nat.{ℕ, ◌+◌, ◌/◌, ◌%◌, ◌≤◌, ◌<◌}
use native.Mathlib.Nat.{mod-eq_of_lt}
use native.Mathlib.Omega.{arith}
use lib.Dec.{lit≤}
use lib.ListN.{length, get_or, set, take, drop}
use lib.Seq.{take_at, take_all}
use lib.Bits.{bit_xor, xor_zero_r}
use Rattle.bits.specs.Bytes.{Bytes}
use Rattle.bits.specs.LittleEndian.{le_bytes, le_bytes-xor}
use Rattle.bits.specs.Part.{parts, parts-take}
use Rattle.bits.specs.Xors.{xors, length-xors}
use Rattle.keccak.specs.Lanes.{at, lane, lane_at, plane_bytes, bytes_of, lanes_xored}
use Rattle.keccak.proofs.ByteLaws.{length-bytes_of, lane-back}

-- the state with two other planes in front
abbrev pub fronted : List ℕ → List ℕ → List (List ℕ) → List (List ℕ)
fronted p q a = p ∷ q ∷ get_or a 2 [] ∷ get_or a 3 [] ∷ get_or a 4 [] ∷ []

module _ (t : List ℕ) (l : length t ≡ 18) (h : Bytes t) where
  abbrev lanes : List ℕ
  lanes =
      le_bytes 2 (lane_at t 0) ++ le_bytes 2 (lane_at t 2) ++ le_bytes 2 (lane_at t 4) ++ le_bytes 2 (lane_at t 6) ++ le_bytes 2 (lane_at t 8)
      ++ le_bytes 2 (lane_at t 10) ++ le_bytes 2 (lane_at t 12) ++ le_bytes 2 (lane_at t 14) ++ le_bytes 2 (lane_at t 16)

  back : (k : ℕ) → k + 2 ≤ 18 → le_bytes 2 (lane_at t k) ≡ take 2 (drop k t)
  back k m = lane-back t h 0 k k (omega arith) (omega arith)

  nine : lanes ≡ t
  unfolding parts
  nine =
      let b0 = back 0 (lit≤ tt) in
      let b1 = back 2 (lit≤ tt) in
      let b2 = back 4 (lit≤ tt) in
      let b3 = back 6 (lit≤ tt) in
      let b4 = back 8 (lit≤ tt) in
      let b5 = back 10 (lit≤ tt) in
      let b6 = back 12 (lit≤ tt) in
      let b7 = back 14 (lit≤ tt) in
      let b8 = back 16 (lit≤ tt) in
      (λ j. b0 j ++ b1 j ++ b2 j ++ b3 j ++ b4 j ++ b5 j ++ b6 j ++ b7 j ++ b8 j) ∙ parts-take 9 2 t ∙ take_all 18 t (omega arith)

  pub block_in_lem : (a : List (List ℕ))
      → bytes_of (fronted (lanes_xored 5 (get_or a 0 []) t 0) (lanes_xored 4 (get_or a 1 []) t 10) a) ≡ xors (bytes_of a) t ++ drop 18 (bytes_of a)
  unfolding bytes_of plane_bytes le_bytes xors
  block_in_lem a =
      let p = get_or a 0 [] in
      let q = get_or a 1 [] in
      let e0 = le_bytes-xor 2 (at p 0) (lane_at t 0) in
      let e1 = le_bytes-xor 2 (at p 1) (lane_at t 2) in
      let e2 = le_bytes-xor 2 (at p 2) (lane_at t 4) in
      let e3 = le_bytes-xor 2 (at p 3) (lane_at t 6) in
      let e4 = le_bytes-xor 2 (at p 4) (lane_at t 8) in
      let e5 = le_bytes-xor 2 (at q 0) (lane_at t 10) in
      let e6 = le_bytes-xor 2 (at q 1) (lane_at t 12) in
      let e7 = le_bytes-xor 2 (at q 2) (lane_at t 14) in
      let e8 = le_bytes-xor 2 (at q 3) (lane_at t 16) in
      (λ j. e0 j ++ e1 j ++ e2 j ++ e3 j ++ e4 j ++ e5 j ++ e6 j ++ e7 j ++ e8 j ++ drop 18 (bytes_of a))
      ∙ ap (λ (u : List ℕ). xors (bytes_of a) u ++ drop 18 (bytes_of a)) nine

-- the first bytes of what the state becomes
pub block_out : (t : List ℕ) → length t ≡ 18 → (a r : List (List ℕ)) → bytes_of r ≡ xors (bytes_of a) t ++ drop 18 (bytes_of a)
    → plane_bytes (get_or r 0 []) ++ take 8 (plane_bytes (get_or r 1 [])) ≡ xors (bytes_of a) t
unfolding bytes_of plane_bytes le_bytes
block_out t l a r e =
    let long : length (xors (bytes_of a) t) ≡ 18 = omega (arith, length-xors (bytes_of a) t, length-bytes_of a) in
    ap (take 18) e ∙ take_at (xors (bytes_of a) t) (drop 18 (bytes_of a)) 18 long

-- a byte in the first lane
pub byte_in : (a : List (List ℕ)) (v : ℕ) → v < 256
    → bytes_of ((bit_xor (at (get_or a 0 []) 0) v ∷ at (get_or a 0 []) 1 ∷ at (get_or a 0 []) 2 ∷ at (get_or a 0 []) 3 ∷ at (get_or a 0 []) 4 ∷ [])
    ∷ get_or a 1 [] ∷ get_or a 2 [] ∷ get_or a 3 [] ∷ get_or a 4 [] ∷ [])
    ≡ xors (bytes_of a) (v ∷ []) ++ drop 1 (bytes_of a)
unfolding bytes_of plane_bytes le_bytes xors
byte_in a v h =
    let x = at (get_or a 0 []) 0 in
    let low : bit_xor (x % 256) (v % 256) ≡ bit_xor (x % 256) v = ap (bit_xor (x % 256)) (mod-eq_of_lt h) in
    let none : v / 256 % 256 ≡ 0 = omega arith in
    let high : bit_xor (x / 256 % 256) (v / 256 % 256) ≡ x / 256 % 256 = ap (bit_xor (x / 256 % 256)) none ∙ xor_zero_r (x / 256 % 256) in
    ap (λ (t : List ℕ). t ++ drop 2 (bytes_of a)) (le_bytes-xor 2 x v ∙ (λ j. low j ∷ high j ∷ []))

-- the same, stored into it
pub byte_stored : (a : List (List ℕ)) (v : ℕ) → 0 < length a → 0 < length (get_or a 0 []) → v < 256
    → bytes_of (set a 0 (set (get_or a 0 []) 0 (bit_xor (lane a 0 0) v))) ≡ xors (bytes_of a) (v ∷ []) ++ drop 1 (bytes_of a)
unfolding bytes_of plane_bytes
byte_stored [] v l m h = absurd (omega arith)
byte_stored ([] ∷ a) v l m h = absurd (omega arith)
byte_stored ((x ∷ p) ∷ a) v l m h = byte_in ((x ∷ p) ∷ a) v h
