-- The bytes that lanes stand for: their state array has the lanes' bits, so that a round on lanes is the round on bytes; and the lanes
-- of bytes stand for those bytes.
-- Assumes nothing.
use mathlib.Core.Path.{◌≡◌, refl, sym, ap, ◌∙◌}
use mathlib.Core.List.{List, [], ◌++◌}
use Prim.Native.Nat.{ℕ, ◌+◌, ◌*◌, ◌/◌, ◌%◌, ◌≤◌, ◌<◌}
use native.Mathlib.Nat.{add-zero}
use native.Mathlib.Omega.{arith}
use lib.ListN.{length, get_or, take, drop}
use lib.Seq.{get_or-take, get_or-drop, drop-drop}
use Rattle.bits.specs.Digit.{bit, bit-mod}
use Rattle.bits.specs.Bytes.{Bytes, bytes_take, bytes_drop, bytes-append}
use Rattle.bits.specs.LittleEndian.{le_bytes, from_le, bytes-le_bytes, from_le-le_bytes, le_bytes-from_le, bit-from_le}
use Rattle.bits.specs.Part.{length_part, parts, parts-take}
use Rattle.keccak.specs.Fips202.{Rnd, string_bit, of_bytes, keccak_round}
use Rattle.keccak.specs.Agree.{Agree, agree_trans, agree_sym, round_same}
use Rattle.keccak.specs.Laws.{to_bytes-same, to_bytes-of_bytes}
use Rattle.keccak.specs.Lanes.{lane, array_of, plane_bytes, bytes_of, lane_at, plane_at, lanes_of}
use Rattle.keccak.proofs.Five.{below5}

pub length_plane : (p : List ℕ) → length (plane_bytes p) ≡ 10
unfolding plane_bytes le_bytes
length_plane p = refl

pub length-bytes_of : (a : List (List ℕ)) → length (bytes_of a) ≡ 50
unfolding bytes_of plane_bytes le_bytes
length-bytes_of a = refl

bytes_plane : (p : List ℕ) → Bytes (plane_bytes p)
unfolding plane_bytes
bytes_plane p =
    let b : (x : ℕ) → Bytes (le_bytes 2 (get_or p x 0)) = λ x. bytes-le_bytes 2 (get_or p x 0) in
    bytes-append (bytes-append (bytes-append (bytes-append (b 0) (b 1)) (b 2)) (b 3)) (b 4)

pub bytes-bytes_of : (a : List (List ℕ)) → Bytes (bytes_of a)
unfolding bytes_of
bytes-bytes_of a =
    let b : (y : ℕ) → Bytes (plane_bytes (get_or a y [])) = λ y. bytes_plane (get_or a y []) in
    bytes-append (bytes-append (bytes-append (bytes-append (b 0) (b 1)) (b 2)) (b 3)) (b 4)

-- ---- bits

-- the bits of a state array that is read from bytes are those of the lanes there
lane-bits : (s : List ℕ) → Bytes s → (x y z : ℕ) → z < 16 → of_bytes s x y z ≡ bit (lane_at s (2 * (5 * y + x))) z
unfolding of_bytes string_bit
lane-bits s h x y z hz =
    let i : ℕ = 16 * (5 * y + x) + z in
    let m : ℕ = 2 * (5 * y + x) in
    let p : i / 8 ≡ m + z / 8 = omega arith in
    let q : i % 8 ≡ z % 8 = omega arith in
    (λ j. bit (get_or s (p j) 0) (q j))
    ∙ ap (λ (b : ℕ). bit b (z % 8)) (sym (get_or-take 2 (drop m s) (z / 8) 0 (omega arith) ∙ get_or-drop m s (z / 8) 0))
    ∙ sym (bit-from_le (take 2 (drop m s)) (bytes_take 2 (bytes_drop m h)) z)

-- where a lane's two bytes stand
abbrev TwoBytes : List (List ℕ) → ℕ → ℕ → Type 0
TwoBytes a y x = take 2 (drop (2 * (5 * y + x)) (bytes_of a)) ≡ le_bytes 2 (lane a x y)

two_bytes : (a : List (List ℕ)) (x y : ℕ) → x < 5 → y < 5 → TwoBytes a y x
unfolding bytes_of plane_bytes le_bytes
two_bytes a x y hx hy =
    below5 (λ (y : ℕ). TwoBytes a y x)
    (below5 (TwoBytes a 0) refl refl refl refl refl x hx)
    (below5 (TwoBytes a 1) refl refl refl refl refl x hx)
    (below5 (TwoBytes a 2) refl refl refl refl refl x hx)
    (below5 (TwoBytes a 3) refl refl refl refl refl x hx)
    (below5 (TwoBytes a 4) refl refl refl refl refl x hx) y hy

pub bytes_of_bits : (a : List (List ℕ)) → Agree (of_bytes (bytes_of a)) (array_of a)
unfolding Agree array_of
bytes_of_bits a x y z hx hy hz =
    lane-bits (bytes_of a) (bytes-bytes_of a) x y z hz
    ∙ ap (λ (v : ℕ). bit v z) (ap from_le (two_bytes a x y hx hy) ∙ from_le-le_bytes 2 (lane a x y)) ∙ bit-mod (lane a x y) 16 z hz

-- a round on lanes is the round on their bytes
pub round-bytes : (i : ℕ) (a r : List (List ℕ)) → Agree (array_of r) (Rnd i (array_of a)) → bytes_of r ≡ keccak_round i (bytes_of a)
unfolding keccak_round
round-bytes i a r h =
    sym (to_bytes-of_bytes (bytes_of r) (length-bytes_of r) (bytes-bytes_of r))
    ∙ to_bytes-same (of_bytes (bytes_of r)) (Rnd i (of_bytes (bytes_of a)))
    (agree_trans (of_bytes (bytes_of r)) (array_of r) (Rnd i (of_bytes (bytes_of a))) (bytes_of_bits r)
    (agree_trans (array_of r) (Rnd i (array_of a)) (Rnd i (of_bytes (bytes_of a))) h
    (round_same i (array_of a) (of_bytes (bytes_of a)) (agree_sym (of_bytes (bytes_of a)) (array_of a) (bytes_of_bits a)))))

-- ---- the lanes of bytes

module _ (s : List ℕ) (h : Bytes s) where
  -- the lane k bytes behind the start of the plane at i
  pub lane-back : (i k m : ℕ) → i + k ≡ m → m + 2 ≤ length s → le_bytes 2 (lane_at s m) ≡ take 2 (drop k (drop i s))
  lane-back i k m e l =
      let t : List ℕ = take 2 (drop m s) in
      let two : length t ≡ 2 = length_part s m 2 l in
      ap (λ (n : ℕ). le_bytes n (from_le t)) (sym two) ∙ le_bytes-from_le t (bytes_take 2 (bytes_drop m h))
      ∙ ap (take 2) (sym (drop-drop k i s ∙ ap (λ (n : ℕ). drop n s) e))

  plane_back : (i : ℕ) → i + 10 ≤ length s → plane_bytes (plane_at s i) ≡ take 10 (drop i s)
  unfolding plane_bytes parts
  plane_back i l =
      let b0 = lane-back i 0 i (add-zero i) (omega arith) in
      let b1 = lane-back i 2 (i + 2) refl (omega arith) in
      let b2 = lane-back i 4 (i + 4) refl (omega arith) in
      let b3 = lane-back i 6 (i + 6) refl (omega arith) in
      let b4 = lane-back i 8 (i + 8) refl (omega arith) in
      (λ j. b0 j ++ b1 j ++ b2 j ++ b3 j ++ b4 j) ∙ parts-take 5 2 (drop i s)

  pub bytes_of-lanes_of : 50 ≤ length s → bytes_of (lanes_of s) ≡ take 50 s
  unfolding bytes_of lanes_of parts
  bytes_of-lanes_of l =
      let p0 = plane_back 0 (omega arith) in
      let p1 = plane_back 10 (omega arith) in
      let p2 = plane_back 20 (omega arith) in
      let p3 = plane_back 30 (omega arith) in
      let p4 = plane_back 40 (omega arith) in
      (λ j. p0 j ++ p1 j ++ p2 j ++ p3 j ++ p4 j) ∙ parts-take 5 10 s
