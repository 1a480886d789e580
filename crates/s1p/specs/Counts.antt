-- How many rounds a job takes: request (iv)'s formulas, and the shapes of the parts. That the rows have so many rounds is shown in proofs/
-- (`Counts`).
-- Assumes nothing.
use Rattle.std.specs.Prelude.{◌≡◌, Bool, List, [], ◌∷◌, ℕ, zero, suc, ◌+◌, ◌-◌, ◌*◌, ◌/◌, ◌%◌, ◌≤◌, ◌<◌, eqb}
use Rattle.std.proofs.Math.Path.{refl}
use Rattle.std.proofs.Common.{div-add-mod', mod-lt, arith, lit<}
use Rattle.std.proofs.Math.Bool.{true, false}
use Rattle.bits.specs.Pick.{pick}
use Rattle.stopping.specs.Parts.{Shape, rounds_in, EachSome}
use Rattle.s1p.specs.Paper.{blocks}
use Rattle.s1p.specs.Parts.{unless_empty}

-- ---- the formulas, for a bytes of data and m of text

-- verification, and sealing
unfoldable pub verify_rounds : (a m : ℕ) → ℕ
verify_rounds a m = 24 + 12 * (1 + blocks a + blocks m)

-- an opening's second walk
unfoldable pub second_rounds : (a m : ℕ) → ℕ
second_rounds a m = unless_empty m (12 + 12 * (blocks a + blocks m))

pub unless_none : (m k : ℕ) → m ≡ 0 → unless_empty m k ≡ 0
unfolding unless_empty
unless_none zero k e = refl
unless_none (suc m) k e = absurd (omega (arith, e))

pub unless_some : (m k : ℕ) → 0 < m → unless_empty m k ≡ k
unfolding unless_empty
unless_some zero k h = absurd (omega arith)
unless_some (suc m) k h = refl

-- the calls of a part by its kind in a walk, 4 being the closing call, as code finds them (a reader may skip it)
unfoldable pub walk_calls : (a m kind : ℕ) → ℕ
walk_calls a m kind = pick (eqb kind 2) (blocks a) (pick (eqb kind 3) (blocks m) 1)

-- ---- a string's blocks cover it, and none of them is empty

pub blocks_are : (m : ℕ) → (m ≤ blocks m * 32) × (blocks m * 32 < m + 32)
unfolding blocks
blocks_are m =
    let q = (m + 31) / 32 in
    let e = div-add-mod' (m + 31) 32 in
    let r : (m + 31) % 32 < 32 = mod-lt (m + 31) (lit< tt) in
    (omega arith, omega arith)

pub blocks_some : (m : ℕ) → 0 < m → 0 < blocks m
blocks_some m h = omega (arith, (blocks_are m).0)

-- ---- the shapes of the parts, by the two lengths alone

abbrev pub shape : ℕ → Shape
shape count = record { count = count; rounds = 12 }

unfoldable pub front_shapes : (a m : ℕ) → List Shape
front_shapes a m = shape 1 ∷ shape 1 ∷ shape (blocks a) ∷ shape (blocks m) ∷ shape 1 ∷ []

unfoldable pub second_shapes : (a m : ℕ) → List Shape
second_shapes a m =
    shape (unless_empty m 1) ∷ shape (unless_empty m 1) ∷ shape (unless_empty m (blocks a)) ∷ shape (unless_empty m (blocks m - 1)) ∷ []

unfoldable pub back_shapes : Bool → (a m : ℕ) → List Shape
back_shapes sealing a m = pick sealing [] (second_shapes a m)

-- the rounds after the decision
unfoldable pub back_count : Bool → (a m : ℕ) → ℕ
back_count sealing a m = pick sealing 0 (second_rounds a m)

pub front-count : (a m : ℕ) → rounds_in (front_shapes a m) ≡ verify_rounds a m
unfolding rounds_in front_shapes verify_rounds
front-count a m = omega arith

second_count : (a m : ℕ) → rounds_in (second_shapes a m) ≡ second_rounds a m
unfolding rounds_in second_shapes second_rounds unless_empty
second_count a zero = omega arith
second_count a (suc m) = let h = blocks_some (suc m) (omega arith) in omega arith

pub back_count_lem : (b : Bool) (a m : ℕ) → rounds_in (back_shapes b a m) ≡ back_count b a m
unfolding back_shapes back_count rounds_in
back_count_lem true a m = refl
back_count_lem false a m = second_count a m

-- every call has a round, and a job its decision
pub front_some : (a m : ℕ) → EachSome (front_shapes a m)
unfolding EachSome front_shapes
front_some a m = (lit< tt, (lit< tt, (lit< tt, (lit< tt, (lit< tt, tt)))))

pub back_some_lem : (b : Bool) (a m : ℕ) → EachSome (back_shapes b a m)
unfolding EachSome back_shapes second_shapes
back_some_lem true a m = tt
back_some_lem false a m = (lit< tt, (lit< tt, (lit< tt, (lit< tt, tt))))

pub verify_some : (a m : ℕ) → 0 < verify_rounds a m
unfolding verify_rounds
verify_some a m = omega arith

-- 24 + 12 (1 + u + v) and an opening's total: with neither data nor text, with 256 bytes of data and the longest text that a parcel carries,
-- and at both limits
pub none : (verify_rounds 0 0 ≡ 36) × (second_rounds 0 0 ≡ 0)
unfolding verify_rounds second_rounds unless_empty blocks
none = (refl, refl)

pub carried : (verify_rounds 256 4096 ≡ 1668) × (verify_rounds 256 4096 + second_rounds 256 4096 ≡ 3312)
unfolding verify_rounds second_rounds unless_empty blocks
carried = (refl, refl)

pub most : (verify_rounds 256 1048576 ≡ 393348) × (verify_rounds 256 1048576 + second_rounds 256 1048576 ≡ 786672)
unfolding verify_rounds second_rounds unless_empty blocks
most = (refl, refl)
