-- A reader may skip this file: what `rounds` (crate engine) promises speaks of bytes alone. It is how the code holds the state, five planes
-- of five lanes of 16 bits, with the bytes and the bits that they stand for; and what the private functions make of a plane, lane by lane.
-- Assumes nothing.
use Rattle.std.specs.Prelude.{List, [], ◌∷◌, ◌++◌, ℕ, ◌+◌, ◌-◌, ◌*◌, ◌%◌, ltb, get_or, take, drop}
use Rattle.std.specs.Int.Bits.{bit_xor, bit_and}
use Rattle.bits.specs.Digit.{bit}
use Rattle.bits.specs.LittleEndian.{le_bytes, from_le}
use Rattle.bits.specs.Pick.{pick}
use Rattle.bits.specs.Rotate.{rotl}
use Rattle.keccak.specs.Fips202.{StateArray}

-- f 0 .. f 4
abbrev pub five : {A : Type 0} → (ℕ → A) → List A
five f = f 0 ∷ f 1 ∷ f 2 ∷ f 3 ∷ f 4 ∷ []

-- the lane at x of a plane, and of plane y
abbrev pub at : List ℕ → ℕ → ℕ
at p x = get_or p x 0

abbrev pub lane : List (List ℕ) → ℕ → ℕ → ℕ
lane a x y = at (get_or a y []) x

-- the bits: bit z of the lane at x of plane y
unfoldable pub array_of : List (List ℕ) → StateArray
array_of a x y z = bit (lane a x y) z

-- ---- bytes: a lane's low byte first, lane after lane, plane after plane

unfoldable pub plane_bytes : List ℕ → List ℕ
plane_bytes p = le_bytes 2 (at p 0) ++ le_bytes 2 (at p 1) ++ le_bytes 2 (at p 2) ++ le_bytes 2 (at p 3) ++ le_bytes 2 (at p 4)

-- the 50 bytes of a state
unfoldable pub bytes_of : List (List ℕ) → List ℕ
bytes_of a =
    plane_bytes (get_or a 0 []) ++ plane_bytes (get_or a 1 []) ++ plane_bytes (get_or a 2 []) ++ plane_bytes (get_or a 3 []) ++ plane_bytes (get_or a 4 [])

-- the lane whose bytes start at i, and the plane
abbrev pub lane_at : List ℕ → ℕ → ℕ
lane_at s i = from_le (take 2 (drop i s))

abbrev pub plane_at : List ℕ → ℕ → List ℕ
plane_at s i = lane_at s i ∷ lane_at s (i + 2) ∷ lane_at s (i + 4) ∷ lane_at s (i + 6) ∷ lane_at s (i + 8) ∷ []

-- the lanes of the first 50 bytes
unfoldable pub lanes_of : List ℕ → List (List ℕ)
lanes_of s = five (λ y. five (λ x. lane_at s (2 * (5 * y + x))))

-- ---- what the private functions compute

-- θ: two planes added; the parities of the columns; and what each column is added
abbrev pub added_lane : List ℕ → List ℕ → ℕ → ℕ
added_lane p q x = bit_xor (at p x) (at q x)

abbrev pub parity_lane : List (List ℕ) → ℕ → ℕ
parity_lane a x = bit_xor (bit_xor (bit_xor (bit_xor (lane a x 0) (lane a x 1)) (lane a x 2)) (lane a x 3)) (lane a x 4)

abbrev pub effect_lane : List ℕ → ℕ → ℕ
effect_lane c x = bit_xor (at c ((x + 4) % 5)) (rotl 16 1 (at c ((x + 1) % 5)))

-- ρ: each lane turned by its own number
abbrev pub turned_lane : List ℕ → List ℕ → ℕ → ℕ
turned_lane p by x = rotl 16 (at by x) (at p x)

-- χ
abbrev pub chi_lane : List ℕ → ℕ → ℕ
chi_lane p x = bit_xor (at p x) (bit_and (65535 - at p ((x + 1) % 5)) (at p ((x + 2) % 5)))

-- bytes from i on: a plane's first n lanes xored with them, the others as they are
abbrev pub xored_lane : List ℕ → List ℕ → ℕ → ℕ → ℕ
xored_lane p s x i = bit_xor (at p x) (lane_at s i)

abbrev pub lanes_xored : ℕ → List ℕ → List ℕ → ℕ → List ℕ
lanes_xored n p s i = five (λ x. pick (ltb x n) (xored_lane p s x (i + 2 * x)) (at p x))
