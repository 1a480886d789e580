-- Keccak-p[400], as FIPS 202 publishes it: a state array of 5 x 5 x 16 bits, the five step mappings on its bits, and the permutation of
-- the state's 50 bytes. The lane's length w is 16, so ℓ = 4, and there are 12 + 2ℓ = 20 round indices. Where FIPS 202 subtracts mod 5
-- or mod 16, this adds what is left to 5 or 16: x - 1 mod 5 is (x + 4) % 5.
-- Assumes nothing.
use Rattle.std.specs.Prelude.{Bool, true, false, ◌&&◌, ◌||◌, List, [], ◌∷◌, ℕ, zero, suc, ◌+◌, ◌-◌, ◌*◌, ◌/◌, ◌%◌, ◌^◌, eqb, get_or}
use Rattle.bits.specs.Digit.{bit, ◌⊕◌}
use Rattle.bits.specs.Number.{number}
use Rattle.bits.specs.Run.{rounds}

-- 3.1: the state array, A[x, y, z]
abbrev pub StateArray : Type 0
StateArray = ℕ → ℕ → ℕ → Bool

-- ---- 3.2.1, algorithm 1: θ

-- C[x, z], the parity of a column
unfoldable pub C : StateArray → ℕ → ℕ → Bool
C A x z = A x 0 z ⊕ A x 1 z ⊕ A x 2 z ⊕ A x 3 z ⊕ A x 4 z

-- D[x, z]
unfoldable pub D : StateArray → ℕ → ℕ → Bool
D A x z = C A ((x + 4) % 5) z ⊕ C A ((x + 1) % 5) ((z + 15) % 16)

unfoldable pub θ : StateArray → StateArray
θ A x y z = A x y z ⊕ D A x z

-- ---- 3.2.2, algorithm 2: ρ turns each lane by its offset

-- table 2, a row for each y, from x = 0. (It is what algorithm 2 walks: `table_2` of Laws.)
unfoldable pub offsets : List (List ℕ)
offsets =
    (0 ∷ 1 ∷ 190 ∷ 28 ∷ 91 ∷ [])
    ∷ (36 ∷ 300 ∷ 6 ∷ 55 ∷ 276 ∷ [])
    ∷ (3 ∷ 10 ∷ 171 ∷ 153 ∷ 231 ∷ [])
    ∷ (105 ∷ 45 ∷ 15 ∷ 21 ∷ 136 ∷ [])
    ∷ (210 ∷ 66 ∷ 253 ∷ 120 ∷ 78 ∷ [])
    ∷ []

unfoldable pub offset : ℕ → ℕ → ℕ
offset x y = get_or (get_or offsets y []) x 0

unfoldable pub ρ : StateArray → StateArray
ρ A x y z = A x y ((z + (16 - offset x y % 16)) % 16)

-- ---- 3.2.3, algorithm 3: π

unfoldable pub π : StateArray → StateArray
π A x y z = A ((x + 3 * y) % 5) x z

-- ---- 3.2.4, algorithm 4: χ

unfoldable pub χ : StateArray → StateArray
χ A x y z = A x y z ⊕ ((A ((x + 1) % 5) y z ⊕ true) && A ((x + 2) % 5) y z)

-- ---- 3.2.5, algorithms 5 and 6: ι

-- the shift register R of algorithm 5
pub record Register : Type 0 where
  pub r0 : Bool
  pub r1 : Bool
  pub r2 : Bool
  pub r3 : Bool
  pub r4 : Bool
  pub r5 : Bool
  pub r6 : Bool
  pub r7 : Bool

-- R = 10000000
unfoldable pub start : Register
start = record { r0 = true; r1 = false; r2 = false; r3 = false; r4 = false; r5 = false; r6 = false; r7 = false }

-- R = 0 || R; the bit that stands at 8 then, the old R[7], is added at 0, 4, 5 and 6; R = Trunc8[R]
unfoldable pub shifted : Register → Register
shifted R =
    record {
      r0 = false ⊕ R.r7;
      r1 = R.r0;
      r2 = R.r1;
      r3 = R.r2;
      r4 = R.r3 ⊕ R.r7;
      r5 = R.r4 ⊕ R.r7;
      r6 = R.r5 ⊕ R.r7;
      r7 = R.r6;
    }

-- R after t steps
unfoldable pub register : ℕ → Register
register zero = start
register (suc t) = shifted (register t)

unfoldable pub rc : ℕ → Bool
rc t = (register (t % 255)).r0

-- f holds somewhere below n
unfoldable pub any : ℕ → (ℕ → Bool) → Bool
any zero f = false
any (suc n) f = any n f || f n

-- RC[z] of round index i: RC[2^j - 1] = rc(j + 7i) for j from 0 to ℓ, and 0 elsewhere
unfoldable pub RC : ℕ → ℕ → Bool
RC i z = any 5 (λ j. eqb z (2 ^ j - 1) && rc (j + 7 * i))

unfoldable pub ι : ℕ → StateArray → StateArray
ι i A zero zero z = A 0 0 z ⊕ RC i z
ι i A zero (suc y) z = A zero (suc y) z
ι i A (suc x) y z = A (suc x) y z

-- 3.3: Rnd(A, i)
unfoldable pub Rnd : ℕ → StateArray → StateArray
Rnd i A = ι i (χ (π (ρ (θ A))))

-- ---- 3.1.2 and 3.1.3: the string S of 400 bits, which is 50 bytes (B.1)

-- S[i] of the bytes s: a byte's first bit is its lowest digit
unfoldable pub string_bit : List ℕ → ℕ → Bool
string_bit s i = bit (get_or s (i / 8) 0) (i % 8)

-- A[x, y, z] = S[w(5y + x) + z]
unfoldable pub of_bytes : List ℕ → StateArray
of_bytes s x y z = string_bit s (16 * (5 * y + x) + z)

-- S[i] of a state array: lane after lane, plane after plane
unfoldable pub array_bit : StateArray → ℕ → Bool
array_bit A i = A (i / 16 % 5) (i / 80) (i % 16)

unfoldable pub array_byte : StateArray → ℕ → ℕ
array_byte A j = number 8 (λ k. array_bit A (8 * j + k))

-- f 0, f 1, .., n of them
unfoldable pub table : ℕ → (ℕ → ℕ) → List ℕ
table zero f = []
table (suc n) f = f 0 ∷ table n (λ k. f (suc k))

unfoldable pub to_bytes : StateArray → List ℕ
to_bytes A = table 50 (array_byte A)

-- ---- 3.3, algorithm 7: the permutation

-- Keccak-p[400, r]: the string becomes a state array, the last r of the twenty rounds, and back
unfoldable pub keccak_p : (r : ℕ) → List ℕ → List ℕ
keccak_p r s = to_bytes (rounds Rnd (20 - r) r (of_bytes s))

-- one round on the state's bytes. (A run of these is the run above: `keccak_p-rounds` of Laws.)
unfoldable pub keccak_round : (i : ℕ) → List ℕ → List ℕ
keccak_round i s = to_bytes (Rnd i (of_bytes s))
