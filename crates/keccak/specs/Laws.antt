-- The laws of Keccak-p[400] that callers go by: a run of rounds may be kept in bytes between any two of them, and the bytes stay fifty
-- bytes. Also that table 2 of FIPS 202 is what its algorithm 2 walks.
-- Assumes nothing.
use Rattle.std.specs.Prelude.{◌≡◌, refl, Bool, true, ◌&&◌, List, ℕ, zero, suc, ◌+◌, ◌-◌, ◌*◌, ◌/◌, ◌%◌, ◌<◌, eqb, length, get_or}
use Rattle.std.proofs.Common.{sym, ap, ◌∙◌, mod-eq_of_lt, not-suc-le-zero, le_of_suc-le-suc, arith, ext_get_or, eqb-true}
use Rattle.bits.specs.Digit.{bit}
use Rattle.bits.specs.Number.{number_lt, number_cong, number-bits, bit-number}
use Rattle.bits.specs.Every.{every, every_at}
use Rattle.bits.specs.Pick.{pick}
use Rattle.bits.specs.Bytes.{Bytes, no_bytes, cons_bytes}
use Rattle.bits.specs.Run.{rounds, rounds_none, rounds_more, Keeps}
use Rattle.keccak.specs.Fips202.{StateArray, offsets, offset, Rnd, string_bit, of_bytes, array_bit, array_byte, table, to_bytes, keccak_p, keccak_round}
use Rattle.keccak.specs.Agree.{Agree, round_same}

-- ---- tables

length-table : (n : ℕ) (f : ℕ → ℕ) → length (table n f) ≡ n
unfolding table
length-table zero f = refl
length-table (suc n) f = ap suc (length-table n (λ k. f (suc k)))

get_or_table : (n : ℕ) (f : ℕ → ℕ) (i : ℕ) → i < n → get_or (table n f) i 0 ≡ f i
unfolding table
get_or_table zero f i h = absurd (not-suc-le-zero h)
get_or_table (suc n) f zero h = refl
get_or_table (suc n) f (suc i) h = get_or_table n (λ k. f (suc k)) i (le_of_suc-le-suc h)

bytes-table : (n : ℕ) (f : ℕ → ℕ) → ((k : ℕ) → f k < 256) → Bytes (table n f)
unfolding table
bytes-table zero f h = no_bytes
bytes-table (suc n) f h = cons_bytes (h 0) (bytes-table n (λ k. f (suc k)) (λ k. h (suc k)))

-- a list of n elements is a table of them
is_table : (n : ℕ) (f : ℕ → ℕ) (s : List ℕ) → length s ≡ n → ((k : ℕ) → k < n → f k ≡ get_or s k 0) → table n f ≡ s
is_table n f s l h =
    ext_get_or 0 (table n f) s (length-table n f ∙ sym l)
    (λ k hk. let p : k < n = omega (arith, length-table n f) in get_or_table n f k p ∙ h k p)

-- ---- bytes and state arrays

length-to_bytes : (A : StateArray) → length (to_bytes A) ≡ 50
unfolding to_bytes
length-to_bytes A = length-table 50 (array_byte A)

bytes-to_bytes : (A : StateArray) → Bytes (to_bytes A)
unfolding to_bytes array_byte
bytes-to_bytes A = bytes-table 50 (array_byte A) (λ j. number_lt 8 (λ k. array_bit A (8 * j + k)))

-- arrays that agree have the same bytes
pub to_bytes-same : (A B : StateArray) → Agree A B → to_bytes A ≡ to_bytes B
unfolding to_bytes array_byte array_bit Agree
to_bytes-same A B h =
    is_table 50 (array_byte A) (table 50 (array_byte B)) (length-table 50 (array_byte B))
    (λ j l.
    number_cong 8 (λ k. array_bit A (8 * j + k)) (λ k. array_bit B (8 * j + k))
    (λ k hk. h ((8 * j + k) / 16 % 5) ((8 * j + k) / 80) ((8 * j + k) % 16) (omega arith) (omega arith) (omega arith))
    ∙ sym (get_or_table 50 (array_byte B) j l))

-- there and back
pub of_bytes-to_bytes : (A : StateArray) → Agree (of_bytes (to_bytes A)) A
unfolding Agree of_bytes string_bit to_bytes array_byte array_bit
of_bytes-to_bytes A x y z hx hy hz =
    let i : ℕ = 16 * (5 * y + x) + z in
    let e : 8 * (i / 8) + i % 8 ≡ i = omega arith in
    let p : i / 16 % 5 ≡ x = omega arith in
    let q : i / 80 ≡ y = omega arith in
    let r : i % 16 ≡ z = omega arith in
    ap (λ (n : ℕ). bit n (i % 8)) (get_or_table 50 (array_byte A) (i / 8) (omega arith))
    ∙ bit-number 8 (λ k. array_bit A (8 * (i / 8) + k)) (i % 8) (omega arith)
    ∙ ap (array_bit A) e ∙ (λ j. A (p j) (q j) (r j))

-- back and there
pub to_bytes-of_bytes : (s : List ℕ) → length s ≡ 50 → Bytes s → to_bytes (of_bytes s) ≡ s
unfolding to_bytes array_byte array_bit of_bytes string_bit
to_bytes-of_bytes s l h =
    is_table 50 (array_byte (of_bytes s)) s l
    (λ j hj.
    number_cong 8 (λ k. array_bit (of_bytes s) (8 * j + k)) (bit (get_or s j 0))
    (λ k hk.
    let i : ℕ = 8 * j + k in
    let p : (16 * (5 * (i / 80) + i / 16 % 5) + i % 16) / 8 ≡ j = omega arith in
    let q : (16 * (5 * (i / 80) + i / 16 % 5) + i % 16) % 8 ≡ k = omega arith in
    λ m. bit (get_or s (p m) 0) (q m))
    ∙ number-bits 8 (get_or s j 0) ∙ mod-eq_of_lt (h.each j))

-- ---- the laws

pub keccak_keeps : Keeps 50 keccak_round
unfolding keccak_round
keccak_keeps = record { long = λ i s l. length-to_bytes (Rnd i (of_bytes s)); bytes = λ i s l h. bytes-to_bytes (Rnd i (of_bytes s)) }

-- rounds on the state array, or each on the bytes
run_of_rounds : (from k : ℕ) (s : List ℕ) → length s ≡ 50 → Bytes s → to_bytes (rounds Rnd from k (of_bytes s)) ≡ rounds keccak_round from k s
unfolding keccak_round
run_of_rounds from zero s l h = ap to_bytes (rounds_none Rnd from (of_bytes s)) ∙ to_bytes-of_bytes s l h ∙ sym (rounds_none keccak_round from s)
run_of_rounds from (suc k) s l h =
    let A : StateArray = rounds Rnd from k (of_bytes s) in
    ap to_bytes (rounds_more Rnd from k (of_bytes s))
    ∙ sym (to_bytes-same (Rnd (from + k) (of_bytes (to_bytes A))) (Rnd (from + k) A) (round_same (from + k) (of_bytes (to_bytes A)) A (of_bytes-to_bytes A)))
    ∙ ap (keccak_round (from + k)) (run_of_rounds from k s l h) ∙ sym (rounds_more keccak_round from k s)

-- Keccak-p[400, r] is the last r of the twenty rounds, each on the state's bytes
pub keccak_p-rounds : (r : ℕ) (s : List ℕ) → length s ≡ 50 → Bytes s → keccak_p r s ≡ rounds keccak_round (20 - r) r s
unfolding keccak_p
keccak_p-rounds r s l h = run_of_rounds (20 - r) r s l h

-- ---- table 2

-- where algorithm 2 stands at step t: it walks from (1, 0)
unfoldable pub walk : ℕ → ℕ × ℕ
walk zero = (1, 0)
walk (suc t) = let p = walk t in (p.1, (2 * p.0 + 3 * p.1) % 5)

-- the offset that its first n steps give the lane at (x, y): (t + 1)(t + 2) / 2 at step t, and 0 where no step comes, as at (0, 0)
unfoldable pub walked : (n x y : ℕ) → ℕ
walked zero x y = 0
walked (suc t) x y = pick (eqb x (walk t).0 && eqb y (walk t).1) ((t + 1) * (t + 2) / 2) (walked t x y)

same-offset : ℕ → ℕ → Bool
same-offset x y = eqb (offset x y) (walked 24 x y)

all_offsets : every 5 (λ x. every 5 (same-offset x)) ≡ true
unfolding every same-offset walked walk offset offsets
all_offsets = refl

-- the offsets of table 2 are those of algorithm 2
pub table_2 : (x y : ℕ) → x < 5 → y < 5 → offset x y ≡ walked 24 x y
unfolding same-offset
table_2 x y hx hy =
    eqb-true (offset x y) (walked 24 x y) (every_at 5 (same-offset x) (every_at 5 (λ x. every 5 (same-offset x)) all_offsets x hx) y hy)
