-- Laws of byte strings: lengths are kept, bytes stay bytes, and what is done to a state in a longer buffer is done to the state alone.
-- Assumes nothing.
use Rattle.std.specs.Prelude.{◌≡◌, refl, Bool, true, false, List, [], ◌∷◌, ◌++◌, ℕ, zero, suc, ◌+◌, ◌-◌, ◌*◌, ◌≤◌, ◌<◌, min, eqb}
use Rattle.std.proofs.Common.{sym, ap, ap₂, ◌∙◌, append_assoc, suc-mul, arith, eqb-true, eq-eqb, drop-drop}
use Rattle.std.proofs.Math.Decide.{dec_lt}
use lib.ListN.{length, get_or, take, drop, set, replicate, length-append, length-set, length-drop, length-take, length-replicate, drop_of_length-le}
use Rattle.std.proofs.Math.Seq.{take-nil}
use Rattle.std.proofs.lemmas.List.{set-append_left, drop-append-le}
use Rattle.std.specs.Int.Bits.{bit_xor}
use Rattle.std.proofs.lemmas.Nat.{xor_lt}
use Rattle.bits.specs.Pick.{pick}
use Rattle.bits.specs.Bytes.{Bytes, bytes_take, bytes_drop, bytes-append, cons_bytes, head_byte, tail_bytes}
use Rattle.bits.specs.Put.{put_at, length-put_at}
use Rattle.bits.specs.Xors.{xors, length-xors, bytes-xors, xors-front, xors_none, xors-zeros}
use Rattle.bits.specs.Strings.{xor_into, xor_at, block, same}

-- ---- lengths

pub length-xor_into : (xs s : List ℕ) → length xs ≤ length s → length (xor_into xs s) ≡ length s
unfolding xor_into
length-xor_into xs s h = rw (length-append, length-xors, length-drop) (omega arith)

pub length-xor_at : (i v : ℕ) (s : List ℕ) → length (xor_at i v s) ≡ length s
unfolding xor_at
length-xor_at i v s = simp length-set

pub length-block : (b i : ℕ) (s : List ℕ) → length (block b i s) ≡ min b (length s - i * b)
unfolding block
length-block b i s = length-take b (drop (i * b) s) ∙ ap (min b) (length-drop (i * b) s)

-- a block of output at its place: past the end there is none
pub length_put_block : (b i : ℕ) (s t o : List ℕ) → length o ≡ length t → length (put_at (i * b) (xors s (block b i t)) o) ≡ length t
unfolding put_at
length_put_block b i s t o k =
    let y = xors s (block b i t) in
    let size = length-xors s (block b i t) in
    let len = length-block b i t in
    elim (dec_lt (length t) (i * b)) [
      | yes f ↦
          let none : length y ≡ 0 = omega arith in
          length-append (take (i * b) o) (y ++ drop (i * b + length y) o)
          ∙ omega (arith, length-append y (drop (i * b + length y) o), length-take (i * b) o, length-drop (i * b + length y) o, k)
      | no f ↦ length-put_at (i * b) y o (omega (arith, k)) ∙ k
    ]

-- ---- a state of a longer buffer

pub xor_into-front : (xs s t : List ℕ) → length xs ≤ length s → xor_into xs (s ++ t) ≡ xor_into xs s ++ t
unfolding xor_into
xor_into-front xs s t h =
    ap₂ (λ (u v : List ℕ). u ++ v) (xors-front s t xs h) (drop-append-le (length xs) s t h) ∙ sym (append_assoc (xors s xs) (drop (length xs) s) t)

pub xor_at-front : (i v : ℕ) (s t : List ℕ) → i < length s → xor_at i v (s ++ t) ≡ xor_at i v s ++ t
unfolding xor_at
xor_at-front i v s t h = rw (lib.ListN.get_or-append s t 0 i h) (set-append_left s t i (bit_xor (get_or s i 0) v) h)

-- ---- bytes stay bytes

pub bytes-set : (i v : ℕ) (s : List ℕ) → v < 256 → Bytes s → Bytes (set s i v)
bytes-set i v [] h k = k
bytes-set zero v (x ∷ s) h k = cons_bytes h (tail_bytes k)
bytes-set (suc i) v (x ∷ s) h k = cons_bytes (head_byte k) (bytes-set i v s h (tail_bytes k))

pub bytes-xor_into : (xs s : List ℕ) → Bytes xs → Bytes s → Bytes (xor_into xs s)
unfolding xor_into
bytes-xor_into xs s h k = bytes-append (bytes-xors s xs k h) (bytes_drop (length xs) k)

pub bytes-xor_at : (i v : ℕ) (s : List ℕ) → v < 256 → Bytes s → Bytes (xor_at i v s)
unfolding xor_at
bytes-xor_at i v s h k = bytes-set i (bit_xor (get_or s i 0) v) s (xor_lt 8 (get_or s i 0) v (k.each i) h) k

pub bytes-block : (b i : ℕ) (s : List ℕ) → Bytes s → Bytes (block b i s)
unfolding block
bytes-block b i s h = bytes_take b (bytes_drop (i * b) h)

-- ---- what is xored in

pub xor_into_none : (s : List ℕ) → xor_into [] s ≡ s
unfolding xor_into
xor_into_none s = ap (λ (u : List ℕ). u ++ s) (xors_none s)

-- a byte and zeros behind a string are that byte
pub xor_into_pad : (v : ℕ) (xs : List ℕ) (k : ℕ) (s : List ℕ) → length xs + suc k ≤ length s
    → xor_into (xs ++ (v ∷ replicate k 0)) s ≡ xor_at (length xs) v (xor_into xs s)
unfolding xor_into xor_at xors
xor_into_pad v [] k [] h = absurd (omega arith)
xor_into_pad v [] k (y ∷ s) h = ap (λ (u : List ℕ). bit_xor y v ∷ u) (rw (length-replicate {A = ℕ} k 0) (xors-zeros k s (omega arith)))
xor_into_pad v (x ∷ xs) k [] h = absurd (omega arith)
xor_into_pad v (x ∷ xs) k (y ∷ s) h = ap (λ (u : List ℕ). bit_xor y x ∷ u) (xor_into_pad v xs k s (omega arith))

-- ---- blocks of a string

-- past the last there is nothing
pub block_none : (b i : ℕ) (s : List ℕ) → length s ≤ i * b → block b i s ≡ []
unfolding block
block_none b i s h = ap (take b) (drop_of_length-le s {i = i * b} h) ∙ take-nil b

-- the blocks after block i
pub drop-next : (b i : ℕ) (s : List ℕ) → drop b (drop (i * b) s) ≡ drop (suc i * b) s
drop-next b i s = drop-drop b (i * b) s ∙ ap (λ (k : ℕ). drop k s) (sym (suc-mul i b))

-- ---- the test of equality

pub same_refl : (xs : List ℕ) → same xs xs ≡ true
unfolding same
same_refl [] = refl
same_refl (x ∷ xs) = ap (λ (b : Bool). pick b (same xs xs) false) (eq-eqb x x refl) ∙ same_refl xs

pub same_true : (xs ys : List ℕ) → same xs ys ≡ true → xs ≡ ys
unfolding same
same_true [] [] e = refl
same_true [] (y ∷ ys) e = let z : ◌≡◌ {A = ℕ} 0 1 = cc in absurd (omega arith)
same_true (x ∷ xs) [] e = let z : ◌≡◌ {A = ℕ} 0 1 = cc in absurd (omega arith)
same_true (x ∷ xs) (y ∷ ys) e = go (same_true xs ys) (eqb x y) refl e
  where
    go : (same xs ys ≡ true → xs ≡ ys) → (b : Bool) → eqb x y ≡ b → pick b (same xs ys) false ≡ true → x ∷ xs ≡ y ∷ ys
    go rest true f g = ap₂ (λ (u : ℕ) (us : List ℕ). u ∷ us) (eqb-true x y f) (rest g)
    go rest false f g = let z : ◌≡◌ {A = ℕ} 0 1 = cc in absurd (omega arith)
