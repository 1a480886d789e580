-- The xor of two byte strings, byte by byte, as far as the shorter goes.
-- Assumes nothing.
use Rattle.std.specs.Prelude.{◌≡◌, refl, Bool, true, false, List, [], ◌∷◌, ◌++◌, ℕ, zero, suc, ◌+◌, ◌^◌, ◌≤◌, ◌<◌, min, length, take, drop, replicate}
use Rattle.std.proofs.Common.{sym, ap, ap₂, ◌∙◌, lt_of_lt_of_le, pow-suc, arith, lit<, pow_mono}
use Rattle.std.specs.Int.Bits.{bit_xor, xor_zero_r}
use Rattle.std.proofs.lemmas.Nat.{xor_lt, xor_comm}
use Rattle.bits.specs.Digit.{bit, bit-xor, ◌⊕◌}
use Rattle.bits.specs.Number.{bit_ext}
use Rattle.bits.specs.Bytes.{Bytes, head_byte, tail_bytes, no_bytes, cons_bytes}

unfoldable pub xors : List ℕ → List ℕ → List ℕ
xors [] ys = []
xors (x ∷ xs) [] = []
xors (x ∷ xs) (y ∷ ys) = bit_xor x y ∷ xors xs ys

pub length-xors : (xs ys : List ℕ) → length (xors xs ys) ≡ min (length xs) (length ys)
unfolding xors
length-xors [] ys = omega arith
length-xors (x ∷ xs) [] = omega arith
length-xors (x ∷ xs) (y ∷ ys) = omega (arith, length-xors xs ys)

pub bytes-xors : (xs ys : List ℕ) → Bytes xs → Bytes ys → Bytes (xors xs ys)
unfolding xors
bytes-xors [] ys h k = no_bytes
bytes-xors (x ∷ xs) [] h k = no_bytes
bytes-xors (x ∷ xs) (y ∷ ys) h k = cons_bytes (xor_lt 8 x y (head_byte h) (head_byte k)) (bytes-xors xs ys (tail_bytes h) (tail_bytes k))

pub xors_comm : (xs ys : List ℕ) → xors xs ys ≡ xors ys xs
unfolding xors
xors_comm [] [] = refl
xors_comm [] (y ∷ ys) = refl
xors_comm (x ∷ xs) [] = refl
xors_comm (x ∷ xs) (y ∷ ys) = ap₂ (λ (z : ℕ) (zs : List ℕ). z ∷ zs) (xor_comm x y) (xors_comm xs ys)

pub xors_none : (xs : List ℕ) → xors xs [] ≡ []
unfolding xors
xors_none [] = refl
xors_none (x ∷ xs) = refl

-- what lies beyond the shorter string is not read
pub xors-front : (xs t ys : List ℕ) → length ys ≤ length xs → xors (xs ++ t) ys ≡ xors xs ys
unfolding xors
xors-front [] [] [] h = refl
xors-front [] (z ∷ t) [] h = refl
xors-front [] t (y ∷ ys) h = absurd (omega arith)
xors-front (x ∷ xs) t [] h = refl
xors-front (x ∷ xs) t (y ∷ ys) h = ap (λ (zs : List ℕ). bit_xor x y ∷ zs) (xors-front xs t ys (omega arith))

-- zeros change nothing, also behind a byte
pub xors-zeros : (n : ℕ) (xs : List ℕ) → n ≤ length xs → xors xs (replicate n 0) ++ drop n xs ≡ xs
unfolding xors
xors-zeros zero xs h = ap (λ (zs : List ℕ). zs ++ xs) (xors_none xs)
xors-zeros (suc n) [] h = absurd (omega arith)
xors-zeros (suc n) (x ∷ xs) h = ap₂ (λ (z : ℕ) (zs : List ℕ). z ∷ zs) (xor_zero_r x) (xors-zeros n xs (omega arith))

pub xors-first : (v n : ℕ) (xs : List ℕ) → suc n ≤ length xs
    → xors xs (v ∷ replicate n 0) ++ drop (suc n) xs ≡ xors xs (v ∷ []) ++ drop 1 xs
unfolding xors
xors-first v n [] h = absurd (omega arith)
xors-first v n (x ∷ xs) h =
    ap (λ (zs : List ℕ). bit_xor x v ∷ zs) (xors-zeros n xs (omega arith) ∙ sym (ap (λ (zs : List ℕ). zs ++ xs) (xors_none xs)))

-- ---- a string of two parts, and a string's first part

pub xors-append : (xs t ys : List ℕ) → xors (xs ++ t) ys ≡ xors xs ys ++ xors t (drop (length xs) ys)
unfolding xors
xors-append [] t ys = refl
xors-append (x ∷ xs) t [] = sym (xors_none t)
xors-append (x ∷ xs) t (y ∷ ys) = ap (λ (zs : List ℕ). bit_xor x y ∷ zs) (xors-append xs t ys)

pub xors-take : (n : ℕ) (xs ys : List ℕ) → xors xs (take n ys) ≡ take n (xors xs ys)
unfolding xors
xors-take zero xs ys = xors_none xs
xors-take (suc n) [] ys = refl
xors-take (suc n) (x ∷ xs) [] = refl
xors-take (suc n) (x ∷ xs) (y ∷ ys) = ap (λ (zs : List ℕ). bit_xor x y ∷ zs) (xors-take n xs ys)

pub take-xors : (n : ℕ) (xs ys : List ℕ) → xors (take n xs) ys ≡ xors xs (take n ys)
take-xors n xs ys = xors_comm (take n xs) ys ∙ xors-take n ys xs ∙ ap (take n) (xors_comm ys xs) ∙ sym (xors-take n xs ys)

-- ---- what is xored into both of two numbers or strings falls out of their xor; so a xor undoes itself

common : (a b c : Bool) → (a ⊕ b) ⊕ (a ⊕ c) ≡ b ⊕ c
common true true true = refl
common true true false = refl
common true false true = refl
common true false false = refl
common false b c = refl

below_pow : (n : ℕ) → n < 2 ^ n
below_pow zero = lit< tt
below_pow (suc n) = omega (arith, below_pow n, pow-suc 2 n)

pub xor_common : (a b c : ℕ) → bit_xor (bit_xor a b) (bit_xor a c) ≡ bit_xor b c
xor_common a b c =
    let w : ℕ = a + b + c in
    let ha : a < 2 ^ w = lt_of_lt_of_le (below_pow a) (pow_mono (omega arith)) in
    let hb : b < 2 ^ w = lt_of_lt_of_le (below_pow b) (pow_mono (omega arith)) in
    let hc : c < 2 ^ w = lt_of_lt_of_le (below_pow c) (pow_mono (omega arith)) in
    bit_ext w (bit_xor (bit_xor a b) (bit_xor a c)) (bit_xor b c)
    (xor_lt w (bit_xor a b) (bit_xor a c) (xor_lt w a b ha hb) (xor_lt w a c ha hc)) (xor_lt w b c hb hc)
    (λ z l.
    bit-xor (bit_xor a b) (bit_xor a c) z ∙ ap₂ (λ (d e : Bool). d ⊕ e) (bit-xor a b z) (bit-xor a c z)
    ∙ common (bit a z) (bit b z) (bit c z) ∙ sym (bit-xor b c z))

cancel : (a b : Bool) → a ⊕ (a ⊕ b) ≡ b
cancel true true = refl
cancel true false = refl
cancel false b = refl

pub xor_twice : (a b : ℕ) → bit_xor a (bit_xor a b) ≡ b
xor_twice a b =
    let w : ℕ = a + b in
    let ha : a < 2 ^ w = lt_of_lt_of_le (below_pow a) (pow_mono (omega arith)) in
    let hb : b < 2 ^ w = lt_of_lt_of_le (below_pow b) (pow_mono (omega arith)) in
    bit_ext w (bit_xor a (bit_xor a b)) b (xor_lt w a (bit_xor a b) ha (xor_lt w a b ha hb)) hb
    (λ z l. bit-xor a (bit_xor a b) z ∙ ap (λ (c : Bool). bit a z ⊕ c) (bit-xor a b z) ∙ cancel (bit a z) (bit b z))

pub xors_common : (ks xs ys : List ℕ) → length xs ≤ length ks → length ys ≤ length ks → xors (xors ks xs) (xors ks ys) ≡ xors xs ys
unfolding xors
xors_common ks [] ys h l = ap (λ (zs : List ℕ). xors zs (xors ks ys)) (xors_none ks)
xors_common [] (x ∷ xs) ys h l = absurd (omega arith)
xors_common (k ∷ ks) (x ∷ xs) [] h l = refl
xors_common (k ∷ ks) (x ∷ xs) (y ∷ ys) h l =
    ap₂ (λ (z : ℕ) (zs : List ℕ). z ∷ zs) (xor_common k x y) (xors_common ks xs ys (omega arith) (omega arith))

pub xors_twice : (xs ys : List ℕ) → length ys ≤ length xs → xors xs (xors xs ys) ≡ ys
unfolding xors
xors_twice [] [] l = refl
xors_twice [] (y ∷ ys) l = absurd (omega arith)
xors_twice (x ∷ xs) [] l = refl
xors_twice (x ∷ xs) (y ∷ ys) l = ap₂ (λ (z : ℕ) (zs : List ℕ). z ∷ zs) (xor_twice x y) (xors_twice xs ys (omega arith))
