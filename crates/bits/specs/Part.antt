-- A part of a list, element by element, as straight code reads it and writes it: `s[at]`, `s[at + 1]`, ..
-- On a number of elements that is written out, `elems` and `stored` compute to the reads and the stores themselves.
-- Assumes nothing.
use Rattle.std.specs.Prelude.{◌≡◌, refl, List, [], ◌∷◌, ◌++◌, ℕ, zero, suc, ◌+◌, ◌*◌, ◌≤◌, length, get_or, set, take, drop}
use Rattle.std.proofs.Common.{sym, ap, ap₂, ◌∙◌, add-suc, zero-mul, suc-mul, add-zero, le_trans, le-add_right, not-suc-le-zero, arith, length-append, length-drop, length-take-le, drop-cons, take-add, take_at, drop-drop, take-take, append_assoc}
use Rattle.std.proofs.lemmas.List.Edits.{sets, sets-eq}
use Rattle.std.proofs.Math.Seq.{drop-append-add}

-- ---- reads

-- the n elements from place at + j on
abbrev pub elems : List ℕ → (at j n : ℕ) → List ℕ
elems s at j zero = []
elems s at j (suc n) = get_or s (at + j) 0 ∷ elems s at (suc j) n

part : (s : List ℕ) (at j n : ℕ) → at + j + n ≤ length s → take n (drop (at + j) s) ≡ elems s at j n
part s at j zero h = refl
part s at j (suc n) h =
    ap (take (suc n)) (drop-cons s (at + j) 0 (omega arith))
    ∙ ap (λ (r : List ℕ). get_or s (at + j) 0 ∷ r) (ap (λ (m : ℕ). take n (drop m s)) (sym (add-suc at j)) ∙ part s at (suc j) n (omega arith))

-- the first at its own place, and the others counted from it
pub part-elems : (s : List ℕ) (at n : ℕ) → at + suc n ≤ length s → take (suc n) (drop at s) ≡ get_or s at 0 ∷ elems s at 1 n
part-elems s at n h =
    ap (λ (m : ℕ). take (suc n) (drop m s)) (sym (add-zero at)) ∙ part s at 0 (suc n) (omega arith)
    ∙ ap (λ (m : ℕ). get_or s m 0 ∷ elems s at 1 n) (add-zero at)

pub length_part : (s : List ℕ) (at n : ℕ) → at + n ≤ length s → length (take n (drop at s)) ≡ n
length_part s at n h = length-take-le n (drop at s) (omega (arith, length-drop at s))

-- ---- stores

-- the elements of vs stored from place at + j on
abbrev pub stored : List ℕ → (at j : ℕ) → List ℕ → List ℕ
stored s at j [] = s
stored s at j (v ∷ vs) = stored (set s (at + j) v) at (suc j) vs

stored_sets : (vs s : List ℕ) (at j : ℕ) → stored s at j vs ≡ sets s (at + j) vs
stored_sets [] s at j = refl
stored_sets (v ∷ vs) s at j = stored_sets vs (set s (at + j) v) at (suc j) ∙ ap (λ (m : ℕ). sets (set s (at + j) v) m vs) (add-suc at j)

pub stored-part : (s : List ℕ) (at v : ℕ) (vs : List ℕ) → at + suc (length vs) ≤ length s
    → stored (set s at v) at 1 vs ≡ take at s ++ ((v ∷ vs) ++ drop (at + suc (length vs)) s)
stored-part s at v vs h =
    ap (λ (m : ℕ). stored (set s m v) at 1 vs) (sym (add-zero at)) ∙ stored_sets (v ∷ vs) s at 0 ∙ ap (λ (m : ℕ). sets s m (v ∷ vs)) (add-zero at)
    ∙ sets-eq (v ∷ vs) s at h ∙ append_assoc (take at s) (v ∷ vs) (drop (at + suc (length vs)) s)

-- parts written one behind the other from the front: p stands already, and v goes behind it
pub written_next : (p v s : List ℕ) (at n : ℕ) → length p ≡ at
    → take at (p ++ drop at s) ++ (v ++ drop (at + n) (p ++ drop at s)) ≡ (p ++ v) ++ drop (at + n) s
written_next p v s at n e =
    ap (λ (r : List ℕ). r ++ (v ++ drop (at + n) (p ++ drop at s))) (take_at p (drop at s) at e)
    ∙ ap (λ (r : List ℕ). p ++ (v ++ r)) (ap (λ (m : ℕ). drop (m + n) (p ++ drop at s)) (sym e) ∙ drop-append-add p (drop at s) n ∙ drop-drop n at s)
    ∙ sym (append_assoc p v (drop (at + n) s))

-- t is s with its first elements replaced by p, which is as long as what it replaces
pub record Written (p : List ℕ) (at : ℕ) (t s : List ℕ) : Type 0 where
  pub is : t ≡ p ++ drop at s
  pub long : length p ≡ at

pub written_none : (s : List ℕ) → Written [] 0 s s
written_none s = record { is = refl; long = refl }

pub written_more : {p : List ℕ} {at : ℕ} {t s : List ℕ} → Written p at t s → (v : List ℕ) (n : ℕ) → length v ≡ n
    → {u : List ℕ} → u ≡ take at t ++ (v ++ drop (at + n) t) → Written (p ++ v) (at + n) u s
written_more {p} {at} {t} {s} w v n l e =
    record {
      is = e ∙ ap (λ (r : List ℕ). take at r ++ (v ++ drop (at + n) r)) w.is ∙ written_next p v s at n w.long;
      long = length-append p v ∙ ap₂ (λ (x y : ℕ). x + y) w.long l;
    }

-- ---- a part that lies in the first k elements is a part of those

pub part-take : (s : List ℕ) (m n k : ℕ) → m + n ≤ k → take n (drop m (take k s)) ≡ take n (drop m s)
part-take s zero n k h = take-take n k s (omega arith)
part-take s (suc m) n zero h = absurd (not-suc-le-zero (le_trans (le-add_right (suc m) n) h))
part-take [] (suc m) n (suc k) h = refl
part-take (x ∷ s) (suc m) n (suc k) h = part-take s m n k (omega arith)

-- ---- k parts of m elements, one behind the other, are the first k * m

unfoldable pub parts : (k m : ℕ) → List ℕ → List ℕ
parts zero m s = []
parts (suc k) m s = parts k m s ++ take m (drop (k * m) s)

pub parts-take : (k m : ℕ) (s : List ℕ) → parts k m s ≡ take (k * m) s
unfolding parts
parts-take zero m s = ap (λ (n : ℕ). take n s) (sym (zero-mul m))
parts-take (suc k) m s =
    ap (λ (r : List ℕ). r ++ take m (drop (k * m) s)) (parts-take k m s) ∙ sym (take-add (k * m) m s) ∙ ap (λ (n : ℕ). take n s) (sym (suc-mul k m))
