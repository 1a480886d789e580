-- The `or` of the xors of two strings' bytes is 0 exactly where the bytes agree; and what it is for a string put over a buffer to agree.
-- Assumes nothing.
use mathlib.Core.Path.{◌≡◌, refl, sym, ap, ap₂, ◌∙◌, subst}
use mathlib.Core.Bool.{Bool, true, false}
use mathlib.Core.List.{List, [], ◌∷◌}
use Prim.Native.Nat.{ℕ, ◌+◌, ◌≤◌, ◌<◌}
use native.Mathlib.Nat.{not-suc-le-zero}
use native.Mathlib.Omega.{arith}
use lib.Dec.{eqb}
use lib.Bits.{bit_or, bit_xor, or_add_and, and_le_l, and_le_r, xor_zero_r, xor_self}
use lib.ListN.{length, get_or, take}
use lib.Seq.{ext_get_or}
use borrow.Author.Count.{below_more}
use borrow.Author.Tests.{eqb-true, eqb-false}
use Rattle.bits.specs.Pick.{pick}
use Rattle.bits.specs.Put.{put_at, put, length-put, put_at_zero}
use Rattle.bits.specs.Xors.{xor_twice}
use Rattle.bits.specs.Strings.{same}
use Rattle.bits.specs.StringLaws.{same_refl, same_true}

or_left : (a b : ℕ) → bit_or a b ≡ 0 → a ≡ 0
or_left a b e = omega (arith, or_add_and a b, and_le_r a b)

or_right : (a b : ℕ) → bit_or a b ≡ 0 → b ≡ 0
or_right a b e = omega (arith, or_add_and a b, and_le_l a b)

xor_none : (a b : ℕ) → bit_xor a b ≡ 0 → a ≡ b
xor_none a b e = sym (xor_zero_r a) ∙ ap (bit_xor a) (sym e) ∙ xor_twice a b

-- d is 0 exactly where the first i bytes agree
pub record Agree (x y : List ℕ) (i d : ℕ) : Type 0 where
  pub seen : d ≡ 0 → (k : ℕ) → k < i → get_or x k 0 ≡ get_or y k 0
  pub none : ((k : ℕ) → k < i → get_or x k 0 ≡ get_or y k 0) → d ≡ 0

pub agree_none : (x y : List ℕ) → Agree x y 0 0
agree_none x y = record { seen = λ e k l. absurd (not-suc-le-zero l); none = λ f. refl }

pub agree_more : {x y : List ℕ} {i d : ℕ} → Agree x y i d → Agree x y (i + 1) (bit_or d (bit_xor (get_or x i 0) (get_or y i 0)))
agree_more {x} {y} {i} {d} a =
    let v = bit_xor (get_or x i 0) (get_or y i 0) in
    record {
      seen = λ e.
          below_more (λ (k : ℕ). get_or x k 0 ≡ get_or y k 0) i (a.seen (or_left d v e)) (xor_none (get_or x i 0) (get_or y i 0) (or_right d v e));
      none = λ f.
          ap₂ bit_or (a.none (λ k l. f k (omega arith))) (ap (λ (n : ℕ). bit_xor n (get_or y i 0)) (f i (omega arith)) ∙ xor_self (get_or y i 0));
    }

agree_same : (x y : List ℕ) (d : ℕ) → length x ≡ length y → Agree x y (length x) d → eqb d 0 ≡ same x y
agree_same x y d long a = go (eqb d 0) refl (same x y) refl
  where
    equal : d ≡ 0 → x ≡ y
    equal e = ext_get_or 0 x y long (a.seen e)

    zero_of : x ≡ y → d ≡ 0
    zero_of e = a.none (λ k l. ap (λ (u : List ℕ). get_or u k 0) e)

    go : (b : Bool) → eqb d 0 ≡ b → (c : Bool) → same x y ≡ c → b ≡ c
    go true e true f = refl
    go false e false f = refl
    go true e false f = sym (ap (same x) (sym (equal (eqb-true d 0 e))) ∙ same_refl x) ∙ f
    go false e true f = absurd (eqb-false d 0 e (zero_of (same_true x y f)))

-- a string put over a buffer's first bytes leaves it as it is exactly if it is those bytes
same-put : (xs s : List ℕ) → length xs ≤ length s → same (put xs s) s ≡ same xs (take (length xs) s)
unfolding put same
same-put [] s h = same_refl s
same-put (x ∷ xs) [] h = absurd (omega arith)
same-put (x ∷ xs) (y ∷ s) h = ap (λ (b : Bool). pick (eqb x y) b false) (same-put xs s (omega arith))

pub agree-front : (n : ℕ) (xs s t : List ℕ) (d : ℕ) → length xs ≡ n → n ≤ length s → t ≡ put_at 0 xs s → Agree t s (length s) d
    → eqb d 0 ≡ same xs (take n s)
agree-front n xs s t d long room e a =
    let p : t ≡ put xs s = e ∙ put_at_zero xs s in
    let small : length xs ≤ length s = omega arith in
    let whole : length t ≡ length s = ap length p ∙ length-put xs s small in
    agree_same t s d whole (subst (λ (k : ℕ). Agree t s k d) (sym whole) a)
    ∙ ap (λ (u : List ℕ). same u s) p ∙ same-put xs s small ∙ ap (λ (k : ℕ). same xs (take k s)) long
