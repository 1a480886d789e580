-- The pieces of a parcel put together in the output: ciphertext, then header, then tag.
-- Assumes nothing.
use mathlib.Core.Path.{◌≡◌, sym, ap, ap₂, ◌∙◌}
use mathlib.Core.List.{List, [], ◌++◌, append-nil, append_assoc}
use Prim.Native.Nat.{ℕ, ◌+◌, ◌-◌}
use native.Mathlib.Omega.{arith}
use lib.ListN.{length, take, drop, length-drop, length-append, drop_of_length-le}
use lib.Seq.{take_at, drop_at, length-take-le}

-- ---- the pieces: o is the output before, h header, x ciphertext, t tag

module _ (o h x t : List ℕ) (m : ℕ) (room : length o ≡ m + 31) (hl : length h ≡ 15) (xl : length x ≡ m) (tl : length t ≡ 16) where
  abbrev sealed : List ℕ
  sealed = take 15 o ++ (x ++ drop (15 + m - 15) (drop 15 o))

  abbrev headed : List ℕ
  headed = h ++ drop 15 sealed

  abbrev rest : List ℕ
  rest = drop m (drop 15 o)

  sealed_tail : drop 15 sealed ≡ x ++ rest
  sealed_tail =
      let same : 15 + m - 15 ≡ m = omega arith in
      drop_at (take 15 o) (x ++ drop (15 + m - 15) (drop 15 o)) 15 (length-take-le 15 o (omega arith)) ∙ ap (λ (k : ℕ). x ++ drop k (drop 15 o)) same

  headed_is : headed ≡ (h ++ x) ++ rest
  headed_is = ap (λ (b : List ℕ). h ++ b) sealed_tail ∙ sym (append_assoc h x rest)

  front_long : length (h ++ x) ≡ 15 + m
  front_long = omega (arith, length-append h x)

  rest_long : length rest ≡ 16
  rest_long = omega (arith, length-drop m (drop 15 o), length-drop 15 o)

  -- the header is copied to the front, then the tag to what lies behind the ciphertext
  module _ (copied tagged : List ℕ) (first : copied ≡ h ++ drop 15 sealed) (second : tagged ≡ t) where
    copied_is : copied ≡ (h ++ x) ++ rest
    copied_is = first ∙ headed_is

    front : take (15 + m) copied ≡ h ++ x
    front = ap (take (15 + m)) copied_is ∙ take_at (h ++ x) rest (15 + m) front_long

    back : drop (15 + m) copied ≡ rest
    back = ap (drop (15 + m)) copied_is ∙ drop_at (h ++ x) rest (15 + m) front_long

    left : length copied - (15 + m) ≡ 16
    left = omega (arith, ap length copied_is, length-append (h ++ x) rest, front_long, rest_long)

    none : drop 16 rest ≡ []
    none = drop_of_length-le rest {i = 16} (omega (arith, rest_long))

    pub put_together : take (15 + m) copied ++ (tagged ++ drop (length copied - (15 + m)) (drop (15 + m) copied)) ≡ h ++ x ++ t
    put_together =
        ap₂ (λ (a b : List ℕ). a ++ b) front
        (ap₂ (λ (a b : List ℕ). a ++ b) second (ap₂ (λ (k : ℕ) (r : List ℕ). drop k r) left back ∙ none) ∙ append-nil t)
