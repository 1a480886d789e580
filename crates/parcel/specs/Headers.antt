-- A header read back gives the fields it was made of, and the header of the fields that were read is what was read.
-- Assumes nothing.
use Rattle.std.specs.Prelude.{◌≡◌, refl, true, ℕ, ◌+◌, ◌^◌, ◌≤◌, ◌<◌, length, get_or, take}
use Rattle.std.proofs.Math.Path.{sym, ap, ap₂}
use Rattle.std.proofs.Common.{◌∙◌, subst, mod-eq_of_lt, arith, take-add, eqb-true}
use mathlib.Core.List.{List, [], ◌∷◌, ◌++◌}
use Rattle.std.proofs.Math.Dec.{eqb}
use Rattle.bits.specs.Every.{and_left, and_right}
use Rattle.bits.specs.Bytes.{Bytes, bytes_take, bytes_drop}
use Rattle.bits.specs.BigEndian.{be_bytes, from_be, from_be-be_bytes, be_bytes-from_be, from_be_lt}
use Rattle.bits.specs.Part.{part-elems, length_part}
use Rattle.parcel.specs.declared.Fields.{Fields}
use Rattle.parcel.specs.Layout.{mark, header_of, nonce_of}
use Rattle.parcel.specs.Reading.{part, marked, fields_in}

-- ---- fields, header, fields

-- each field fits its bytes
pub record InBytes (f : Fields) : Type 0 where
  pub instance : f.instance < 256
  pub station : f.station < 65536
  pub counter : f.counter < 18446744073709551616
  pub text : f.text < 65536

told : (n x : ℕ) → x < 256 ^ n → from_be (be_bytes n x) ≡ x
told n x h = from_be-be_bytes n x ∙ mod-eq_of_lt h

pub header_marked : (f : Fields) (x : List ℕ) → marked (header_of f ++ x) ≡ true
unfolding marked header_of be_bytes
header_marked f x = refl

pub header_fields : (f : Fields) (x : List ℕ) → InBytes f → fields_in (header_of f ++ x) ≡ f
unfolding fields_in header_of be_bytes
header_fields f x h = λ i.
    record {
      instance = told 1 f.instance h.instance i;
      station = told 2 f.station h.station i;
      counter = told 8 f.counter h.counter i;
      text = told 2 f.text h.text i;
    }

-- ---- bytes, fields, bytes

module _ (p : List ℕ) (bytes : Bytes p) where
  again : (at count : ℕ) → at + count ≤ length p → be_bytes count (from_be (part at count p)) ≡ part at count p
  again at count h =
      subst (λ (n : ℕ). be_bytes n (from_be (part at count p)) ≡ part at count p) (length_part p at count h)
      (be_bytes-from_be (part at count p) (bytes_take count (bytes_drop at bytes)))

  small : (at count : ℕ) → at + count ≤ length p → from_be (part at count p) < 256 ^ count
  small at count h =
      subst (λ (n : ℕ). from_be (part at count p) < 256 ^ n) (length_part p at count h) (from_be_lt (part at count p) (bytes_take count (bytes_drop at bytes)))

  pub fields_small : 15 ≤ length p → InBytes (fields_in p)
  unfolding fields_in
  fields_small h =
      record { instance = small 2 1 (omega arith); station = small 3 2 (omega arith); counter = small 5 8 (omega arith); text = small 13 2 (omega arith) }

  marks : 2 ≤ length p → marked p ≡ true → take 2 p ≡ mark
  unfolding marked
  marks h e =
      let first = eqb (get_or p 0 0) (get_or mark 0 0) in
      let second = eqb (get_or p 1 0) (get_or mark 1 0) in
      part-elems p 0 1 h
      ∙ ap₂ (λ (a b : ℕ). a ∷ b ∷ []) (eqb-true (get_or p 0 0) (get_or mark 0 0) (and_left first second e)) (eqb-true (get_or p 1 0) (get_or mark 1 0) (and_right first second e))

  pub fields_header : 15 ≤ length p → marked p ≡ true → header_of (fields_in p) ≡ take 15 p
  unfolding header_of fields_in
  fields_header h e =
      ap₂ (λ (a b : List ℕ). a ++ b)
      (ap₂ (λ (a b : List ℕ). a ++ b) (ap₂ (λ (a b : List ℕ). a ++ b) (ap₂ (λ (a b : List ℕ). a ++ b) (sym (marks (omega arith) e)) (again 2 1 (omega arith))) (again 3 2 (omega arith))) (again 5 8 (omega arith)))
      (again 13 2 (omega arith))
      ∙ sym
      (take-add 13 2 p
      ∙ ap (λ (s : List ℕ). s ++ part 13 2 p)
      (take-add 5 8 p ∙ ap (λ (s : List ℕ). s ++ part 5 8 p) (take-add 3 2 p ∙ ap (λ (s : List ℕ). s ++ part 3 2 p) (take-add 2 1 p))))

-- ---- no two pairs of station and counter share a nonce

pub nonce_once : (s c s' c' : ℕ) → s < 65536 → c < 18446744073709551616 → s' < 65536 → c' < 18446744073709551616
    → nonce_of s c ≡ nonce_of s' c' → (s ≡ s') × (c ≡ c')
unfolding nonce_of be_bytes
nonce_once s c s' c' hs hc hs' hc' e = (
  sym (told 2 s hs) ∙ ap (λ (n : List ℕ). from_be (part 0 2 n)) e ∙ told 2 s' hs',
  sym (told 8 c hc) ∙ ap (λ (n : List ℕ). from_be (part 2 8 n)) e ∙ told 8 c' hc',
)
