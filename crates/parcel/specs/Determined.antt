-- Two results that a public call's statement allows are equal; and what a host in C takes apart again.
-- Assumes nothing.
use Rattle.std.specs.Prelude.{◌≡◌, Bool, List, ℕ, Result, ◌+◌, ◌/◌, ◌%◌, ◌≤◌, ◌<◌, eqb, leb, length, take, Ok, Err}
use Rattle.std.proofs.Common.{sym, ◌∙◌}
use Rattle.std.proofs.Math.Path.{ap}
use Rattle.std.proofs.Math.Bool.{true, false}
use native.Mathlib.Omega.{arith}
use Rattle.std.specs.Borrow.{Bor}
use Rattle.bits.specs.Pick.{pick}
use Rattle.scheme.specs.Scheme.{Scheme, all_count}
use Rattle.instances.specs.Schemes.{known}
use Rattle.isap.specs.declared.Answer.{Answer}
use Rattle.isap.specs.Whole.{packed}
use Rattle.isap.specs.Determined as isap
use Rattle.isap.specs.Determined.{packed-number, packed-rounds}
use Rattle.parcel.specs.declared.refusals.Refusal.TheVariants.{UnknownInstance, TextTooLong, WrongMark, CutShort}
use Rattle.parcel.specs.declared.Built.{Built}
use Rattle.parcel.specs.declared.Fields.{Fields}
use Rattle.parcel.specs.Layout.{nonce_of, most_carried, most_counter}
use Rattle.parcel.specs.Refusals.{number_of_refusal}
use Rattle.parcel.specs.Reading.{Reading, part, marked, fields_in, unless, read_of, number_of}
use Rattle.parcel.specs.Building.{build_refusal, refusal, built_of}
use Rattle.parcel.specs.Opening.{open_by, out_by}
use Rattle.parcel.specs.Statements.{Reads, TellsNumber, TellsFields, NumberInC, InstanceInC, StationInC, CounterInC, TextInC, IsPart, GivesCipher, GivesTag, Builds, OpensParcel, BuildsInC, OpensParcelInC}

pub one_reading : (p : List ℕ) (r r' : Reading) → Reads p r → Reads p r' → r ≡ r'
one_reading p r r' h k = h ∙ sym k

-- the same bytes, at the same place
one_part : (p r r' : Bor (List ℕ)) (at : ℕ) (bytes : List ℕ) → IsPart p r at bytes → IsPart p r' at bytes → (r.now ≡ r'.now) × (r.ref_ptr ≡ r'.ref_ptr)
one_part p r r' at bytes h k = (h.holds ∙ sym k.holds, h.starts ∙ sym k.starts)

pub one_cipher : (p r r' : Bor (List ℕ)) → GivesCipher p r → GivesCipher p r' → (r.now ≡ r'.now) × (r.ref_ptr ≡ r'.ref_ptr)
one_cipher p r r' h k = one_part p r r' _ _ h k

pub one_tag : (p r r' : Bor (List ℕ)) → GivesTag p r → GivesTag p r' → (r.now ≡ r'.now) × (r.ref_ptr ≡ r'.ref_ptr)
one_tag p r r' h k = one_part p r r' _ _ h k

-- of what `read` gave, or of any reading like it
pub one_number : {R : Type 0} (number_is : R → ℕ) (w : Result Fields R) (r r' : ℕ) → TellsNumber number_is w r → TellsNumber number_is w r' → r ≡ r'
one_number number_is w r r' h k = h ∙ sym k

pub one_fields : {R : Type 0} (w : Result Fields R) (r r' : Fields) → TellsFields w r → TellsFields w r' → r ≡ r'
one_fields w r r' h k = h ∙ sym k

-- of what a host in C is told of a buffer
module _ (p : List ℕ) (r r' : ℕ) where
  pub one_number_in_c : NumberInC p r → NumberInC p r' → r ≡ r'
  one_number_in_c h k = h ∙ sym k

  pub one_instance_in_c : InstanceInC p r → InstanceInC p r' → r ≡ r'
  one_instance_in_c h k = h ∙ sym k

  pub one_station_in_c : StationInC p r → StationInC p r' → r ≡ r'
  one_station_in_c h k = h ∙ sym k

  pub one_counter_in_c : CounterInC p r → CounterInC p r' → r ≡ r'
  one_counter_in_c h k = h ∙ sym k

  pub one_text_in_c : TextInC p r → TextInC p r' → r ≡ r'
  one_text_in_c h k = h ∙ sym k

module _ (of : ℕ → Scheme) where
  module _ (instance : ℕ) (key : List ℕ) (station last : ℕ) (text out : List ℕ) where
    pub one_building : (r r' : Built) (o o' : List ℕ) → Builds of instance key station last text out r o → Builds of instance key station last text out r' o' → (r ≡ r') × (o ≡ o')
    one_building r r' o o' h k = (h.0 ∙ sym k.0, h.1 ∙ sym k.1)

    pub one_building_in_c : (r r' : ℕ) (o o' : List ℕ) → BuildsInC of instance key station last text out r o → BuildsInC of instance key station last text out r' o' → (r ≡ r') × (o ≡ o')
    one_building_in_c r r' o o' h k = (h.0 ∙ sym k.0, h.1 ∙ sym k.1)

  module _ (key p out : List ℕ) where
    pub one_opening : (r r' : Answer) (o o' : List ℕ) → OpensParcel of key p out r o → OpensParcel of key p out r' o' → (r ≡ r') × (o ≡ o')
    one_opening r r' o o' h k = (h.0 ∙ sym k.0, h.1 ∙ sym k.1)

    pub one_opening_in_c : (r r' : ℕ) (o o' : List ℕ) → OpensParcelInC of key p out r o → OpensParcelInC of key p out r' o' → (r ≡ r') × (o ≡ o')
    one_opening_in_c r r' o o' h k = (h.0 ∙ sym k.0, h.1 ∙ sym k.1)

-- ---- a packed answer taken apart: every number is small

told_by : (a b c d e g : Bool) (f : Fields) → number_of number_of_refusal (unless a CutShort (unless b WrongMark (unless c CutShort (unless d UnknownInstance (unless e TextTooLong (unless g CutShort (Ok f))))))) ≤ 14
unfolding number_of
told_by true true true true true true f = omega arith
told_by true true true true true false f = omega arith
told_by true true true true false g f = omega arith
told_by true true true false e g f = omega arith
told_by true true false d e g f = omega arith
told_by true false c d e g f = omega arith
told_by false b c d e g f = omega arith

pub reading_small : (p : List ℕ) → number_of number_of_refusal (read_of p) ≤ 14
unfolding read_of
reading_small p =
    told_by (leb 2 (length p)) (marked p) (leb 15 (length p)) (known (fields_in p).instance) (leb (fields_in p).text most_carried) (leb (31 + (fields_in p).text) (length p)) (fields_in p)

refused_by : (a b c d e : Bool) → pick {A = ℕ} a (pick b (pick c (pick d (pick e 13 0) 6) 5) 2) 1 ≤ 13
refused_by true true true true true = omega arith
refused_by true true true true false = omega arith
refused_by true true true false e = omega arith
refused_by true true false d e = omega arith
refused_by true false c d e = omega arith
refused_by false b c d e = omega arith

module _ (of : ℕ → Scheme) where
  module _ (instance : ℕ) (key : List ℕ) (station last : ℕ) (text out : List ℕ) where
    refusal_small : refusal of instance key station last text out ≤ 13
    unfolding build_refusal
    refusal_small = refused_by (known instance) (eqb (length key) (of instance).key_bytes) (leb (length text) most_carried) (eqb (length out) (length text + 31)) (eqb last most_counter)

    built_small : (built_of of instance key station last text out).number ≤ 13
    unfolding built_of
    built_small = go (eqb (refusal of instance key station last text out) 0) (all_count (of instance) true 15 (length text))
      where
        go : (b : Bool) (r : ℕ)
            → (pick {A = Built} b (record { number = 0; rounds = r; counter = last + 1 }) (record { number = refusal of instance key station last text out; rounds = 0; counter = last })).number ≤ 13
        go true r = omega arith
        go false r = refusal_small

    pub building_number : (r : ℕ) (o : List ℕ) → BuildsInC of instance key station last text out r o
        → (r % 4294967296 ≡ (built_of of instance key station last text out).number) × (r / 4294967296 ≡ (built_of of instance key station last text out).rounds)
    building_number r o h =
        let n = (built_of of instance key station last text out).number in
        let k = (built_of of instance key station last text out).rounds in
        let small : n < 4294967296 = omega (arith, built_small) in
        (ap (λ (q : ℕ). q % 4294967296) h.0 ∙ packed-number n k small, ap (λ (q : ℕ). q / 4294967296) h.0 ∙ packed-rounds n k small)

  -- of a whole parcel the answer is isap's, and so are its number and rounds
  pub opening_number : (key p out : List ℕ) (r : ℕ) (o : List ℕ) → OpensParcelInC of key p out r o
      → (r % 4294967296 ≡ (open_by of (read_of p) key p out).number) × (r / 4294967296 ≡ (open_by of (read_of p) key p out).rounds)
  unfolding number_of
  opening_number key p out r o h = go (read_of p) (reading_small p) h
    where
      go : (w : Reading) → number_of number_of_refusal w ≤ 14
          → (r ≡ packed (open_by of w key p out).number (open_by of w key p out).rounds) × (o ≡ out_by of w key p out)
          → (r % 4294967296 ≡ (open_by of w key p out).number) × (r / 4294967296 ≡ (open_by of w key p out).rounds)
      go (Ok f) s h =
          isap.opening_number of f.instance key (nonce_of f.station f.counter) (take 15 p) (part 15 f.text p) out (part (15 + f.text) 16 p) r o h
      go (Err e) s h =
          let n = number_of_refusal e in
          let small : n < 4294967296 = omega (arith, s) in
          (ap (λ (q : ℕ). q % 4294967296) h.0 ∙ packed-number n 0 small, ap (λ (q : ℕ). q / 4294967296) h.0 ∙ packed-rounds n 0 small)
