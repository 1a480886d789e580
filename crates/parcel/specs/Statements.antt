-- What each public call promises: all that it returns, and the final bytes of every buffer it was lent. A call's `ensures` is one of these;
-- `Determined` shows that two results which one of them allows are equal.
-- Assumes nothing.
use Rattle.std.specs.Prelude.{◌≡◌, List, ℕ, Result, ◌+◌, take}
use Rattle.std.specs.Borrow.{Bor}
use Rattle.scheme.specs.Scheme.{Scheme}
use Rattle.isap.specs.declared.Answer.{Answer}
use Rattle.isap.specs.Whole.{packed}
use Rattle.isap.specs.Statements.{Opens}
use Rattle.parcel.specs.declared.Fields.{Fields}
use Rattle.parcel.specs.declared.Built.{Built}
use Rattle.parcel.specs.Layout.{nonce_of}
use Rattle.parcel.specs.Refusals.{number_of_refusal}
use Rattle.parcel.specs.Building.{built_of, built_out}
use Rattle.parcel.specs.Reading.{Reading, part, read_of, number_of, fields_of, cipher_at, cipher_by, tag_at, tag_by}
use Rattle.parcel.specs.Opening.{open_by, out_by}

-- ---- reading

abbrev pub Reads : (p : List ℕ) → Reading → Type 0
Reads p r = r ≡ read_of p

-- of a reading by reasons of any type, from the number of each
abbrev pub TellsNumber : {R : Type 0} → (R → ℕ) → Result Fields R → ℕ → Type 0
TellsNumber number_is w r = r ≡ number_of number_is w

abbrev pub TellsFields : {R : Type 0} → Result Fields R → Fields → Type 0
TellsFields w r = r ≡ fields_of w

-- the same for a host in C, which is told them of a buffer one by one
abbrev pub NumberInC : (p : List ℕ) → ℕ → Type 0
NumberInC p r = r ≡ number_of number_of_refusal (read_of p)

abbrev pub InstanceInC : (p : List ℕ) → ℕ → Type 0
InstanceInC p r = r ≡ (fields_of (read_of p)).instance

abbrev pub StationInC : (p : List ℕ) → ℕ → Type 0
StationInC p r = r ≡ (fields_of (read_of p)).station

abbrev pub CounterInC : (p : List ℕ) → ℕ → Type 0
CounterInC p r = r ≡ (fields_of (read_of p)).counter

abbrev pub TextInC : (p : List ℕ) → ℕ → Type 0
TextInC p r = r ≡ (fields_of (read_of p)).text

-- r is a part of the buffer p itself: it starts so many bytes behind p's own start, and holds these bytes
pub record IsPart (p r : Bor (List ℕ)) (at : ℕ) (bytes : List ℕ) : Type 0 where
  pub holds : r.now ≡ bytes
  pub starts : r.ref_ptr ≡ (p.ref_ptr.0, at + p.ref_ptr.1)

abbrev pub GivesCipher : (p r : Bor (List ℕ)) → Type 0
GivesCipher p r = IsPart p r (cipher_at (read_of p.now)) (cipher_by (read_of p.now) p.now)

abbrev pub GivesTag : (p r : Bor (List ℕ)) → Type 0
GivesTag p r = IsPart p r (tag_at (read_of p.now)) (tag_by (read_of p.now) p.now)

-- ---- by the schemes of the instances

module _ (of : ℕ → Scheme) where
  abbrev pub Builds : (instance : ℕ) → (key : List ℕ) → (station last : ℕ) → (text out : List ℕ) → Built → (out' : List ℕ) → Type 0
  Builds instance key station last text out r out' =
      (r ≡ built_of of instance key station last text out) × (out' ≡ built_out of instance key station last text out)

  abbrev pub OpensParcel : (key p out : List ℕ) → Answer → (out' : List ℕ) → Type 0
  OpensParcel key p out r out' = (r ≡ open_by of (read_of p) key p out) × (out' ≡ out_by of (read_of p) key p out)

  -- what was read as a whole parcel: isap's statement, of its parts
  abbrev pub OpensWhole : (key : List ℕ) → Fields → (p out : List ℕ) → Answer → (out' : List ℕ) → Type 0
  OpensWhole key f p out r out' =
      Opens of f.instance key (nonce_of f.station f.counter) (take 15 p) (part 15 f.text p) (part (15 + f.text) 16 p) out r out'

  -- the same for a host in C
  abbrev pub BuildsInC : (instance : ℕ) → (key : List ℕ) → (station last : ℕ) → (text out : List ℕ) → ℕ → (out' : List ℕ) → Type 0
  BuildsInC instance key station last text out r out' =
      (r ≡ packed (built_of of instance key station last text out).number (built_of of instance key station last text out).rounds)
      × (out' ≡ built_out of instance key station last text out)

  abbrev pub OpensParcelInC : (key p out : List ℕ) → ℕ → (out' : List ℕ) → Type 0
  OpensParcelInC key p out r out' =
      (r ≡ packed (open_by of (read_of p) key p out).number (open_by of (read_of p) key p out).rounds) × (out' ≡ out_by of (read_of p) key p out)
