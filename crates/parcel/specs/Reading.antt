-- What reading a parcel at the start of a buffer gives: the refusals 14, 12, 14, 1, 5, 14 in this order, else its fields; and the parts.
-- Assumes nothing.
use Rattle.std.specs.Prelude.{Bool, ◌&&◌, List, [], ℕ, Result, ◌+◌, eqb, leb, length, get_or, take, drop, Ok, Err}
use Rattle.bits.specs.Pick.{pick}
use Rattle.bits.specs.BigEndian.{from_be}
use Rattle.instances.specs.Schemes.{known}
use Rattle.parcel.specs.declared.refusals.Refusal.TheVariants.{UnknownInstance, TextTooLong, WrongMark, CutShort}
use Rattle.parcel.specs.declared.Fields.{Fields}
use Rattle.parcel.specs.declared.refusals.Refusal.{Refusal}
use Rattle.parcel.specs.Layout.{mark, most_carried}

-- the fields of a whole parcel, or why there is none
abbrev pub Reading : Type 0
Reading = Result Fields Refusal

-- so many bytes from a place on
abbrev pub part : (at count : ℕ) → List ℕ → List ℕ
part at count p = take count (drop at p)

-- the mark's two bytes are there
unfoldable pub marked : List ℕ → Bool
marked p = eqb (get_or p 0 0) (get_or mark 0 0) && eqb (get_or p 1 0) (get_or mark 1 0)

unfoldable pub fields_in : List ℕ → Fields
fields_in p =
    record {
      instance = from_be (part 2 1 p);
      station = from_be (part 3 2 p);
      counter = from_be (part 5 8 p);
      text = from_be (part 13 2 p);
    }

-- refused unless a test holds
abbrev pub unless : Bool → Refusal → Reading → Reading
unless b e r = pick b r (Err e)

unfoldable pub read_of : List ℕ → Reading
read_of p =
    unless (leb 2 (length p)) CutShort
    (unless (marked p) WrongMark
    (unless (leb 15 (length p)) CutShort
    (unless (known (fields_in p).instance) UnknownInstance
    (unless (leb (fields_in p).text most_carried) TextTooLong
    (unless (leb (31 + (fields_in p).text) (length p)) CutShort
    (Ok (fields_in p)))))))

-- ---- number and fields of each case, whatever type of reasons with numbers a reading has

unfoldable pub number_of : {R : Type 0} → (R → ℕ) → Result Fields R → ℕ
number_of number_is (Ok f) = 0
number_of number_is (Err e) = number_is e

unfoldable pub fields_of : {R : Type 0} → Result Fields R → Fields
fields_of (Ok f) = f
fields_of (Err e) = record { instance = 0; station = 0; counter = 0; text = 0 }

-- ---- ciphertext and tag of a buffer that was read so: where each starts, and its bytes

abbrev pub cipher_at : Reading → ℕ
cipher_at (Ok f) = 15
cipher_at (Err e) = 0

abbrev pub cipher_by : Reading → List ℕ → List ℕ
cipher_by (Ok f) p = part 15 f.text p
cipher_by (Err e) p = []

abbrev pub tag_at : Reading → ℕ
tag_at (Ok f) = 15 + f.text
tag_at (Err e) = 0

abbrev pub tag_by : Reading → List ℕ → List ℕ
tag_by (Ok f) p = part (15 + f.text) 16 p
tag_by (Err e) p = []
