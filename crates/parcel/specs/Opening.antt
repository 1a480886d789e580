-- What opening a parcel gives: the number of its reading if that is a refusal, else isap's whole call on its parts.
-- Assumes nothing.
use Rattle.std.specs.Prelude.{List, ℕ, ◌+◌, take, Ok, Err}
use Rattle.scheme.specs.Scheme.{Scheme}
use Rattle.isap.specs.declared.Answer.{Answer}
use Rattle.isap.specs.Whole.{open_of, open_out}
use Rattle.parcel.specs.Layout.{nonce_of}
use Rattle.parcel.specs.Refusals.{number_of_refusal}
use Rattle.parcel.specs.Reading.{Reading, part}

module _ (of : ℕ → Scheme) where
  abbrev pub open_by : Reading → (key p out : List ℕ) → Answer
  open_by (Ok f) key p out =
      open_of of f.instance key (nonce_of f.station f.counter) (take 15 p) (part 15 f.text p) (part (15 + f.text) 16 p) out
  open_by (Err e) key p out = record { number = number_of_refusal e; rounds = 0 }

  abbrev pub out_by : Reading → (key p out : List ℕ) → List ℕ
  out_by (Ok f) key p out =
      open_out of f.instance key (nonce_of f.station f.counter) (take 15 p) (part 15 f.text p) (part (15 + f.text) 16 p) out
  out_by (Err e) key p out = out
