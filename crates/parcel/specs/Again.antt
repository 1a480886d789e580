-- A parcel that was read and opened, built again from its fields, its key, the opened text and the counter before: the same bytes.
-- Assumes nothing.
use Rattle.std.specs.Prelude.{◌≡◌, ℕ, ◌+◌, ◌-◌, ◌≤◌, ◌<◌, length, Ok}
use Rattle.std.proofs.Math.Path.{sym, ap, ap₂}
use Rattle.std.proofs.Common.{◌∙◌, subst}
use Rattle.std.proofs.Math.Bool.{true}
use mathlib.Core.List.{List, ◌++◌}
use native.Mathlib.Omega.{arith}
use Rattle.std.proofs.Math.ListN.{take}
use Rattle.std.proofs.Math.Seq.{take-add}
use borrow.Author.Tests.{eq-eqb}
use Rattle.bits.specs.Bytes.{Bytes, bytes_take, bytes_drop}
use Rattle.bits.specs.Part.{length_part}
use Rattle.scheme.specs.Machine.{Sealed}
use Rattle.scheme.specs.Scheme.{Scheme, all_count}
use Rattle.scheme.specs.Lawful.{LawfulScheme}
use Rattle.instances.specs.Schemes.{known}
use Rattle.isap.specs.Whole.{open_of, open_out}
use Rattle.isap.specs.Above.{opened-fits, sealed-back, opened_long}
use Rattle.parcel.specs.declared.Fields.{Fields}
use Rattle.parcel.specs.Layout.{header_of, nonce_of, parcel_of}
use Rattle.parcel.specs.Lengths.{nonce_bytes}
use Rattle.parcel.specs.Headers.{fields_small, fields_header}
use Rattle.parcel.specs.Building.{next_fields, refusal, sealed_under, built_of, built_out, CanBuild}
use Rattle.parcel.specs.Fits.{builds_when}
use Rattle.parcel.specs.Reading.{Reading, part, read_of}
use Rattle.parcel.specs.Wholes.{IsWhole, is_whole, body_there, text_carried}
use Rattle.parcel.specs.Opening.{open_by, out_by}
use Rattle.parcel.specs.Statements.{Builds}

module _ (of : ℕ → Scheme) (laws : (i : ℕ) → LawfulScheme (of i)) (p : List ℕ) (f : Fields) (read : read_of p ≡ Ok f) (bytes : Bytes p)
    (key buffer : List ℕ) (keys : Bytes key) (well : (open_by of (read_of p) key p buffer).number ≡ 0)
    (counter : f.counter ≡ 0 → ⊥) (out : List ℕ) (long : length out ≡ f.text + 31) where
  abbrev opened : List ℕ
  opened = out_by of (read_of p) key p buffer

  abbrev nonce : List ℕ
  nonce = nonce_of f.station f.counter

  abbrev header : List ℕ
  header = take 15 p

  abbrev cipher : List ℕ
  cipher = part 15 f.text p

  abbrev tag : List ℕ
  tag = part (15 + f.text) 16 p

  abbrev text : List ℕ
  text = open_out of f.instance key nonce header cipher tag buffer

  there : 31 + f.text ≤ length p
  there = body_there p f read

  whole : IsWhole p f
  whole = is_whole p f read

  opened_is : opened ≡ text
  opened_is = ap (λ (w : Reading). out_by of w key p buffer) read

  ended : (open_of of f.instance key nonce header cipher tag buffer).number ≡ 0
  ended = subst (λ (w : Reading). (open_by of w key p buffer).number ≡ 0) read well

  nonces : Bytes nonce
  nonces = nonce_bytes f.station f.counter

  sealed : (of f.instance).seal key nonce header text ≡ record { cipher = cipher; tag = tag }
  sealed =
      sealed-back of laws f.instance key nonce header cipher tag buffer ended keys nonces (bytes_take 15 bytes) (bytes_take f.text (bytes_drop 15 bytes))
      (bytes_take 16 (bytes_drop (15 + f.text) bytes))

  text_long_lem : length opened ≡ f.text
  text_long_lem =
      ap length opened_is
      ∙ opened_long of laws f.instance key nonce header cipher tag buffer ended keys nonces (bytes_take 15 bytes) (bytes_take f.text (bytes_drop 15 bytes))
      (bytes_take 16 (bytes_drop (15 + f.text) bytes))
      ∙ length_part p 15 f.text (omega (arith, there))

  header_is : header_of f ≡ header
  header_is = ap header_of (sym whole.same) ∙ fields_header p bytes (omega (arith, there)) whole.is_marked

  counter_back : f.counter - 1 + 1 ≡ f.counter
  counter_back = omega (arith, counter)

  fields_is : next_fields f.instance f.station (f.counter - 1) opened ≡ f
  fields_is = λ i. record { instance = f.instance; station = f.station; counter = counter_back i; text = text_long_lem i }

  can : CanBuild of f.instance (length key) (length opened) (length out)
  can =
      record {
        is_known = subst (λ (g : Fields). known g.instance ≡ true) whole.same whole.is_known;
        key_long = (opened-fits of laws f.instance key nonce header cipher tag buffer ended).key_long;
        text_limit = omega (arith, text_long_lem, text_carried p f read);
        out_long = omega (arith, text_long_lem);
      }

  none : refusal of f.instance key f.station (f.counter - 1) opened out ≡ 0
  none =
      let small : f.counter < 18446744073709551616 = subst (λ (g : Fields). g.counter < 18446744073709551616) whole.same (fields_small p bytes (omega (arith, there))).counter in
      builds_when of f.instance (length key) (length opened) (length out) (f.counter - 1) can (λ e. omega (arith, e, small))

  sealed_is : sealed_under of f key opened ≡ record { cipher = cipher; tag = tag }
  unfolding sealed_under
  sealed_is = ap₂ (λ (h t : List ℕ). (of f.instance).seal key nonce h t) header_is opened_is ∙ sealed

  bytes_are : parcel_of f (sealed_under of f key opened) ≡ take (31 + f.text) p
  unfolding parcel_of
  bytes_are =
      let all : 31 + f.text ≡ 15 + f.text + 16 = omega arith in
      ap₂ (λ (h : List ℕ) (s : Sealed). h ++ s.cipher ++ s.tag) header_is sealed_is
      ∙ sym (ap (λ (n : ℕ). take n p) all ∙ take-add (15 + f.text) 16 p ∙ ap (λ (r : List ℕ). r ++ tag) (take-add 15 f.text p))

  pub rebuilt : Builds of f.instance key f.station (f.counter - 1) opened out
      (record { number = 0; rounds = all_count (of f.instance) true 15 f.text; counter = f.counter }) (take (31 + f.text) p)
  unfolding built_of built_out
  rebuilt =
      let yes = eq-eqb (refusal of f.instance key f.station (f.counter - 1) opened out) 0 none in (
        rw yes (sym (λ i. record { number = 0; rounds = all_count (of f.instance) true 15 (text_long_lem i); counter = counter_back i })),
        sym bytes_are ∙ ap (λ (g : Fields). parcel_of g (sealed_under of g key opened)) (sym fields_is) ∙ rw yes,
      )
