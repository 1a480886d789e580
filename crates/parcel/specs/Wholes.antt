-- What a reading says of the bytes: a whole parcel exactly when mark, instance, text length and body are all there.
-- Assumes nothing.
use Rattle.std.specs.Prelude.{◌≡◌, refl, Bool, true, false, List, ℕ, ◌+◌, ◌≤◌, leb, length, Ok, Err}
use Rattle.std.proofs.Common.{ap, subst, arith, leb-true, le-leb}
use Rattle.instances.specs.Schemes.{known}
use Rattle.parcel.specs.declared.refusals.Refusal.TheVariants.{UnknownInstance, TextTooLong, WrongMark, CutShort}
use Rattle.parcel.specs.declared.Fields.{Fields}
use Rattle.parcel.specs.declared.refusals.Refusal.{Refusal}
use Rattle.parcel.specs.Layout.{most_carried}
use Rattle.parcel.specs.Reading.{Reading, marked, fields_in, unless, read_of}

pub record IsWhole (p : List ℕ) (f : Fields) : Type 0 where
  pub is_marked : marked p ≡ true
  pub is_known : known (fields_in p).instance ≡ true
  pub text_limit : (fields_in p).text ≤ most_carried
  pub there : 31 + (fields_in p).text ≤ length p
  pub same : fields_in p ≡ f

-- ---- a whole parcel, both ways

no : {e : Refusal} {f : Fields} → ◌≡◌ {A = Reading} (Err e) (Ok f) → ⊥
no q = cc

passed : (a b c d e g : Bool) (r f : Fields) → unless a CutShort (unless b WrongMark (unless c CutShort (unless d UnknownInstance (unless e TextTooLong (unless g CutShort (Ok r)))))) ≡ Ok f
    → (b ≡ true) × (d ≡ true) × (e ≡ true) × (g ≡ true) × (r ≡ f)
passed true true true true true true r f q = (refl, refl, refl, refl, cc)
passed true true true true true false r f q = absurd (no q)
passed true true true true false g r f q = absurd (no q)
passed true true true false e g r f q = absurd (no q)
passed true true false d e g r f q = absurd (no q)
passed true false c d e g r f q = absurd (no q)
passed false b c d e g r f q = absurd (no q)

pub is_whole : (p : List ℕ) (f : Fields) → read_of p ≡ Ok f → IsWhole p f
unfolding read_of
is_whole p f q =
    let t = passed (leb 2 (length p)) (marked p) (leb 15 (length p)) (known (fields_in p).instance) (leb (fields_in p).text most_carried) (leb (31 + (fields_in p).text) (length p)) (fields_in p) f q in
    record { is_marked = t.0; is_known = t.1; text_limit = leb-true _ _ t.2; there = leb-true _ _ t.3; same = t.4 }

pub reads_whole : (p : List ℕ) (f : Fields) → IsWhole p f → read_of p ≡ Ok f
unfolding read_of
reads_whole p f h =
    rw (
      le-leb 2 (length p) (omega (arith, h.there)),
      h.is_marked,
      le-leb 15 (length p) (omega (arith, h.there)),
      h.is_known,
      le-leb (fields_in p).text most_carried h.text_limit,
      le-leb (31 + (fields_in p).text) (length p) h.there,
    )
    (ap Ok h.same)

-- the body is there, and no text is longer than a parcel carries
pub body_there : (p : List ℕ) (f : Fields) → read_of p ≡ Ok f → 31 + f.text ≤ length p
body_there p f q = let h = is_whole p f q in subst (λ (g : Fields). 31 + g.text ≤ length p) h.same h.there

pub text_carried : (p : List ℕ) (f : Fields) → read_of p ≡ Ok f → f.text ≤ most_carried
text_carried p f q = let h = is_whole p f q in subst (λ (g : Fields). g.text ≤ most_carried) h.same h.text_limit
