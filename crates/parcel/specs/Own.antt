-- Reading, the parts and opening depend on the parcel's own bytes alone: not on what follows them in the buffer.
-- Assumes nothing.
use Rattle.std.specs.Prelude.{◌≡◌, refl, ◌⊎◌, Bool, true, false, ◌&&◌, List, ℕ, ◌+◌, ◌≤◌, ◌<◌, leb, length, get_or, Ok, Err}
use Rattle.std.proofs.Common.{sym, ap, ◌∙◌, subst, arith, length-take, get_or-take, leb-true, le-leb}
use Rattle.std.proofs.Math.Path.{ap₂}
use Rattle.std.proofs.Math.Logic.{inl, inr}
use Rattle.std.proofs.Math.Dec.{eqb}
use Rattle.std.proofs.Math.ListN.{take}
use Rattle.bits.specs.BigEndian.{from_be}
use Rattle.bits.specs.Part.{part-take}
use Rattle.scheme.specs.Scheme.{Scheme}
use Rattle.instances.specs.Schemes.{known}
use Rattle.isap.specs.declared.Answer.{Answer}
use Rattle.isap.specs.Whole.{open_of, open_out}
use Rattle.parcel.specs.declared.refusals.Refusal.TheVariants.{UnknownInstance, TextTooLong, WrongMark, CutShort}
use Rattle.parcel.specs.declared.Fields.{Fields}
use Rattle.parcel.specs.declared.refusals.Refusal.{Refusal}
use Rattle.parcel.specs.Layout.{mark, nonce_of, most_carried}
use Rattle.parcel.specs.Reading.{Reading, part, marked, fields_in, unless, read_of}
use Rattle.parcel.specs.Wholes.{is_whole, reads_whole, body_there}
use Rattle.parcel.specs.Opening.{open_by, out_by}
use Rattle.parcel.specs.Statements.{OpensParcel}

-- two buffers whose first k bytes are the same
module _ (p q : List ℕ) (k : ℕ) (same : take k q ≡ take k p) where
  same-part : (at count : ℕ) → at + count ≤ k → part at count q ≡ part at count p
  same-part at count h = sym (part-take q at count k h) ∙ ap (part at count) same ∙ part-take p at count k h

  same_byte : (i : ℕ) → i < k → get_or q i 0 ≡ get_or p i 0
  same_byte i h = sym (get_or-take k q i 0 h) ∙ ap (λ (s : List ℕ). get_or s i 0) same ∙ get_or-take k p i 0 h

  same-mark : 2 ≤ k → marked q ≡ marked p
  unfolding marked
  same-mark h = ap₂ (λ (a b : ℕ). eqb a (get_or mark 0 0) && eqb b (get_or mark 1 0)) (same_byte 0 (omega arith)) (same_byte 1 (omega arith))

  same_fields : 15 ≤ k → fields_in q ≡ fields_in p
  unfolding fields_in
  same_fields h = λ i.
      record {
        instance = from_be (same-part 2 1 (omega arith) i);
        station = from_be (same-part 3 2 (omega arith) i);
        counter = from_be (same-part 5 8 (omega arith) i);
        text = from_be (same-part 13 2 (omega arith) i);
      }

  long_too : k ≤ length p → k ≤ length q
  long_too h = omega (arith, ap length same, length-take k q, length-take k p)

-- ---- a whole parcel, and any buffer that begins with its bytes

module _ (p q : List ℕ) (f : Fields) (read : read_of p ≡ Ok f) (same : take (31 + f.text) q ≡ take (31 + f.text) p) where
  pub own_bytes : read_of q ≡ Ok f
  own_bytes =
      let h = is_whole p f read in
      let fields = same_fields p q (31 + f.text) same (omega arith) in
      reads_whole q f
      (record {
        is_marked = same-mark p q (31 + f.text) same (omega arith) ∙ h.is_marked;
        is_known = ap (λ (g : Fields). known g.instance) fields ∙ h.is_known;
        text_limit = subst (λ (g : Fields). g.text ≤ most_carried) (sym fields) h.text_limit;
        there = subst (λ (g : Fields). 31 + g.text ≤ length q) (sym (fields ∙ h.same)) (long_too p q (31 + f.text) same (body_there p f read));
        same = fields ∙ h.same;
      })

  pub own_cipher : part 15 f.text q ≡ part 15 f.text p
  own_cipher = same-part p q (31 + f.text) same 15 f.text (omega arith)

  pub own_tag : part (15 + f.text) 16 q ≡ part (15 + f.text) 16 p
  own_tag = same-part p q (31 + f.text) same (15 + f.text) 16 (omega arith)

  own_header : take 15 q ≡ take 15 p
  own_header = same-part p q (31 + f.text) same 0 15 (omega arith)

  -- whoever opens the one gets what opening the other gives
  pub own_opening : (of : ℕ → Scheme) (key out : List ℕ) (r : Answer) (out' : List ℕ) → OpensParcel of key p out r out' → OpensParcel of key q out r out'
  own_opening of key out r out' h = (h.0 ∙ answers, h.1 ∙ writes)
    where
      answers : open_by of (read_of p) key p out ≡ open_by of (read_of q) key q out
      answers =
          ap (λ (w : Reading). open_by of w key p out) read
          ∙ sym (ap (λ (w : Reading). open_by of w key q out) own_bytes ∙ (λ i. open_of of f.instance key (nonce_of f.station f.counter) (own_header i) (own_cipher i) (own_tag i) out))

      writes : out_by of (read_of p) key p out ≡ out_by of (read_of q) key q out
      writes =
          ap (λ (w : Reading). out_by of w key p out) read
          ∙ sym (ap (λ (w : Reading). out_by of w key q out) own_bytes ∙ (λ i. open_out of f.instance key (nonce_of f.station f.counter) (own_header i) (own_cipher i) (own_tag i) out))

-- ---- a refusal other than 14 depends on the bytes that were looked at: the mark, or the header

-- the first test that fails: the mark's, the instance's, the limit's
abbrev Why : (a b c d e : Bool) (r : Refusal) → Type 0
Why a b c d e r =
    ((a ≡ true) × (b ≡ false) × (WrongMark ≡ r)) ⊎ (((a ≡ true) × (b ≡ true) × (c ≡ true)) × (((d ≡ false) × (UnknownInstance ≡ r)) ⊎ ((d ≡ true) × (e ≡ false) × (TextTooLong ≡ r))))

why : (a b c d e g : Bool) (f : Fields) (r : Refusal) → (r ≡ CutShort → ⊥) → unless a CutShort (unless b WrongMark (unless c CutShort (unless d UnknownInstance (unless e TextTooLong (unless g CutShort (Ok f)))))) ≡ Err r
    → Why a b c d e r
why true false c d e g f r h q = inl (refl, refl, cc)
why true true true false e g f r h q = inr ((refl, refl, refl), inl (refl, cc))
why true true true true false g f r h q = inr ((refl, refl, refl), inr (refl, refl, cc))
why false b c d e g f r h q = absurd (h (cc))
why true true false d e g f r h q = absurd (h (cc))
why true true true true true false f r h q = absurd (h (cc))
why true true true true true true f r h q = absurd (cc)

module _ (p q : List ℕ) where
  longer : (k : ℕ) → leb k (length p) ≡ true → take k q ≡ take k p → leb k (length q) ≡ true
  longer k e same = le-leb k (length q) (long_too p q k same (leb-true k (length p) e))

  pub wrong_mark_alone : read_of p ≡ Err WrongMark → take 2 q ≡ take 2 p → read_of q ≡ Err WrongMark
  unfolding read_of
  wrong_mark_alone r same =
      by_cause
      (why (leb 2 (length p)) (marked p) (leb 15 (length p)) (known (fields_in p).instance) (leb (fields_in p).text most_carried) (leb (31 + (fields_in p).text) (length p)) (fields_in p) WrongMark
      (λ e. cc) r)
    where
      by_cause : Why (leb 2 (length p)) (marked p) (leb 15 (length p)) (known (fields_in p).instance) (leb (fields_in p).text most_carried) WrongMark → read_of q ≡ Err WrongMark
      by_cause (inl t) = rw (longer 2 t.0 same, same-mark p q 2 same (omega arith) ∙ t.1)
      by_cause (inr (t, inl u)) = absurd (let e = u.1 in cc)
      by_cause (inr (t, inr u)) = absurd (let e = u.2 in cc)

  pub header_alone : (e : Refusal) → (e ≡ CutShort → ⊥) → read_of p ≡ Err e → take 15 q ≡ take 15 p → read_of q ≡ Err e
  unfolding read_of
  header_alone e h r same =
      by_cause
      (why (leb 2 (length p)) (marked p) (leb 15 (length p)) (known (fields_in p).instance) (leb (fields_in p).text most_carried) (leb (31 + (fields_in p).text) (length p)) (fields_in p) e h r)
    where
      two : take 2 q ≡ take 2 p
      two = same-part p q 15 same 0 2 (omega arith)

      mark-same : marked q ≡ marked p
      mark-same = same-mark p q 15 same (omega arith)

      fields : fields_in q ≡ fields_in p
      fields = same_fields p q 15 same (omega arith)

      by_cause : Why (leb 2 (length p)) (marked p) (leb 15 (length p)) (known (fields_in p).instance) (leb (fields_in p).text most_carried) e → read_of q ≡ Err e
      by_cause (inl t) = rw (longer 2 t.0 two, mark-same ∙ t.1) (ap Err t.2)
      by_cause (inr (t, inl u)) = rw (longer 2 t.0 two, mark-same ∙ t.1, longer 15 t.2 same, fields, u.0) (ap Err u.1)
      by_cause (inr (t, inr u)) = rw (longer 2 t.0 two, mark-same ∙ t.1, longer 15 t.2 same, fields, u.0, u.1) (ap Err u.2)
