-- Demand 1 for parcels: a refusal reports no rounds, hands the given counter back and leaves the output as it was; a reading that is refused
-- has all fields zero and no parts; an opening that does not answer 0 has written nothing.
-- Assumes nothing.
use Rattle.std.specs.Prelude.{◌≡◌, Bool, false, List, [], ℕ, ◌+◌, eqb, length, take, Ok, Err}
use Rattle.std.proofs.Math.Path.{refl, ap}
use Rattle.std.proofs.Common.{sym}
use Rattle.std.proofs.Math.Bool.{true}
use borrow.Author.Tests.{ne_eqb}
use Rattle.bits.specs.Pick.{pick}
use Rattle.scheme.specs.Scheme.{Scheme, all_count}
use Rattle.isap.specs.Above.{opening_keeps}
use Rattle.parcel.specs.declared.Built.{Built}
use Rattle.parcel.specs.Layout.{nonce_of}
use Rattle.parcel.specs.declared.refusals.Refusal.{Refusal}
use Rattle.parcel.specs.Refusals.{number_of_refusal}
use Rattle.parcel.specs.Reading.{Reading, part, read_of, fields_of, cipher_by, tag_by}
use Rattle.parcel.specs.Building.{refusal, built_of, built_out}
use Rattle.parcel.specs.Opening.{open_by, out_by}
use Rattle.parcel.specs.Statements.{Builds, OpensParcel}

kept : (b : Bool) (n r last : ℕ) → eqb n 0 ≡ b
    → (pick {A = Built} b (record { number = 0; rounds = r; counter = last + 1 }) (record { number = n; rounds = 0; counter = last })).counter
    ≡ pick (eqb (pick {A = Built} b (record { number = 0; rounds = r; counter = last + 1 }) (record { number = n; rounds = 0; counter = last })).number 0) (last + 1) last
kept true n r last e = refl
kept false n r last e = sym (ap (λ (c : Bool). pick c (last + 1) last) e)

module _ (of : ℕ → Scheme) (instance : ℕ) (key : List ℕ) (station last : ℕ) (text out : List ℕ) where
  pub building_refused : (refusal of instance key station last text out ≡ 0 → ⊥)
      → Builds of instance key station last text out (record { number = refusal of instance key station last text out; rounds = 0; counter = last }) out
  unfolding built_of built_out
  building_refused f =
      let no = ne_eqb (refusal of instance key station last text out) 0 f in
      (rw no, rw no)

  -- the counter to keep, from the number alone: for a host in C, which is handed number and rounds
  pub counter_kept : (built_of of instance key station last text out).counter ≡ pick (eqb (built_of of instance key station last text out).number 0) (last + 1) last
  unfolding built_of
  counter_kept = kept (eqb (refusal of instance key station last text out) 0) (refusal of instance key station last text out) (all_count (of instance) true 15 (length text)) last refl

module _ (p : List ℕ) (e : Refusal) (read : read_of p ≡ Err e) where
  pub no_fields : fields_of (read_of p) ≡ record { instance = 0; station = 0; counter = 0; text = 0 }
  unfolding fields_of
  no_fields = ap fields_of read

  pub no_parts : (cipher_by (read_of p) p ≡ []) × (tag_by (read_of p) p ≡ [])
  no_parts = (ap (λ (r : Reading). cipher_by r p) read, ap (λ (r : Reading). tag_by r p) read)

  pub opening_refused : (of : ℕ → Scheme) (key out : List ℕ) → OpensParcel of key p out (record { number = number_of_refusal e; rounds = 0 }) out
  opening_refused of key out = (sym (ap (λ (r : Reading). open_by of r key p out) read), sym (ap (λ (r : Reading). out_by of r key p out) read))

-- and a wrong tag, or a length that isap refuses
pub opening_kept : (of : ℕ → Scheme) (key p out : List ℕ) → ((open_by of (read_of p) key p out).number ≡ 0 → ⊥) → out_by of (read_of p) key p out ≡ out
opening_kept of key p out f = go (read_of p) f
  where
    go : (w : Reading) → ((open_by of w key p out).number ≡ 0 → ⊥) → out_by of w key p out ≡ out
    go (Ok g) f =
        opening_keeps of g.instance key (nonce_of g.station g.counter) (take 15 p) (part 15 g.text p) (part (15 + g.text) 16 p) out f
    go (Err e) f = refl
