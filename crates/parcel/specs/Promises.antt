-- The round trips of every instance, in the words of what the calls promise: any result that a statement allows is the one named.
-- Assumes nothing.
use Rattle.std.specs.Prelude.{◌≡◌, refl, Bool, true, false, List, ◌++◌, ℕ, ◌+◌, ◌-◌, ◌<◌, eqb, length, take, Ok}
use Rattle.std.proofs.Common.{sym, ◌∙◌, subst, eqb-true, eq-eqb}
use Rattle.std.proofs.Math.Path.{ap}
use Rattle.std.proofs.lemmas.Bool.{eqb-false}
use Rattle.bits.specs.Pick.{pick}
use Rattle.bits.specs.Bytes.{Bytes}
use Rattle.scheme.specs.Scheme.{all_count}
use Rattle.instances.specs.Schemes.{scheme_of, lawful-scheme, scheme-fits, key_bytes_lem}
use Rattle.isap.specs.declared.Answer.{Answer}
use Rattle.parcel.specs.declared.Fields.{Fields}
use Rattle.parcel.specs.declared.Built.{Built}
use Rattle.parcel.specs.Building.{next_fields, refusal, sealed_under, built_of, built_out}
use Rattle.parcel.specs.Fits.{can_build}
use Rattle.parcel.specs.Reading.{Reading, read_of, cipher_by}
use Rattle.parcel.specs.Back.{built_reads, built_cipher, built_opens}
use Rattle.parcel.specs.Again.{rebuilt}
use Rattle.parcel.specs.Determined.{one_building, one_opening}
use Rattle.parcel.specs.Statements.{Reads, Builds, OpensParcel}

well_by : (b : Bool) (n r last : ℕ) → eqb n 0 ≡ b
    → (pick {A = Built} b (record { number = 0; rounds = r; counter = last + 1 }) (record { number = n; rounds = 0; counter = last })).number ≡ 0 → n ≡ 0
well_by true n r last e h = eqb-true n 0 e
well_by false n r last e h = absurd (eqb-false n 0 e h)

-- a building that answered 0 was not refused
pub taken : (instance : ℕ) (key : List ℕ) (station last : ℕ) (text out : List ℕ) → (built_of scheme_of instance key station last text out).number ≡ 0
    → refusal scheme_of instance key station last text out ≡ 0
unfolding built_of
taken instance key station last text out well =
    let n = refusal scheme_of instance key station last text out in
    well_by (eqb n 0) n (all_count (scheme_of instance) true 15 (length text)) last refl well

-- ---- what was built reads back to its fields and opens to its text

module _ (instance : ℕ) (key : List ℕ) (station last : ℕ) (text out : List ℕ) (stations : station < 65536) (counters : last < 18446744073709551616)
    (r : Built) (out' : List ℕ) (built : Builds scheme_of instance key station last text out r out') (well : r.number ≡ 0) (rest : List ℕ) where
  none : refusal scheme_of instance key station last text out ≡ 0
  none = taken instance key station last text out (ap (λ (b : Built). b.number) (sym built.0) ∙ well)

  pub counter_next : r.counter ≡ last + 1
  unfolding built_of
  counter_next = ap (λ (b : Built). b.counter) built.0 ∙ rw (eq-eqb (refusal scheme_of instance key station last text out) 0 none)

  pub parcel_read : (w : Reading) → Reads (out' ++ rest) w → w ≡ Ok (record { instance = instance; station = station; counter = r.counter; text = length text })
  parcel_read w h =
      h ∙ ap (λ (p : List ℕ). read_of (p ++ rest)) built.1 ∙ built_reads scheme_of lawful-scheme instance key station last text out none rest stations counters
      ∙ (λ i. Ok (record { instance = instance; station = station; counter = sym counter_next i; text = length text }))

  -- the ciphertext that is read of it is the algorithm's, under the nonce of station and counter
  pub parcel-cipher : cipher_by (read_of (out' ++ rest)) (out' ++ rest) ≡ (sealed_under scheme_of (next_fields instance station last text) key text).cipher
  parcel-cipher =
      let f = next_fields instance station last text in
      ap (λ (p : List ℕ). cipher_by (read_of (p ++ rest)) (p ++ rest)) built.1
      ∙ ap (λ (w : Reading). cipher_by w (built_out scheme_of instance key station last text out ++ rest))
      (built_reads scheme_of lawful-scheme instance key station last text out none rest stations counters)
      ∙ built_cipher scheme_of lawful-scheme instance key station last text out none rest

  pub parcel_key : length key ≡ 16
  parcel_key = (can_build scheme_of instance (length key) (length text) (length out) last none).0.key_long ∙ key_bytes_lem instance

  pub parcel-opened : Bytes key → Bytes text → (buffer : List ℕ) → length buffer ≡ length text → (a : Answer) (o : List ℕ) → OpensParcel scheme_of key (out' ++ rest) buffer a o
      → (a ≡ record { number = 0; rounds = all_count (scheme_of instance) false 15 (length text) }) × (o ≡ text)
  parcel-opened keys texts buffer long a o h =
      let all : Answer = record { number = 0; rounds = all_count (scheme_of instance) false 15 (length text) } in
      one_opening scheme_of key (out' ++ rest) buffer a all o text h
      (subst (λ (p : List ℕ). OpensParcel scheme_of key (p ++ rest) buffer all text) (sym built.1)
      (built_opens scheme_of lawful-scheme instance key station last text out none rest stations counters scheme-fits keys texts buffer long))

-- ---- what was read and opened is built again to the same bytes

module _ (p : List ℕ) (bytes : Bytes p) (f : Fields) (read : Reads p (Ok f)) (key buffer : List ℕ) (keys : Bytes key)
    (a : Answer) (o : List ℕ) (opened : OpensParcel scheme_of key p buffer a o) (well : a.number ≡ 0) (counter : f.counter ≡ 0 → ⊥)
    (out : List ℕ) (long : length out ≡ f.text + 31) where
  pub parcel_again : (r : Built) (out' : List ℕ) → Builds scheme_of f.instance key f.station (f.counter - 1) o out r out'
      → (r ≡ record { number = 0; rounds = all_count (scheme_of f.instance) true 15 f.text; counter = f.counter }) × (out' ≡ take (31 + f.text) p)
  parcel_again r out' h =
      let all : Built = record { number = 0; rounds = all_count (scheme_of f.instance) true 15 f.text; counter = f.counter } in
      one_building scheme_of f.instance key f.station (f.counter - 1) o out r all out' (take (31 + f.text) p) h
      (subst (λ (t : List ℕ). Builds scheme_of f.instance key f.station (f.counter - 1) t out all (take (31 + f.text) p)) (sym opened.1)
      (rebuilt scheme_of lawful-scheme p f (sym read) bytes key buffer keys (ap (λ (q : Answer). q.number) (sym opened.0) ∙ well) counter out long))
