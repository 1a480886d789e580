-- What was built reads back to its fields, and opens under its key to its text, whatever follows it in the buffer.
-- Assumes nothing.
use Rattle.std.specs.Prelude.{◌≡◌, refl, true, false, ℕ, ◌+◌, ◌≤◌, ◌<◌, replicate, take, Ok}
use Rattle.std.proofs.Common.{sym, ◌∙◌, subst, arith, drop_at, eq-eqb}
use Rattle.std.proofs.Math.Path.{ap}
use mathlib.Core.List.{List, ◌++◌, append_assoc}
use Rattle.std.proofs.Math.ListN.{length, length-append}
use Rattle.std.proofs.lemmas.List.{length-replicate}
use Rattle.std.proofs.Math.Seq.{take_at}
use Rattle.bits.specs.Bytes.{Bytes}
use Rattle.scheme.specs.Machine.{Sealed}
use Rattle.scheme.specs.Scheme.{Scheme, all_count}
use Rattle.scheme.specs.Lawful.{LawfulScheme}
use Rattle.instances.specs.Schemes.{known, known_byte}
use Rattle.isap.specs.Whole.{seal_of, seal_out, seal_tag, open_of, open_out}
use Rattle.isap.specs.Statements.{Opens}
use Rattle.isap.specs.Promises.{message_back}
use Rattle.parcel.specs.declared.Fields.{Fields}
use Rattle.parcel.specs.Layout.{header_of, nonce_of, parcel_of, most_carried}
use Rattle.parcel.specs.Lengths.{header_long, header_bytes, nonce_bytes}
use Rattle.parcel.specs.Headers.{InBytes, header_marked, header_fields}
use Rattle.parcel.specs.Building.{next_fields, refusal, sealed_under, built_out, CanBuild}
use Rattle.parcel.specs.Fits.{can_build, cipher_long_lem, tag_long_lem, not_refused, sealed-parts}
use Rattle.parcel.specs.Reading.{Reading, part, marked, fields_in, read_of}
use Rattle.parcel.specs.Wholes.{reads_whole}
use Rattle.parcel.specs.Opening.{open_by, out_by}
use Rattle.parcel.specs.Statements.{OpensParcel}

-- ---- a parcel's parts stand where they are read

module _ (f : Fields) (s : Sealed) (cipher : length s.cipher ≡ f.text) (tag : length s.tag ≡ 16) (rest : List ℕ) where
  abbrev p : List ℕ
  p = parcel_of f s ++ rest

  behind : p ≡ header_of f ++ (s.cipher ++ (s.tag ++ rest))
  unfolding parcel_of
  behind = append_assoc (header_of f ++ s.cipher) s.tag rest ∙ append_assoc (header_of f) s.cipher (s.tag ++ rest)

  pub header_part : take 15 p ≡ header_of f
  header_part = ap (take 15) behind ∙ take_at (header_of f) (s.cipher ++ (s.tag ++ rest)) 15 (header_long f)

  pub cipher-part : part 15 f.text p ≡ s.cipher
  cipher-part =
      ap (part 15 f.text) behind ∙ ap (take f.text) (drop_at (header_of f) (s.cipher ++ (s.tag ++ rest)) 15 (header_long f))
      ∙ take_at s.cipher (s.tag ++ rest) f.text cipher

  pub tag_part : part (15 + f.text) 16 p ≡ s.tag
  unfolding parcel_of
  tag_part =
      let front : length (header_of f ++ s.cipher) ≡ 15 + f.text = omega (arith, length-append (header_of f) s.cipher, header_long f) in
      ap (part (15 + f.text) 16) (append_assoc (header_of f ++ s.cipher) s.tag rest)
      ∙ ap (take 16) (drop_at (header_of f ++ s.cipher) (s.tag ++ rest) (15 + f.text) front) ∙ take_at s.tag rest 16 tag

  parcel_long : 31 + f.text ≤ length p
  parcel_long =
      omega (arith, ap length behind, length-append (header_of f) (s.cipher ++ (s.tag ++ rest)), length-append s.cipher (s.tag ++ rest), length-append s.tag rest, header_long f)

  pub parcel-reads : known f.instance ≡ true → f.text ≤ most_carried → InBytes f → read_of p ≡ Ok f
  parcel-reads k t b =
      let fields : fields_in p ≡ f = ap fields_in behind ∙ header_fields f (s.cipher ++ (s.tag ++ rest)) b in
      reads_whole p f
      (record {
        is_marked = ap marked behind ∙ header_marked f (s.cipher ++ (s.tag ++ rest));
        is_known = ap (λ (g : Fields). known g.instance) fields ∙ k;
        text_limit = subst (λ (g : Fields). g.text ≤ most_carried) (sym fields) t;
        there = subst (λ (g : Fields). 31 + g.text ≤ length p) (sym fields) parcel_long;
        same = fields;
      })

-- ---- built, then read and opened

module _ (of : ℕ → Scheme) (laws : (i : ℕ) → LawfulScheme (of i)) (instance : ℕ) (key : List ℕ) (station last : ℕ) (text out : List ℕ)
    (none : refusal of instance key station last text out ≡ 0) (rest : List ℕ) where
  abbrev f : Fields
  f = next_fields instance station last text

  abbrev s : Sealed
  s = sealed_under of f key text

  can : CanBuild of instance (length key) (length text) (length out)
  can = (can_build of instance (length key) (length text) (length out) last none).0

  built_is : built_out of instance key station last text out ≡ parcel_of f s
  unfolding built_out
  built_is = rw (eq-eqb (refusal of instance key station last text out) 0 none)

  -- where its ciphertext stands
  pub built_cipher : part 15 (length text) (built_out of instance key station last text out ++ rest) ≡ s.cipher
  built_cipher =
      ap (λ (b : List ℕ). part 15 (length text) (b ++ rest)) built_is
      ∙ cipher-part f s (cipher_long_lem of laws f key text (length out) can) (tag_long_lem of laws f key text (length out) can) rest

  module _ (stations : station < 65536) (counters : last < 18446744073709551616) where
    pub built_reads : read_of (built_out of instance key station last text out ++ rest) ≡ Ok f
    built_reads =
        let c = cipher_long_lem of laws f key text (length out) can in
        let t = tag_long_lem of laws f key text (length out) can in
        ap (λ (b : List ℕ). read_of (b ++ rest)) built_is
        ∙ parcel-reads f s c t rest can.is_known can.text_limit
        (record {
          instance = known_byte instance can.is_known;
          station = stations;
          counter = omega (arith, (can_build of instance (length key) (length text) (length out) last none).1);
          text = omega (arith, can.text_limit);
        })

    module _ (room : (i : ℕ) → (of i).n ≤ 64) (keys : Bytes key) (texts : Bytes text) (buffer : List ℕ) (long : length buffer ≡ length text) where
      abbrev nonce : List ℕ
      nonce = nonce_of station (last + 1)

      -- isap's round trip, of the parcel's parts
      opens : Opens of instance key nonce (header_of f) s.cipher s.tag buffer (record { number = 0; rounds = all_count (of instance) false 15 (length text) }) text
      opens =
          let o : List ℕ = replicate (length text) 0 in
          let t : List ℕ = replicate 16 0 in
          let ol : length o ≡ length text = length-replicate (length text) 0 in
          let h = header_of f in
          let parts =
          sealed-parts of laws f key text (length out) can o t ol refl
          (seal_of of instance key nonce h text o t) (seal_out of instance key nonce h text o t) (seal_tag of instance key nonce h text o t) (refl, refl, refl) in
          let back =
          message_back of laws room instance key nonce h text o t (not_refused of laws f key text (length out) can o t ol refl)
          keys (nonce_bytes station (last + 1)) (header_bytes f) texts buffer long in (
            sym (ap (λ (a : ℕ). record { number = 0; rounds = all_count (of instance) false a (length text) }) (header_long f))
                ∙ back.0 ∙ (λ i. open_of of instance key nonce h (parts.1 i) (parts.2 i) buffer),
            back.1 ∙ (λ i. open_out of instance key nonce h (parts.1 i) (parts.2 i) buffer),
          )

      pub built_opens : OpensParcel of key (built_out of instance key station last text out ++ rest) buffer (record { number = 0; rounds = all_count (of instance) false 15 (length text) }) text
      built_opens =
          let q = built_out of instance key station last text out ++ rest in
          let c = cipher_long_lem of laws f key text (length out) can in
          let t = tag_long_lem of laws f key text (length out) can in
          let same = ap (λ (b : List ℕ). b ++ rest) built_is in
          let header : take 15 q ≡ header_of f = ap (take 15) same ∙ header_part f s c t rest in
          let tag : part (15 + length text) 16 q ≡ s.tag = ap (part (15 + length text) 16) same ∙ tag_part f s c t rest in (
            opens.0 ∙ sym (ap (λ (w : Reading). open_by of w key q buffer) built_reads ∙ (λ i. open_of of instance key nonce (header i) (built_cipher i) (tag i) buffer)),
            opens.1 ∙ sym (ap (λ (w : Reading). out_by of w key q buffer) built_reads ∙ (λ i. open_out of instance key nonce (header i) (built_cipher i) (tag i) buffer)),
          )
