-- A building that is not refused: everything has its length, and isap's sealing of its parts is not refused either.
-- Assumes nothing.
use Rattle.std.specs.Prelude.{◌≡◌, Bool, false, List, ℕ, ◌+◌, eqb, leb, length, replicate}
use Rattle.std.proofs.Math.Path.{refl}
use Rattle.std.proofs.Common.{subst, arith}
use Rattle.std.proofs.Math.Bool.{true}
use borrow.Author.Tests.{eqb-true, eqb-false, leb-true, eq-eqb, ne_eqb, le-leb}
use Rattle.bits.specs.Pick.{pick}
use Rattle.scheme.specs.Scheme.{Scheme, all_count}
use Rattle.scheme.specs.Lawful.{LawfulScheme}
use Rattle.instances.specs.Schemes.{known}
use Rattle.isap.specs.declared.Answer.{Answer}
use Rattle.isap.specs.Whole.{refusal_for}
use Rattle.isap.specs.Above.{none_refused, sealed_well, sealed_long}
use Rattle.isap.specs.Statements.{Seals}
use Rattle.parcel.specs.declared.Fields.{Fields}
use Rattle.parcel.specs.Layout.{header_of, nonce_of, most_carried, most_counter}
use Rattle.parcel.specs.Lengths.{header_long, nonce_long_lem}
use Rattle.parcel.specs.Building.{build_refusal, sealed_under, CanBuild}

-- ---- what the refusals leave, and the other way round

built_by : (a b c d e : Bool) → ◌≡◌ {A = ℕ} (pick a (pick b (pick c (pick d (pick e 13 0) 6) 5) 2) 1) 0
    → (a ≡ true) × (b ≡ true) × (c ≡ true) × (d ≡ true) × (e ≡ false)
built_by true true true true false q = (refl, refl, refl, refl, refl)
built_by true true true true true q = absurd (omega (arith, q))
built_by true true true false e q = absurd (omega (arith, q))
built_by true true false d e q = absurd (omega (arith, q))
built_by true false c d e q = absurd (omega (arith, q))
built_by false b c d e q = absurd (omega (arith, q))

module _ (of : ℕ → Scheme) where
  pub can_build : (instance key m out last : ℕ) → build_refusal of instance key m out last ≡ 0 → (CanBuild of instance key m out) × (last ≡ most_counter → ⊥)
  unfolding build_refusal
  can_build instance key m out last q =
      let t = built_by (known instance) (eqb key (of instance).key_bytes) (leb m most_carried) (eqb out (m + 31)) (eqb last most_counter) q in
      (record { is_known = t.0; key_long = eqb-true _ _ t.1; text_limit = leb-true _ _ t.2; out_long = eqb-true _ _ t.3 }, eqb-false last most_counter t.4)

  pub builds_when : (instance key m out last : ℕ) → CanBuild of instance key m out → (last ≡ most_counter → ⊥) → build_refusal of instance key m out last ≡ 0
  unfolding build_refusal
  builds_when instance key m out last c n =
      rw (
        c.is_known,
        eq-eqb key (of instance).key_bytes c.key_long,
        le-leb m most_carried c.text_limit,
        eq-eqb out (m + 31) c.out_long,
        ne_eqb last most_counter n,
      )

-- ---- the sealing of its parts

module _ (of : ℕ → Scheme) (laws : (i : ℕ) → LawfulScheme (of i)) (f : Fields) (key text : List ℕ) (o : ℕ) (can : CanBuild of f.instance (length key) (length text) o) where
  abbrev nonce : List ℕ
  nonce = nonce_of f.station f.counter

  pub not_refused : (out tag : List ℕ) → length out ≡ length text → length tag ≡ 16 → refusal_for of f.instance key nonce (header_of f) text out tag ≡ 0
  not_refused out tag ol tl =
      none_refused of f.instance key nonce (header_of f) text out tag can.is_known can.key_long (nonce_long_lem f.station f.counter)
      (omega (arith, header_long f)) (omega (arith, can.text_limit)) ol tl

  parts_long : (length (sealed_under of f key text).cipher ≡ length text) × (length (sealed_under of f key text).tag ≡ 16)
  unfolding sealed_under
  parts_long = sealed_long of laws f.instance key nonce (header_of f) text text (replicate 16 0) (not_refused text (replicate 16 0) refl refl)

  pub cipher_long_lem : length (sealed_under of f key text).cipher ≡ length text
  cipher_long_lem = parts_long.0

  pub tag_long_lem : length (sealed_under of f key text).tag ≡ 16
  tag_long_lem = parts_long.1

  pub sealed-parts : (out tag : List ℕ) → length out ≡ length text → length tag ≡ 16 → (r : Answer) (out' tag' : List ℕ)
      → Seals of f.instance key nonce (header_of f) text out tag r out' tag'
      → (r ≡ record { number = 0; rounds = all_count (of f.instance) true 15 (length text) }) × (out' ≡ (sealed_under of f key text).cipher) × (tag' ≡ (sealed_under of f key text).tag)
  unfolding sealed_under
  sealed-parts out tag ol tl r out' tag' h =
      let w = sealed_well of f.instance key nonce (header_of f) text out tag (not_refused out tag ol tl) r out' tag' h in
      (subst (λ (k : ℕ). r ≡ record { number = 0; rounds = all_count (of f.instance) true k (length text) }) (header_long f) w.0, w.1, w.2)
