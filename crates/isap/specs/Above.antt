-- What a library above goes by: what no whole call refuses; what a sealing then gives; that an opening which answered 0 has given the text
-- whose sealing is exactly what was opened, and with any other answer has left its output as it was.
-- Assumes nothing.
use Rattle.std.specs.Prelude.{◌≡◌, refl, Bool, false, List, ℕ, ◌≤◌, eqb, length}
use Rattle.std.proofs.Common.{sym, ◌∙◌, arith}
use Rattle.std.proofs.Math.Path.{ap}
use Rattle.std.proofs.Math.Bool.{true}
use borrow.Author.Tests.{eqb-true, eqb-false, eq-eqb, le-leb}
use Rattle.bits.specs.Pick.{pick}
use Rattle.bits.specs.Bytes.{Bytes}
use Rattle.scheme.specs.Machine.{Sealed, Opened, Opened.plaintext, Opened.refused}
use Rattle.scheme.specs.Scheme.{Scheme, all_count}
use Rattle.scheme.specs.Lawful.{LawfulScheme}
use Rattle.instances.specs.Schemes.{known}
use Rattle.instances.specs.Limits.{most_assoc, most_text}
use Rattle.isap.specs.declared.Answer.{Answer}
use Rattle.isap.specs.Beginnings.{limits_refusal}
use Rattle.isap.specs.Whole.{refusal_for, answered, seal_of, seal_out, seal_tag, opened_answer, opened_out, open_of, open_out}
use Rattle.isap.specs.Statements.{Seals}
use Rattle.isap.specs.Fits.{Fits, fits, unrefused}

-- the answer 0 is no refusal's
answered_well : (refusal : ℕ) (r : Answer) → (answered refusal r).number ≡ 0 → (refusal ≡ 0) × (r.number ≡ 0)
answered_well refusal r e = go (eqb refusal 0) refl e
  where
    go : (b : Bool) → eqb refusal 0 ≡ b → (pick b r (record { number = refusal; rounds = 0 })).number ≡ 0 → (refusal ≡ 0) × (r.number ≡ 0)
    go true q e = (eqb-true refusal 0 q, e)
    go false q e = absurd (eqb-false refusal 0 q e)

opened_well : (s : Scheme) (a m : ℕ) (u : Opened) (out : List ℕ) → (opened_answer s a m u).number ≡ 0 → u ≡ plaintext (opened_out u out)
unfolding opened_answer opened_out
opened_well s a m (plaintext t) out e = refl
opened_well s a m refused out e = absurd (omega (arith, e))

kept : (b : Bool) (s : Scheme) (a m : ℕ) (u : Opened) (refusal : ℕ) (out : List ℕ)
    → ((pick b (opened_answer s a m u) (record { number = refusal; rounds = 0 })).number ≡ 0 → ⊥) → pick b (opened_out u out) out ≡ out
unfolding opened_answer opened_out
kept false s a m u refusal out f = refl
kept true s a m refused refusal out f = refl
kept true s a m (plaintext t) refusal out f = absurd (f refl)

module _ (of : ℕ → Scheme) where
  -- everything within its limits and of its length
  pub none_refused : (instance : ℕ) (key nonce assoc text out tag : List ℕ) → known instance ≡ true → length key ≡ (of instance).key_bytes → length nonce ≡ 16
      → length assoc ≤ most_assoc → length text ≤ most_text → length out ≡ length text → length tag ≡ 16 → refusal_for of instance key nonce assoc text out tag ≡ 0
  unfolding limits_refusal
  none_refused instance key nonce assoc text out tag i k n ha hm o t =
      unrefused of instance key nonce assoc text out tag
      (rw (i, eq-eqb (length key) (of instance).key_bytes k, eq-eqb (length nonce) 16 n, le-leb (length assoc) most_assoc ha, le-leb (length text) most_text hm)) o t

  -- a sealing that is not refused gives the algorithm's bytes
  pub sealed_well : (instance : ℕ) (key nonce assoc text out tag : List ℕ) → refusal_for of instance key nonce assoc text out tag ≡ 0
      → (r : Answer) (out' tag' : List ℕ) → Seals of instance key nonce assoc text out tag r out' tag'
      → (r ≡ record { number = 0; rounds = all_count (of instance) true (length assoc) (length text) })
      × (out' ≡ ((of instance).seal key nonce assoc text).cipher) × (tag' ≡ ((of instance).seal key nonce assoc text).tag)
  unfolding seal_of seal_out seal_tag
  sealed_well instance key nonce assoc text out tag none r out' tag' h =
      let yes = eq-eqb (refusal_for of instance key nonce assoc text out tag) 0 none in
      (rw yes at h.0, rw yes at h.1, rw yes at h.2)

  -- a sealing that answered 0 was not refused
  pub sealing_taken : (instance : ℕ) (key nonce assoc text out tag : List ℕ) → (seal_of of instance key nonce assoc text out tag).number ≡ 0
      → refusal_for of instance key nonce assoc text out tag ≡ 0
  unfolding seal_of
  sealing_taken instance key nonce assoc text out tag e =
      (answered_well (refusal_for of instance key nonce assoc text out tag) (record { number = 0; rounds = all_count (of instance) true (length assoc) (length text) }) e).0

  -- an opening that did not answer 0 has written nothing
  pub opening_keeps : (instance : ℕ) (key nonce assoc text tag out : List ℕ) → ((open_of of instance key nonce assoc text tag out).number ≡ 0 → ⊥)
      → open_out of instance key nonce assoc text tag out ≡ out
  unfolding open_of open_out
  opening_keeps instance key nonce assoc text tag out f =
      kept (eqb (refusal_for of instance key nonce assoc text out tag) 0) (of instance) (length assoc) (length text) ((of instance).unseal key nonce assoc text tag)
      (refusal_for of instance key nonce assoc text out tag) out f

  -- a sealing that is not refused gives a ciphertext as long as the text, and a tag of 16 bytes
  pub sealed_long : (laws : (i : ℕ) → LawfulScheme (of i)) (instance : ℕ) (key nonce assoc text out tag : List ℕ) → refusal_for of instance key nonce assoc text out tag ≡ 0
      → (length ((of instance).seal key nonce assoc text).cipher ≡ length text) × (length ((of instance).seal key nonce assoc text).tag ≡ 16)
  sealed_long laws instance key nonce assoc text out tag none =
      let h = fits of instance key nonce assoc text out tag none in
      ((laws instance).cipher_long key nonce assoc text h.key_long h.nonce_long, (laws instance).tag_long key nonce assoc text h.key_long h.nonce_long)

  module _ (laws : (i : ℕ) → LawfulScheme (of i)) (instance : ℕ) (key nonce assoc text tag out : List ℕ)
      (well : (open_of of instance key nonce assoc text tag out).number ≡ 0) where
    abbrev found : Opened
    found = (of instance).unseal key nonce assoc text tag

    both : (refusal_for of instance key nonce assoc text out tag ≡ 0) × ((opened_answer (of instance) (length assoc) (length text) found).number ≡ 0)
    unfolding open_of
    both = answered_well (refusal_for of instance key nonce assoc text out tag) (opened_answer (of instance) (length assoc) (length text) found) well

    pub opened-fits : Fits of instance key nonce assoc text out tag
    opened-fits = fits of instance key nonce assoc text out tag both.0

    plain : found ≡ plaintext (open_out of instance key nonce assoc text tag out)
    unfolding open_out
    plain =
        opened_well (of instance) (length assoc) (length text) found out both.1
        ∙ ap plaintext (sym (ap (λ (b : Bool). pick b (opened_out found out) out) (eq-eqb (refusal_for of instance key nonce assoc text out tag) 0 both.0)))

    module _ (keys : Bytes key) (nonces : Bytes nonce) (assocs : Bytes assoc) (texts : Bytes text) (tags : Bytes tag) where
      pub sealed-back : (of instance).seal key nonce assoc (open_out of instance key nonce assoc text tag out) ≡ record { cipher = text; tag = tag }
      sealed-back =
          (laws instance).sealed_back key nonce assoc text tag (open_out of instance key nonce assoc text tag out)
          (record { long = opened-fits.key_long; bytes = keys }) (record { long = opened-fits.nonce_long; bytes = nonces }) assocs texts
          (record { long = opened-fits.tag_long; bytes = tags }) plain

      pub opened_long : length (open_out of instance key nonce assoc text tag out) ≡ length text
      opened_long =
          sym ((laws instance).cipher_long key nonce assoc (open_out of instance key nonce assoc text tag out) opened-fits.key_long opened-fits.nonce_long)
          ∙ ap (λ (s : Sealed). length s.cipher) sealed-back
