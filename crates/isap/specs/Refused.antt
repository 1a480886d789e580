-- Demand 1: a refusal reports no rounds, and leaves the record and every lent byte as they were.
-- Assumes nothing.
use Rattle.std.specs.Prelude.{◌≡◌, List, ℕ}
use borrow.Author.Tests.{ne_eqb}
use Rattle.scheme.specs.Scheme.{Scheme}
use Rattle.isap.specs.declared.Job.{Job}
use Rattle.isap.specs.Slices.{refusal_of, slice_of, out_of}
use Rattle.isap.specs.Beginnings.{no_job, begun_or}
use Rattle.isap.specs.Whole.{refusal_for, seal_of, seal_out, seal_tag, open_of, open_out}
use Rattle.isap.specs.Statements.{Seals, Opens}

pub beginning_refused : (refusal : ℕ) (j : Job) → (refusal ≡ 0 → ⊥) → begun_or refusal j ≡ record { number = refusal; rounds = 0; job = no_job }
unfolding begun_or
beginning_refused refusal j f = rw (ne_eqb refusal 0 f)

module _ (of : ℕ → Scheme) where
  pub slice_refused : (j : Job) (assoc text out : List ℕ) (budget : ℕ) → (refusal_of of j assoc text out ≡ 0 → ⊥)
      → (slice_of of j assoc text out budget ≡ record { number = refusal_of of j assoc text out; rounds = 0; job = j }) × (out_of of j assoc text out budget ≡ out)
  unfolding slice_of out_of
  slice_refused j assoc text out budget f =
      let no = ne_eqb (refusal_of of j assoc text out) 0 f in
      (rw (slice_of, no), rw (out_of, no))

  pub sealing_refused : (instance : ℕ) (key nonce assoc text out tag : List ℕ) → (refusal_for of instance key nonce assoc text out tag ≡ 0 → ⊥)
      → Seals of instance key nonce assoc text out tag (record { number = refusal_for of instance key nonce assoc text out tag; rounds = 0 }) out tag
  unfolding seal_of seal_out seal_tag
  sealing_refused instance key nonce assoc text out tag f =
      let no = ne_eqb (refusal_for of instance key nonce assoc text out tag) 0 f in
      (rw no, rw no, rw no)

  pub opening_refused : (instance : ℕ) (key nonce assoc text tag out : List ℕ) → (refusal_for of instance key nonce assoc text out tag ≡ 0 → ⊥)
      → Opens of instance key nonce assoc text tag out (record { number = refusal_for of instance key nonce assoc text out tag; rounds = 0 }) out
  unfolding open_of open_out
  opening_refused instance key nonce assoc text tag out f =
      let no = ne_eqb (refusal_for of instance key nonce assoc text out tag) 0 f in
      (rw no, rw no)
