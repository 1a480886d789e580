-- Two results that the statement of a kept slice allows are equal; and they are what `isap::slice` gives, for every input.
-- Assumes nothing.
use Rattle.std.specs.Prelude.{◌≡◌, List, ℕ}
use Rattle.std.proofs.Common.{sym, ap, ◌∙◌}
use Rattle.scheme.specs.Scheme.{Scheme}
use Rattle.isap.specs.declared.Job.{Job}
use Rattle.isap.specs.declared.Sliced.{Sliced}
use Rattle.isap.specs.declared.Answer.{Answer}
use Rattle.isap.specs.Slices.{refusal_of}
use Rattle.isap.specs.Refused.{slice_refused}
use Rattle.isap.specs.Statements.{Slices}
use Rattle.station.specs.Statements.{answer_of, KeepsSlice}

module _ (of : ℕ → Scheme) (j : Job) (assoc text out : List ℕ) (budget : ℕ) where
  pub one_kept_slice : (r r' : Answer) (k k' : Job) (o o' : List ℕ)
      → KeepsSlice of j assoc text out budget r k o → KeepsSlice of j assoc text out budget r' k' o' → (r ≡ r') × (k ≡ k') × (o ≡ o')
  one_kept_slice r r' k k' o o' h i = (h.0 ∙ sym i.0, h.1 ∙ sym i.1, h.2 ∙ sym i.2)

  -- number, rounds, record and output are those of the slice by value
  pub kept_is_slice : (r : Answer) (k : Job) (o : List ℕ) (s : Sliced) (p : List ℕ)
      → KeepsSlice of j assoc text out budget r k o → Slices of j assoc text out budget s p → (r ≡ answer_of s) × (k ≡ s.job) × (o ≡ p)
  kept_is_slice r k o s p h i = (h.0 ∙ ap answer_of (sym i.0), h.1 ∙ ap (λ (u : Sliced). u.job) (sym i.0), h.2 ∙ sym i.1)

  -- on the refusals 9 to 11 there are no rounds, and record and output are as before
  pub kept_refused : (r : Answer) (k : Job) (o : List ℕ) → KeepsSlice of j assoc text out budget r k o → (refusal_of of j assoc text out ≡ 0 → ⊥)
      → (r ≡ record { number = refusal_of of j assoc text out; rounds = 0 }) × (k ≡ j) × (o ≡ out)
  kept_refused r k o h f =
      let n = slice_refused of j assoc text out budget f in
      (h.0 ∙ ap answer_of n.0, h.1 ∙ ap (λ (u : Sliced). u.job) n.0, h.2 ∙ n.1)
