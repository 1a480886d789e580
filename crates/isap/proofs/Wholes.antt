-- Whole calls, from their refusal, their beginning and their one slice.
-- Assumes nothing.
use mathlib.Core.Path.{◌≡◌, refl, sym, ap, ◌∙◌, subst}
use mathlib.Core.Bool.{Bool, true, false}
use mathlib.Core.Logic.{◌⊎◌, inl, inr}
use mathlib.Core.List.{List}
use Prim.Native.Nat.{ℕ, ◌-◌, ◌≤◌}
use native.Mathlib.Omega.{arith}
use lib.ListN.{length, replicate}
use borrow.Author.Tests.{eq-eqb}
use Rattle.bits.specs.Every.{passes}
use Rattle.instances.specs.Schemes.{known, scheme_of, lawful-scheme, scheme-fits}
use Rattle.bits.specs.Bytes.{Bytes}
use Rattle.scheme.specs.Machine.{Buffer}
use Rattle.scheme.specs.Scheme.{all_count}
use Rattle.scheme.specs.Lawful.{Given}
use Rattle.instances.specs.Limits.{most_assoc, most_text, total_most}
use Rattle.isap.specs.declared.Job.{Job}
use Rattle.isap.specs.declared.Begun as begins
use Rattle.isap.specs.declared.Sliced.{Sliced}
use Rattle.isap.specs.Records.{ran}
use Rattle.isap.specs.Slices.{lent_of, number_of, refusal_of, answer, slice_of, out_of}
use Rattle.isap.specs.Beginnings.{limits_refusal, tag_refusal, or_else, begun_job, begin_seal_of, begin_open_of}
use Rattle.isap.specs.Begun.{begun_job_lem, begun_stands}
use Rattle.isap.specs.Whole.{refusal_for, seal_of, seal_out, seal_tag, open_of, open_out}
use Rattle.isap.specs.Fits.{fits, or_zero}
use Rattle.isap.specs.Statements.{Seals, Opens}
use Rattle.isap.specs.Refused.{sealing_refused, opening_refused}
use Rattle.isap.specs.Runs.{sealing_answer, sealing_writes, sealing_tags, opening_answer, opening_writes}

-- ---- one slice of a job just begun

module _ (instance direction : ℕ) (key nonce tag assoc text out : List ℕ) (is_known : known instance ≡ true) (way : (direction ≡ 1) ⊎ (direction ≡ 2))
    (assoc_limit : length assoc ≤ most_assoc) (text_limit : length text ≤ most_text) (long : length out ≡ length text) where
  abbrev j : Job
  j = begun_job scheme_of instance direction key nonce tag (length assoc) (length text)

  unrefused : refusal_of scheme_of j assoc text out ≡ 0
  unfolding refusal_of lent_of passes begun_job
  unrefused =
      rw (
        begun_stands scheme_of lawful-scheme instance direction key nonce tag (length assoc) (length text) is_known way assoc_limit text_limit,
        eq-eqb (length assoc) (length assoc) refl,
        eq-eqb (length text) (length text) refl,
        eq-eqb (length out) (length text) long,
      )

  pub sliced : (n : ℕ) → slice_of scheme_of j assoc text out n ≡ answer scheme_of j assoc text out n
  unfolding slice_of
  sliced n = rw (slice_of, eq-eqb (refusal_of scheme_of j assoc text out) 0 unrefused)

  pub written : (n : ℕ) → out_of scheme_of j assoc text out n ≡ (ran scheme_of j assoc text out n).machine.out
  unfolding out_of
  written n = rw (out_of, eq-eqb (refusal_of scheme_of j assoc text out) 0 unrefused)

-- the budget of a whole call, and that it ends every job
abbrev largest : ℕ
largest = 4294967295

enough : (instance : ℕ) (b : Bool) (assoc text : List ℕ) → length assoc ≤ most_assoc → length text ≤ most_text
    → all_count (scheme_of instance) b (length assoc) (length text) ≤ largest
enough instance b assoc text a m = omega (arith, total_most instance b (length assoc) (length text) a m)

-- ---- sealing

module _ (instance : ℕ) (key nonce assoc text out tag : List ℕ) where
  pub seal_refused : (n : ℕ) → n ≡ refusal_for scheme_of instance key nonce assoc text out tag → (n ≡ 0 → ⊥) → Seals scheme_of instance key nonce assoc text out tag (record { number = n; rounds = 0 }) out tag
  seal_refused n e f =
      subst (λ (k : ℕ). Seals scheme_of instance key nonce assoc text out tag (record { number = k; rounds = 0 }) out tag) (sym e)
      (sealing_refused scheme_of instance key nonce assoc text out tag (λ z. f (e ∙ z)))

  pub seal_done : refusal_for scheme_of instance key nonce assoc text out tag ≡ 0 → (b : begins.Begun) → b ≡ begin_seal_of scheme_of instance key nonce (length assoc) (length text)
      → (s : Sliced) → s ≡ slice_of scheme_of b.job assoc text out largest → (out' : List ℕ) → out' ≡ out_of scheme_of b.job assoc text out largest
      → (tag' : List ℕ) → tag' ≡ s.job.tag → Seals scheme_of instance key nonce assoc text out tag (record { number = s.number; rounds = s.rounds }) out' tag'
  unfolding seal_of seal_out seal_tag begin_seal_of answer begun_job
  seal_done none b eb s es out' eo tag' et =
      let h = fits scheme_of instance key nonce assoc text out tag none in
      let zeros : List ℕ = replicate 16 0 in
      let job : b.job ≡ begun_job scheme_of instance 1 key nonce zeros (length assoc) (length text) =
      ap (λ (q : begins.Begun). q.job) eb
      ∙ begun_job_lem (limits_refusal scheme_of instance (length key) (length nonce) (length assoc) (length text)) (begun_job scheme_of instance 1 key nonce zeros (length assoc) (length text)) h.limits in
      let k = ran scheme_of (begun_job scheme_of instance 1 key nonce zeros (length assoc) (length text)) assoc text out largest in
      let done : s ≡ answer scheme_of (begun_job scheme_of instance 1 key nonce zeros (length assoc) (length text)) assoc text out largest =
      es ∙ ap (λ (y : Job). slice_of scheme_of y assoc text out largest) job
      ∙ sliced instance 1 key nonce zeros assoc text out h.is_known (inl refl) h.assoc_limit h.text_limit h.out_long largest in
      let wrote : out' ≡ k.machine.out =
      eo ∙ ap (λ (y : Job). out_of scheme_of y assoc text out largest) job
      ∙ written instance 1 key nonce zeros assoc text out h.is_known (inl refl) h.assoc_limit h.text_limit h.out_long largest in
      let whole : k.done - 0 ≡ k.done = omega arith in
      let yes = eq-eqb (refusal_for scheme_of instance key nonce assoc text out tag) 0 none in
      let all = enough instance true assoc text h.assoc_limit h.text_limit in (
        ap (λ (q : Sliced). record { number = q.number; rounds = q.rounds }) done
            ∙ ap (λ (n : ℕ). record { number = number_of k.ending; rounds = n }) whole
            ∙ sealing_answer scheme_of lawful-scheme scheme-fits instance 1 key nonce zeros assoc text out h.key_long h.nonce_long h.out_long largest all refl ∙ rw yes,
        wrote ∙ sealing_writes scheme_of lawful-scheme scheme-fits instance 1 key nonce zeros assoc text out h.key_long h.nonce_long h.out_long largest all refl ∙ rw yes,
        et ∙ ap (λ (q : Sliced). q.job.tag) done ∙ sealing_tags scheme_of lawful-scheme scheme-fits instance 1 key nonce zeros assoc text out h.key_long h.nonce_long h.out_long largest all refl ∙ rw yes,
      )

-- ---- opening

module _ (instance : ℕ) (key nonce assoc text tag out : List ℕ) where
  pub open_refused : (n : ℕ) → n ≡ refusal_for scheme_of instance key nonce assoc text out tag → (n ≡ 0 → ⊥) → Opens scheme_of instance key nonce assoc text tag out (record { number = n; rounds = 0 }) out
  open_refused n e f =
      subst (λ (k : ℕ). Opens scheme_of instance key nonce assoc text tag out (record { number = k; rounds = 0 }) out) (sym e)
      (opening_refused scheme_of instance key nonce assoc text tag out (λ z. f (e ∙ z)))

  pub open_done : Bytes key → Bytes nonce → Bytes assoc → Bytes text → Bytes tag → refusal_for scheme_of instance key nonce assoc text out tag ≡ 0 → (b : begins.Begun) → b ≡ begin_open_of scheme_of instance key nonce tag (length assoc) (length text)
      → (s : Sliced) → s ≡ slice_of scheme_of b.job assoc text out largest → (out' : List ℕ) → out' ≡ out_of scheme_of b.job assoc text out largest
      → Opens scheme_of instance key nonce assoc text tag out (record { number = s.number; rounds = s.rounds }) out'
  unfolding open_of open_out begin_open_of answer begun_job
  open_done bk bn ba bt bg none b eb s es out' eo =
      let h = fits scheme_of instance key nonce assoc text out tag none in
      let given : Given (scheme_of instance) (record { sealing = false; key = key; nonce = nonce; assoc = assoc; text = text }) =
      record { key = record { long = h.key_long; bytes = bk }; nonce = record { long = h.nonce_long; bytes = bn }; assoc = ba; text = bt } in
      let tagged : Buffer 16 tag = record { long = h.tag_long; bytes = bg } in
      let job : b.job ≡ begun_job scheme_of instance 2 key nonce tag (length assoc) (length text) =
      let no = limits_refusal scheme_of instance (length key) (length nonce) (length assoc) (length text) in
      ap (λ (q : begins.Begun). q.job) eb
      ∙ begun_job_lem (or_else no (tag_refusal (length tag))) (begun_job scheme_of instance 2 key nonce tag (length assoc) (length text)) (or_zero no (tag_refusal (length tag)) h.limits h.tags) in
      let k = ran scheme_of (begun_job scheme_of instance 2 key nonce tag (length assoc) (length text)) assoc text out largest in
      let done : s ≡ answer scheme_of (begun_job scheme_of instance 2 key nonce tag (length assoc) (length text)) assoc text out largest =
      es ∙ ap (λ (y : Job). slice_of scheme_of y assoc text out largest) job
      ∙ sliced instance 2 key nonce tag assoc text out h.is_known (inr refl) h.assoc_limit h.text_limit h.out_long largest in
      let wrote : out' ≡ k.machine.out =
      eo ∙ ap (λ (y : Job). out_of scheme_of y assoc text out largest) job
      ∙ written instance 2 key nonce tag assoc text out h.is_known (inr refl) h.assoc_limit h.text_limit h.out_long largest in
      let whole : k.done - 0 ≡ k.done = omega arith in
      let yes = eq-eqb (refusal_for scheme_of instance key nonce assoc text out tag) 0 none in
      let all = enough instance false assoc text h.assoc_limit h.text_limit in (
        ap (λ (q : Sliced). record { number = q.number; rounds = q.rounds }) done
            ∙ ap (λ (n : ℕ). record { number = number_of k.ending; rounds = n }) whole
            ∙ opening_answer scheme_of lawful-scheme scheme-fits instance 2 key nonce tag assoc text out h.key_long h.nonce_long h.out_long largest all refl given tagged ∙ rw yes,
        wrote ∙ opening_writes scheme_of lawful-scheme scheme-fits instance 2 key nonce tag assoc text out h.key_long h.nonce_long h.out_long largest all refl given tagged ∙ rw yes,
      )
