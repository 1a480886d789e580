-- `slice`, from its refusals and from the end of its loop.
-- Assumes nothing.
use mathlib.Core.Path.{◌≡◌, refl, sym, ap, ◌∙◌, subst}
use mathlib.Core.Bool.{Bool, true, false}
use mathlib.Core.Logic.{◌⊎◌}
use mathlib.Core.List.{List}
use Prim.Native.Nat.{ℕ, ◌+◌, ◌-◌}
use native.Mathlib.Omega.{arith}
use lib.Dec.{eqb}
use lib.ListN.{length}
use borrow.Author.Tests.{eqb-true, eq-eqb}
use Rattle.bits.specs.Pick.{pick}
use Rattle.bits.specs.Every.{passes_at}
use Rattle.stopping.specs.Course.{Core}
use Rattle.scheme.specs.Machine.{Machine}
use Rattle.instances.specs.Schemes.{scheme_of, lawful-scheme}
use Rattle.isap.specs.declared.Job.{Job}
use Rattle.isap.specs.Records.{front_of, back_of, after, ran}
use Rattle.isap.specs.Slices.{stands_of, lent_of, number_of, refusal_of, answer, slice_of, out_of}
use Rattle.isap.specs.Statements.{Slices}
use Rattle.isap.specs.Refused.{slice_refused}
use Rattle.isap.specs.Sofar.{Fresh, Sofar, Timed, sofar_end, fresh_of}

module _ (j : Job) (assoc text out : List ℕ) where
  -- no refusal: the record stands, has not ended, and what belongs to it is lent
  fresh_by : (s e l : Bool) → ◌≡◌ {A = ℕ} (pick s (pick e (pick l 0 11) 10) 9) 0 → (s ≡ true) × (e ≡ true) × (l ≡ true)
  fresh_by true true true q = (refl, refl, refl)
  fresh_by true true false q = absurd (omega (arith, q))
  fresh_by true false l q = absurd (omega (arith, q))
  fresh_by false e l q = absurd (omega (arith, q))

  pub unrefused : refusal_of scheme_of j assoc text out ≡ 0 → Fresh scheme_of j assoc text out
  unfolding refusal_of lent_of
  unrefused q =
      let t = fresh_by (stands_of scheme_of j) (eqb j.ending 0) (lent_of j assoc text out) q in
      let l = passes_at _ t.2 in
      fresh_of scheme_of lawful-scheme j assoc text out t.0 (eqb-true j.ending 0 t.1)
      (eqb-true (length assoc) j.assoc (l 0)) (eqb-true (length text) j.text (l 1)) (eqb-true (length out) j.text (l 2))

  module _ (budget : ℕ) where
    pub refuses : (n : ℕ) → n ≡ refusal_of scheme_of j assoc text out → (n ≡ 0 → ⊥) → Slices scheme_of j assoc text out budget (record { number = n; rounds = 0; job = j }) out
    refuses n e f =
        let t = slice_refused scheme_of j assoc text out budget (λ z. f (e ∙ z)) in
        (ap (λ (k : ℕ). record { number = k; rounds = 0; job = j }) e ∙ sym t.0, sym t.1)

    pub finishes : (left : ℕ) (r : Job) (out' : List ℕ) (number : ℕ) → refusal_of scheme_of j assoc text out ≡ 0 → Sofar scheme_of j assoc text out budget left r out'
        → (left ≡ 0) ⊎ (r.ending ≡ 0 → ⊥) → number ≡ number_of r.ending → Slices scheme_of j assoc text out budget (record { number = number; rounds = budget - left; job = r }) out'
    unfolding slice_of out_of answer
    finishes left r out' number q h w n =
        let yes : eqb (refusal_of scheme_of j assoc text out) 0 ≡ true = eq-eqb (refusal_of scheme_of j assoc text out) 0 q in
        let e : ran scheme_of j assoc text out (budget - left) ≡ ran scheme_of j assoc text out budget = sofar_end scheme_of lawful-scheme j assoc text out budget left r out' h w in
        let all : number ≡ number_of (ran scheme_of j assoc text out budget).ending =
        n ∙ ap (λ (y : Job). number_of y.ending) h.job_is ∙ ap (λ (k : Core Machine). number_of k.ending) e in
        let d : (ran scheme_of j assoc text out budget).done ≡ j.done + (budget - left) = sym (ap (λ (k : Core Machine). k.done) e) ∙ h.done_is in
        let rounds : budget - left ≡ (ran scheme_of j assoc text out budget).done - j.done = omega (arith, d) in
        let job : r ≡ after scheme_of j (ran scheme_of j assoc text out budget) = h.job_is ∙ ap (after scheme_of j) e in (
          (λ i. record { number = all i; rounds = rounds i; job = job i })
              ∙ sym (ap (λ (b : Bool). pick b (answer scheme_of j assoc text out budget) (record { number = refusal_of scheme_of j assoc text out; rounds = 0; job = j })) yes),
          h.out_is ∙ ap (λ (k : Core Machine). k.machine.out) e ∙ sym (ap (λ (b : Bool). pick b (ran scheme_of j assoc text out budget).machine.out out) yes),
        )

    -- the counts of a slice are those of each record in it
    pub timed_now : (left : ℕ) (r : Job) (out' : List ℕ) (front back : ℕ) → Sofar scheme_of j assoc text out budget left r out' → Timed scheme_of j front back → Timed scheme_of r front back
    unfolding front_of back_of
    timed_now left r out' front back h t =
        subst (λ (y : Job). Timed scheme_of y front back) (sym h.job_is) (record { front_is = t.front_is; back_is = t.back_is })
