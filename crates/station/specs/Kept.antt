-- Demand 3 of a kept job: sliced through the kept call by any row of budgets, a job from a beginning is the algorithm stopped after as many
-- rounds as the budgets have in all, or at its end.
-- Assumes nothing.
use Rattle.std.specs.Prelude.{◌≡◌, refl, ℕ, ◌+◌, min, length}
use Rattle.std.proofs.Common.{sym, ◌∙◌, subst}
use Rattle.std.proofs.Math.Path.{ap}
use mathlib.Core.List.{List, [], ◌∷◌}
use Rattle.stopping.specs.Course.{lasts, halted}
use Rattle.scheme.specs.Scheme.{Scheme}
use Rattle.scheme.specs.Lawful.{LawfulScheme}
use Rattle.instances.specs.Schemes.{scheme_of, lawful-scheme}
use Rattle.isap.specs.declared.Job.{Job}
use Rattle.isap.specs.declared.Answer.{Answer}
use Rattle.isap.specs.declared.Begun as begins
use Rattle.isap.specs.Records.{course_of, machine_of}
use Rattle.isap.specs.Statements.{BeginsSealing, BeginsOpening}
use Rattle.isap.specs.Reached.{Begun, at}
use Rattle.isap.specs.Begins.{sealing_begins, opening_begins}
use Rattle.isap.specs.Budgets.{Progress, sum, onward, sliced, budgets}
use Rattle.station.specs.Statements.{KeepsSlice}

-- one kept slice: what it answers, and the record and the output that it leaves
pub record KeptSlice : Type 0 where
  pub answer : Answer
  pub job : Job
  pub out : List ℕ

module _ (of : ℕ → Scheme) (assoc text : List ℕ) where
  -- a row of calls, each with its budget, on the record and the output that the one before it left: from p they come to q
  abbrev pub Keeps : List ℕ → List KeptSlice → Progress → Progress → Type 0
  Keeps [] [] p q = q ≡ p
  Keeps [] (c ∷ cs) p q = ⊥
  Keeps (b ∷ bs) [] p q = ⊥
  Keeps (b ∷ bs) (c ∷ cs) p q =
      KeepsSlice of p.job assoc text p.out b c.answer c.job c.out
      × Keeps bs cs (record { job = c.job; out = c.out; rounds = p.rounds + c.answer.rounds }) q

  -- it comes to what as many slices by value come to
  pub kept_row : (bs : List ℕ) (cs : List KeptSlice) (p q : Progress) → Keeps bs cs p q → q ≡ sliced of assoc text bs p
  unfolding sliced onward
  kept_row [] [] p q h = h
  kept_row [] (c ∷ cs) p q h = absurd h
  kept_row (b ∷ bs) [] p q h = absurd h
  kept_row (b ∷ bs) (c ∷ cs) p q h =
      let e = h.0 in
      kept_row bs cs _ q h.1
      ∙ ap (sliced of assoc text bs) (λ i. record { job = e.1 i; out = e.2 i; rounds = p.rounds + (e.0 i).rounds })

module _ (of : ℕ → Scheme) (laws : (i : ℕ) → LawfulScheme (of i)) (j : Job) (assoc text out : List ℕ) (h : Begun of j assoc text out) where
  -- after so many rounds: the record, the output, and the rounds that were done
  abbrev pub Reached : ℕ → Progress → Type 0
  Reached n q =
      q ≡ record {
        job = at of laws j assoc text out h n;
        out = (halted (course_of of j assoc text) n (machine_of j out)).out;
        rounds = min n (lasts (course_of of j assoc text) (machine_of j out));
      }

  pub kept_budgets : (bs : List ℕ) (cs : List KeptSlice) (q : Progress) → Keeps of assoc text bs cs (record { job = j; out = out; rounds = 0 }) q → Reached (sum bs) q
  kept_budgets bs cs q k = kept_row of assoc text bs cs _ q k ∙ budgets of laws j assoc text out h bs

-- ---- from the beginnings, in the words of what the calls promise

module _ (assoc text out : List ℕ) (r : begins.Begun) (well : r.number ≡ 100) where
  -- what holds of the record of one answer holds of that of an equal one
  begun_by : (x : begins.Begun) → r ≡ x → (x.number ≡ 100 → Begun scheme_of x.job assoc text out) → Begun scheme_of r.job assoc text out
  begun_by x e k = subst (λ (b : begins.Begun). Begun scheme_of b.job assoc text out) (sym e) (k (ap (λ (b : begins.Begun). b.number) (sym e) ∙ well))

  module _ (instance : ℕ) (key nonce : List ℕ) (long : length out ≡ length text) where
    pub sealing_begun : BeginsSealing scheme_of instance key nonce (length assoc) (length text) r → Begun scheme_of r.job assoc text out
    sealing_begun e = begun_by _ e (sealing_begins scheme_of instance key nonce (length assoc) (length text) assoc text out refl refl long)

    pub opening_begun : (tag : List ℕ) → BeginsOpening scheme_of instance key nonce tag (length assoc) (length text) r → Begun scheme_of r.job assoc text out
    opening_begun tag e = begun_by _ e (opening_begins scheme_of instance key nonce (length assoc) (length text) assoc text out refl refl long tag)

    module _ (bs : List ℕ) (cs : List KeptSlice) (q : Progress) (kept : Keeps scheme_of assoc text bs cs (record { job = r.job; out = out; rounds = 0 }) q) where
      pub sealing_kept : (e : BeginsSealing scheme_of instance key nonce (length assoc) (length text) r)
          → Reached scheme_of lawful-scheme r.job assoc text out (sealing_begun e) (sum bs) q
      sealing_kept e = kept_budgets scheme_of lawful-scheme r.job assoc text out (sealing_begun e) bs cs q kept

      pub opening_kept : (tag : List ℕ) (e : BeginsOpening scheme_of instance key nonce tag (length assoc) (length text) r)
          → Reached scheme_of lawful-scheme r.job assoc text out (opening_begun tag e) (sum bs) q
      opening_kept tag e = kept_budgets scheme_of lawful-scheme r.job assoc text out (opening_begun tag e) bs cs q kept
