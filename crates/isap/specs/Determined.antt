-- Two results that a public call's statement allows are equal; and what a host in C takes apart again.
-- Assumes nothing.
use Rattle.std.specs.Prelude.{◌≡◌, Bool, false, List, ℕ, ◌/◌, ◌%◌, ◌≤◌, ◌<◌, eqb, length}
use Rattle.std.proofs.Common.{sym, ◌∙◌}
use Rattle.std.proofs.Math.Path.{ap}
use Rattle.std.proofs.Math.Bool.{true}
use native.Mathlib.Omega.{arith}
use Rattle.bits.specs.Pick.{pick}
use Rattle.scheme.specs.Machine.{Opened, Opened.plaintext, Opened.refused}
use Rattle.scheme.specs.Scheme.{Scheme, all_count}
use Rattle.plan.specs.Planned.{plan_of}
use Rattle.plan.specs.PlanLaws.{plan_within}
use Rattle.isap.specs.declared.Job.{Job}
use Rattle.isap.specs.declared.Begun.{Begun}
use Rattle.isap.specs.declared.Sliced.{Sliced}
use Rattle.isap.specs.declared.Answer.{Answer}
use Rattle.isap.specs.Begun.{or_most, limits_small, tag_small}
use Rattle.isap.specs.Whole.{out_refusal, whole_refusal, refusal_for, answered, opened_answer, seal_of, open_of, packed}
use Rattle.isap.specs.Statements.{PlansVerify, PlansSeal, PlansTotal, BeginsSealing, BeginsOpening, Slices, Seals, Opens, SealsInC, OpensInC}

-- ---- equal results

module _ (instance a m : ℕ) where
  pub one_verify_plan : (r r' : ℕ) → PlansVerify instance a m r → PlansVerify instance a m r' → r ≡ r'
  one_verify_plan r r' h k = h ∙ sym k

  pub one_seal_plan : (r r' : ℕ) → PlansSeal instance a m r → PlansSeal instance a m r' → r ≡ r'
  one_seal_plan r r' h k = h ∙ sym k

  pub one_total_plan : (r r' : ℕ) → PlansTotal instance a m r → PlansTotal instance a m r' → r ≡ r'
  one_total_plan r r' h k = h ∙ sym k

module _ (of : ℕ → Scheme) where
  module _ (instance : ℕ) (key nonce : List ℕ) (a m : ℕ) where
    pub one_sealing_begun : (r r' : Begun) → BeginsSealing of instance key nonce a m r → BeginsSealing of instance key nonce a m r' → r ≡ r'
    one_sealing_begun r r' h k = h ∙ sym k

    pub one_opening_begun : (tag : List ℕ) (r r' : Begun) → BeginsOpening of instance key nonce tag a m r → BeginsOpening of instance key nonce tag a m r' → r ≡ r'
    one_opening_begun tag r r' h k = h ∙ sym k

  pub one_slice : (j : Job) (assoc text out : List ℕ) (budget : ℕ) (r r' : Sliced) (o o' : List ℕ)
      → Slices of j assoc text out budget r o → Slices of j assoc text out budget r' o' → (r ≡ r') × (o ≡ o')
  one_slice j assoc text out budget r r' o o' h k = (h.0 ∙ sym k.0, h.1 ∙ sym k.1)

  module _ (instance : ℕ) (key nonce assoc text out tag : List ℕ) where
    pub one_sealing : (r r' : Answer) (o o' t t' : List ℕ)
        → Seals of instance key nonce assoc text out tag r o t → Seals of instance key nonce assoc text out tag r' o' t' → (r ≡ r') × (o ≡ o') × (t ≡ t')
    one_sealing r r' o o' t t' h k = (h.0 ∙ sym k.0, h.1 ∙ sym k.1, h.2 ∙ sym k.2)

    pub one_sealing_in_c : (r r' : ℕ) (o o' t t' : List ℕ)
        → SealsInC of instance key nonce assoc text out tag r o t → SealsInC of instance key nonce assoc text out tag r' o' t' → (r ≡ r') × (o ≡ o') × (t ≡ t')
    one_sealing_in_c r r' o o' t t' h k = (h.0 ∙ sym k.0, h.1 ∙ sym k.1, h.2 ∙ sym k.2)

  module _ (instance : ℕ) (key nonce assoc text tag out : List ℕ) where
    pub one_opening : (r r' : Answer) (o o' : List ℕ)
        → Opens of instance key nonce assoc text tag out r o → Opens of instance key nonce assoc text tag out r' o' → (r ≡ r') × (o ≡ o')
    one_opening r r' o o' h k = (h.0 ∙ sym k.0, h.1 ∙ sym k.1)

    pub one_opening_in_c : (r r' : ℕ) (o o' : List ℕ)
        → OpensInC of instance key nonce assoc text tag out r o → OpensInC of instance key nonce assoc text tag out r' o' → (r ≡ r') × (o ≡ o')
    one_opening_in_c r r' o o' h k = (h.0 ∙ sym k.0, h.1 ∙ sym k.1)

-- ---- a packed answer taken apart

pub packed-number : (number rounds : ℕ) → number < 4294967296 → packed number rounds % 4294967296 ≡ number
packed-number number rounds h = omega arith

pub packed-rounds : (number rounds : ℕ) → number < 4294967296 → packed number rounds / 4294967296 ≡ rounds
packed-rounds number rounds h = omega arith

-- every number of an answer is small

pick_most : (b : Bool) (x y z : ℕ) → x ≤ z → y ≤ z → pick b x y ≤ z
pick_most true x y z h k = h
pick_most false x y z h k = k

answered_most : (refusal : ℕ) (r : Answer) → refusal ≤ 8 → r.number ≤ 8 → (answered refusal r).number ≤ 8
answered_most refusal r h k = go (eqb refusal 0)
  where
    go : (b : Bool) → (pick b r (record { number = refusal; rounds = 0 })).number ≤ 8
    go true = k
    go false = h

module _ (of : ℕ → Scheme) where
  refusal_most : (instance key nonce a m out tag : ℕ) → whole_refusal of instance key nonce a m out tag ≤ 8
  unfolding whole_refusal out_refusal
  refusal_most instance key nonce a m out tag =
      or_most _ _ 8 (omega (arith, limits_small of instance key nonce a m))
      (or_most _ _ 8 (pick_most (eqb out m) 0 6 8 (omega arith) (omega arith)) (omega (arith, tag_small tag)))

  module _ (instance : ℕ) (key nonce assoc text out tag : List ℕ) where
    pub sealing_number : (r : ℕ) (o t : List ℕ) → SealsInC of instance key nonce assoc text out tag r o t
        → (r % 4294967296 ≡ (seal_of of instance key nonce assoc text out tag).number) × (r / 4294967296 ≡ (seal_of of instance key nonce assoc text out tag).rounds)
    unfolding seal_of
    sealing_number r o t h =
        let n = (seal_of of instance key nonce assoc text out tag).number in
        let k = (seal_of of instance key nonce assoc text out tag).rounds in
        let small : n < 4294967296 =
        omega (
          arith,
          answered_most (refusal_for of instance key nonce assoc text out tag) (record { number = 0; rounds = all_count (of instance) true (length assoc) (length text) })
              (refusal_most instance (length key) (length nonce) (length assoc) (length text) (length out) (length tag)) (omega arith),
        ) in
        (ap (λ (q : ℕ). q % 4294967296) h.0 ∙ packed-number n k small, ap (λ (q : ℕ). q / 4294967296) h.0 ∙ packed-rounds n k small)

    opened_most : (s : Scheme) (a m : ℕ) (u : Opened) → (opened_answer s a m u).number ≤ 8
    unfolding opened_answer
    opened_most s a m (plaintext t) = omega arith
    opened_most s a m refused = omega arith

    pub opening_number : (r : ℕ) (o : List ℕ) → OpensInC of instance key nonce assoc text tag out r o
        → (r % 4294967296 ≡ (open_of of instance key nonce assoc text tag out).number) × (r / 4294967296 ≡ (open_of of instance key nonce assoc text tag out).rounds)
    unfolding open_of
    opening_number r o h =
        let n = (open_of of instance key nonce assoc text tag out).number in
        let k = (open_of of instance key nonce assoc text tag out).rounds in
        let small : n < 4294967296 =
        omega (
          arith,
          answered_most (refusal_for of instance key nonce assoc text out tag) (opened_answer (of instance) (length assoc) (length text) ((of instance).unseal key nonce assoc text tag))
              (refusal_most instance (length key) (length nonce) (length assoc) (length text) (length out) (length tag))
              (opened_most (of instance) (length assoc) (length text) ((of instance).unseal key nonce assoc text tag)),
        ) in
        (ap (λ (q : ℕ). q % 4294967296) h.0 ∙ packed-number n k small, ap (λ (q : ℕ). q / 4294967296) h.0 ∙ packed-rounds n k small)

module _ (instance a m : ℕ) where
  plan_small : (plan_of instance a m).number < 4294967296
  plan_small = omega (arith, (plan_within instance a m).number)

  -- what C takes apart, whatever the rounds are those of
  told : (k r : ℕ) → r ≡ packed (plan_of instance a m).number k → (r % 4294967296 ≡ (plan_of instance a m).number) × (r / 4294967296 ≡ k)
  told k r h =
      (ap (λ (q : ℕ). q % 4294967296) h ∙ packed-number _ _ plan_small, ap (λ (q : ℕ). q / 4294967296) h ∙ packed-rounds _ _ plan_small)

  pub verify_number : (r : ℕ) → PlansVerify instance a m r → (r % 4294967296 ≡ (plan_of instance a m).number) × (r / 4294967296 ≡ (plan_of instance a m).verify)
  verify_number r h = told (plan_of instance a m).verify r h

  pub seal-number : (r : ℕ) → PlansSeal instance a m r → (r % 4294967296 ≡ (plan_of instance a m).number) × (r / 4294967296 ≡ (plan_of instance a m).sealing)
  seal-number r h = told (plan_of instance a m).sealing r h

  pub total-number : (r : ℕ) → PlansTotal instance a m r → (r % 4294967296 ≡ (plan_of instance a m).number) × (r / 4294967296 ≡ (plan_of instance a m).total)
  total-number r h = told (plan_of instance a m).total r h
