-- What each public call promises: all that it returns, and the final bytes of every buffer it was lent. A call's `ensures` is one of these;
-- `Determined` shows that two results which one of them allows are equal.
-- Assumes nothing.
use Rattle.std.specs.Prelude.{◌≡◌, List, ℕ}
use Rattle.scheme.specs.Scheme.{Scheme}
use Rattle.plan.specs.Planned.{plan_of}
use Rattle.isap.specs.declared.Job.{Job}
use Rattle.isap.specs.declared.Begun.{Begun}
use Rattle.isap.specs.declared.Sliced.{Sliced}
use Rattle.isap.specs.declared.Answer.{Answer}
use Rattle.isap.specs.Slices.{slice_of, out_of}
use Rattle.isap.specs.Beginnings.{begin_seal_of, begin_open_of}
use Rattle.isap.specs.Whole.{seal_of, seal_out, seal_tag, open_of, open_out, packed}

-- ---- the plans, for a host in C

abbrev pub PlansVerify : (instance a m : ℕ) → ℕ → Type 0
PlansVerify instance a m r = r ≡ packed (plan_of instance a m).number (plan_of instance a m).verify

abbrev pub PlansSeal : (instance a m : ℕ) → ℕ → Type 0
PlansSeal instance a m r = r ≡ packed (plan_of instance a m).number (plan_of instance a m).sealing

abbrev pub PlansTotal : (instance a m : ℕ) → ℕ → Type 0
PlansTotal instance a m r = r ≡ packed (plan_of instance a m).number (plan_of instance a m).total

-- ---- by the schemes of the instances

module _ (of : ℕ → Scheme) where
  abbrev pub BeginsSealing : (instance : ℕ) → (key nonce : List ℕ) → (a m : ℕ) → Begun → Type 0
  BeginsSealing instance key nonce a m r = r ≡ begin_seal_of of instance key nonce a m

  abbrev pub BeginsOpening : (instance : ℕ) → (key nonce tag : List ℕ) → (a m : ℕ) → Begun → Type 0
  BeginsOpening instance key nonce tag a m r = r ≡ begin_open_of of instance key nonce tag a m

  abbrev pub Slices : Job → (assoc text out : List ℕ) → (budget : ℕ) → Sliced → (out' : List ℕ) → Type 0
  Slices j assoc text out budget r out' = (r ≡ slice_of of j assoc text out budget) × (out' ≡ out_of of j assoc text out budget)

  abbrev pub Seals : (instance : ℕ) → (key nonce assoc text out tag : List ℕ) → Answer → (out' tag' : List ℕ) → Type 0
  Seals instance key nonce assoc text out tag r out' tag' =
      (r ≡ seal_of of instance key nonce assoc text out tag)
      × (out' ≡ seal_out of instance key nonce assoc text out tag)
      × (tag' ≡ seal_tag of instance key nonce assoc text out tag)

  abbrev pub Opens : (instance : ℕ) → (key nonce assoc text tag out : List ℕ) → Answer → (out' : List ℕ) → Type 0
  Opens instance key nonce assoc text tag out r out' =
      (r ≡ open_of of instance key nonce assoc text tag out) × (out' ≡ open_out of instance key nonce assoc text tag out)

  -- the same for a host in C
  abbrev pub SealsInC : (instance : ℕ) → (key nonce assoc text out tag : List ℕ) → ℕ → (out' tag' : List ℕ) → Type 0
  SealsInC instance key nonce assoc text out tag r out' tag' =
      (r ≡ packed (seal_of of instance key nonce assoc text out tag).number (seal_of of instance key nonce assoc text out tag).rounds)
      × (out' ≡ seal_out of instance key nonce assoc text out tag)
      × (tag' ≡ seal_tag of instance key nonce assoc text out tag)

  abbrev pub OpensInC : (instance : ℕ) → (key nonce assoc text tag out : List ℕ) → ℕ → (out' : List ℕ) → Type 0
  OpensInC instance key nonce assoc text tag out r out' =
      (r ≡ packed (open_of of instance key nonce assoc text tag out).number (open_of of instance key nonce assoc text tag out).rounds)
      × (out' ≡ open_out of instance key nonce assoc text tag out)
