-- A begun job, stopped after n rounds: how long it lasts, and that its record can stand wherever it is stopped.
-- Assumes nothing.
use Rattle.std.specs.Prelude.{◌≡◌, Bool, true, false, ◌⊎◌, List, [], ◌∷◌, ℕ, ◌+◌, ◌≤◌, ◌<◌, min, eqb, length}
use Rattle.std.proofs.Math.Path.{refl, sym, ap₂}
use Rattle.std.proofs.Common.{ap, ◌∙◌, arith}
use Rattle.std.proofs.Math.Decide.{dec_lt}
use borrow.Author.Tests.{eq-eqb, ne_eqb, le-leb}
use Rattle.bits.specs.Pick.{pick}
use Rattle.bits.specs.Every.{passes}
use Rattle.stopping.specs.Places.{place_of}
use Rattle.stopping.specs.Course.{Course, front_rounds, back_rounds, accepted, lasts, halted, ended_by, ending_of, Lawful}
use Rattle.stopping.specs.Follows.{ends_true, lasts_most, following, unended, ended}
use Rattle.stopping.specs.Halts.{lasts-accepted, lasts_refused}
use Rattle.scheme.specs.Machine.{Machine}
use Rattle.scheme.specs.Scheme.{Scheme}
use Rattle.scheme.specs.Lawful.{LawfulScheme, lawful, front-rounds, back-rounds, sealing_accepted, out_long_lem as scheme-out-long}
use Rattle.instances.specs.Schemes.{known}
use Rattle.instances.specs.Limits.{most_assoc, most_text}
use Rattle.plan.specs.Planned.{placed}
use Rattle.isap.specs.declared.Job.{Job}
use Rattle.isap.specs.Records.{sealing_of, input_of, machine_of, course_of, shapes_of, front_of, back_of, total_of, after}
use Rattle.isap.specs.Slices.{ending_right, place_right, limits_right, stands_of}
use Rattle.isap.specs.Beginnings.{begun_job}
use Rattle.isap.specs.Begun.{limits_within}

-- ---- the endings that the rounds done allow

abbrev Allowed : (b : Bool) → (v f e d : ℕ) → Type 0
Allowed b v f e d = pick (eqb e 2) (pick b false (eqb d v)) (eqb e (ending_of v f d true)) ≡ true

module _ (v f d : ℕ) where
  allows_on : (b : Bool) (e : ℕ) → e ≡ 0 → d < v + f → Allowed b v f e d
  allows_on b e z k = rw (z, ends_true v f d, ne_eqb d (v + f) (λ q. omega arith))

  allows_well : (b : Bool) (e : ℕ) → e ≡ 1 → d ≡ v + f → Allowed b v f e d
  allows_well b e z k = rw (z, ends_true v f d, eq-eqb d (v + f) k)

  allows_refused : (b : Bool) (e : ℕ) → b ≡ false → e ≡ 2 → d ≡ v → Allowed b v f e d
  allows_refused b e n z k = rw (z, n, eq-eqb d v k)

module _ (of : ℕ → Scheme) where
  -- a record as a beginning gives it, with what belongs to it lent
  pub record Begun (j : Job) (assoc text out : List ℕ) : Type 0 where
    pub is_known : known j.instance ≡ true
    pub is_direction : (j.direction ≡ 1) ⊎ (j.direction ≡ 2)
    pub assoc_limit : j.assoc ≤ most_assoc
    pub text_limit : j.text ≤ most_text
    pub is_begun : j ≡ begun_job of j.instance j.direction j.key j.nonce j.tag j.assoc j.text
    pub assoc_long : length assoc ≡ j.assoc
    pub text_long : length text ≡ j.text
    pub out_long : length out ≡ j.text

module _ (of : ℕ → Scheme) (laws : (i : ℕ) → LawfulScheme (of i)) where
  -- ---- a begun job

  module _ (j : Job) (assoc text out : List ℕ) (h : Begun of j assoc text out) where
    abbrev seals : Bool
    seals = sealing_of j.direction

    -- its rounds up to the decision and after it
    abbrev before : ℕ
    before = front_of of j

    abbrev beyond : ℕ
    beyond = back_of of j

    abbrev c : Course Machine
    c = course_of of j assoc text

    abbrev m : Machine
    m = machine_of j out

    pub law : Lawful c
    unfolding course_of
    law = lawful (of j.instance) (laws j.instance) (input_of j assoc text)

    -- its record after n rounds, or at its end if that comes first
    unfoldable pub at : ℕ → Job
    at n = after of j (following c law m n)

    -- ---- its rounds

    front_is_lem : front_rounds c ≡ before
    unfolding course_of front_of
    front_is_lem =
        front-rounds (of j.instance) (laws j.instance) (input_of j assoc text)
        ∙ ap₂ ((of j.instance).front_count seals) h.assoc_long h.text_long

    back_is_lem : back_rounds c ≡ beyond
    unfolding course_of back_of
    back_is_lem =
        back-rounds (of j.instance) (laws j.instance) (input_of j assoc text)
        ∙ ap₂ ((of j.instance).back_count seals) h.assoc_long h.text_long

    total_is : front_rounds c + back_rounds c ≡ total_of of j
    total_is = ap₂ (λ (v e : ℕ). v + e) front_is_lem back_is_lem

    seals-accepted : seals ≡ true → accepted c m ≡ true
    unfolding course_of
    seals-accepted e = sealing_accepted (of j.instance) (laws j.instance) (input_of j assoc text) e m

    -- a refusal ends it at the decision
    pub lasts_is : lasts c m ≡ pick (accepted c m) (total_of of j) (front_of of j)
    unfolding lasts
    lasts_is = ap₂ (λ (t v : ℕ). pick (accepted c m) t v) total_is front_is_lem

    pub sealing_lasts : j.direction ≡ 1 → lasts c m ≡ total_of of j
    sealing_lasts d = lasts-accepted c law m (seals-accepted (eq-eqb j.direction 1 d)) ∙ total_is

    -- ---- its record stands, and the output is as long as the text

    pub out_long_lem : (n : ℕ) → length (halted c n m).out ≡ j.text
    unfolding course_of
    out_long_lem n = scheme-out-long (of j.instance) (laws j.instance) (input_of j assoc text) n m (h.out_long ∙ sym h.text_long) ∙ h.text_long

    limits : limits_right j.instance j.direction j.assoc j.text ≡ true
    limits = limits_within j.instance j.direction j.assoc j.text h.is_known h.is_direction h.assoc_limit h.text_limit

    -- at its end it has ended well, or by a refusal, and that only an opening
    over_well : (n : ℕ) → lasts c m ≤ n → accepted c m ≡ true → Allowed seals before beyond (ended_by c n m) (min n (lasts c m))
    over_well n k ok =
        allows_well before beyond (min n (lasts c m)) seals (ended_by c n m) (ended c law m n k ∙ ap (λ (b : Bool). pick b 1 2) ok)
        (omega (arith, lasts-accepted c law m ok, front_is_lem, back_is_lem))

    over : (n : ℕ) → lasts c m ≤ n → (b : Bool) → seals ≡ b → (ok : Bool) → accepted c m ≡ ok
        → Allowed seals before beyond (ended_by c n m) (min n (lasts c m))
    over n k true s ok e = over_well n k (seals-accepted s)
    over n k false s true e = over_well n k e
    over n k false s false e =
        allows_refused before beyond (min n (lasts c m)) seals (ended_by c n m) s (ended c law m n k ∙ ap (λ (b : Bool). pick b 1 2) e)
        (omega (arith, lasts_refused c law m e, front_is_lem))

    ending_at : (n : ℕ) → ending_right of (at n) ≡ true
    unfolding ending_right at front_of back_of following
    ending_at n =
        elim (dec_lt n (lasts c m)) [
          | yes y ↦ allows_on before beyond (min n (lasts c m)) seals (ended_by c n m) (unended c law m n y) (omega (arith, y, lasts_most c law m, front_is_lem, back_is_lem))
          | no k ↦ over n (omega arith) seals refl (accepted c m) refl
        ]

    place_at : (n : ℕ) → place_right of (at n) ≡ true
    unfolding place_right at shapes_of passes
    place_at n =
        let w = placed (place_of (shapes_of of j) (following c law m n).done) in
        let e0 = eq-eqb w.part w.part refl in
        let e1 = eq-eqb w.call w.call refl in
        let e2 = eq-eqb w.round w.round refl in
        λ i. passes (e0 i ∷ e1 i ∷ e2 i ∷ [])

    pub stands_at_lem : (n : ℕ) → stands_of of (at n) ≡ true
    unfolding stands_of passes at front_of back_of following
    stands_at_lem n =
        let done = le-leb (min n (lasts c m)) (total_of of j) (omega (arith, lasts_most c law m, total_is)) in
        let e = ending_at n in
        let w = place_at n in
        λ i. passes (limits i ∷ done i ∷ e i ∷ w i ∷ [])
