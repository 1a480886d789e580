-- What a beginning's refusals leave out, and which of its records can stand.
-- Assumes nothing.
use Rattle.std.specs.Prelude.{◌≡◌, Bool, ◌⊎◌, List, [], ◌∷◌, ℕ, ◌+◌, ◌≤◌, ◌<◌, eqb, leb}
use Rattle.std.proofs.Math.Path.{refl}
use Rattle.std.proofs.Common.{sym, ap, ◌∙◌, inl, inr}
use Rattle.std.proofs.Math.Bool.{true, false}
use native.Mathlib.Omega.{arith}
use borrow.Author.Tests.{eqb-true, eqb-false, leb-true, eq-eqb, ne_eqb, le-leb}
use Rattle.bits.specs.Pick.{pick}
use Rattle.bits.specs.Every.{passes}
use Rattle.stopping.specs.Course.{ending_of}
use Rattle.stopping.specs.Follows.{ends_true}
use Rattle.scheme.specs.Scheme.{Scheme}
use Rattle.scheme.specs.Lawful.{LawfulScheme}
use Rattle.instances.specs.Schemes.{known}
use Rattle.instances.specs.Limits.{most_assoc, most_text}
use Rattle.plan.specs.declared.places.Place.{Place}
use Rattle.isap.specs.declared.Job.{Job}
use Rattle.isap.specs.declared.Begun as begins
use Rattle.isap.specs.Records.{sealing_of, shapes_of, front_of, back_of, total_of}
use Rattle.isap.specs.Slices.{ending_right, same_place, place_right, limits_right, stands_of}
use Rattle.isap.specs.Beginnings.{limits_refusal, tag_refusal, or_else, begun_job, no_job, begun_or}

-- ---- no refusal: everything is within its limits

limits_by : (i k n a m : Bool) → ◌≡◌ {A = ℕ} (pick i (pick k (pick n (pick a (pick m 0 5) 4) 3) 2) 1) 0
    → (i ≡ true) × (k ≡ true) × (n ≡ true) × (a ≡ true) × (m ≡ true)
limits_by true true true true true q = (refl, refl, refl, refl, refl)
limits_by true true true true false q = absurd (omega (arith, q))
limits_by true true true false m q = absurd (omega (arith, q))
limits_by true true false a m q = absurd (omega (arith, q))
limits_by true false n a m q = absurd (omega (arith, q))
limits_by false k n a m q = absurd (omega (arith, q))

pub tag_none : (t : ℕ) → tag_refusal t ≡ 0 → t ≡ 16
unfolding tag_refusal
tag_none t q = eqb-true t 16 (go (eqb t 16) q)
  where
    go : (b : Bool) → ◌≡◌ {A = ℕ} (pick b 0 7) 0 → b ≡ true
    go true q = refl
    go false q = absurd (omega (arith, q))

pub or_none : (r s : ℕ) → or_else r s ≡ 0 → (r ≡ 0) × (s ≡ 0)
unfolding or_else
or_none r s q = go (eqb r 0) refl q
  where
    go : (b : Bool) → eqb r 0 ≡ b → pick b s r ≡ 0 → (r ≡ 0) × (s ≡ 0)
    go true e q = (eqb-true r 0 e, q)
    go false e q = absurd (eqb-false r 0 e q)

-- ---- the records

same_place_lem : (v : Place) → same_place v v ≡ true
unfolding passes
same_place_lem v = rw (eq-eqb v.part v.part refl, eq-eqb v.call v.call refl, eq-eqb v.round v.round refl)

-- the direction's limits
directed : (d : ℕ) → (d ≡ 1) ⊎ (d ≡ 2) → (1 ≤ d) × (d ≤ 2)
directed d (inl e) = (omega arith, omega arith)
directed d (inr e) = (omega arith, omega arith)

pub limits_within : (i d a m : ℕ) → known i ≡ true → (d ≡ 1) ⊎ (d ≡ 2) → a ≤ most_assoc → m ≤ most_text → limits_right i d a m ≡ true
unfolding limits_right passes
limits_within i d a m k w ha hm =
    let t = directed d w in
    rw (k, le-leb 1 d t.0, le-leb d 2 t.1, le-leb a most_assoc ha, le-leb m most_text hm)

-- every refusal is small
pub or_most : (r s n : ℕ) → r ≤ n → s ≤ n → or_else r s ≤ n
unfolding or_else
or_most r s n h k = go (eqb r 0)
  where
    go : (b : Bool) → pick b s r ≤ n
    go true = k
    go false = h

pub tag_small : (t : ℕ) → tag_refusal t ≤ 7
unfolding tag_refusal
tag_small t = go (eqb t 16)
  where
    go : (b : Bool) → pick {A = ℕ} b 0 7 ≤ 7
    go true = omega arith
    go false = omega arith

-- no job ends before its first round: there are rounds up to its decision
ending_start : (v e : ℕ) → 0 < v → ending_of v e 0 true ≡ 0
ending_start v e h = ends_true v e 0 ∙ ap (λ (b : Bool). pick b 1 0) (ne_eqb 0 (v + e) (λ z. omega (arith, z, h)))

-- the record of a beginning that is not refused
pub begun_job_lem : (r : ℕ) (j : Job) → r ≡ 0 → (begun_or r j).job ≡ j
unfolding begun_or
begun_job_lem r j e = ap (λ (b : Bool). (pick {A = begins.Begun} b (record { number = 100; rounds = 0; job = j }) (record { number = r; rounds = 0; job = no_job })).job) (eq-eqb r 0 e)

module _ (of : ℕ → Scheme) where
  pub limits_none : (instance key nonce a m : ℕ) → limits_refusal of instance key nonce a m ≡ 0
      → (known instance ≡ true) × (key ≡ (of instance).key_bytes) × (nonce ≡ 16) × (a ≤ most_assoc) × (m ≤ most_text)
  unfolding limits_refusal
  limits_none instance key nonce a m q =
      let t = limits_by (known instance) (eqb key (of instance).key_bytes) (eqb nonce 16) (leb a most_assoc) (leb m most_text) q in
      (t.0, eqb-true key (of instance).key_bytes t.1, eqb-true nonce 16 t.2, leb-true a most_assoc t.3, leb-true m most_text t.4)

  pub limits_small : (instance key nonce a m : ℕ) → limits_refusal of instance key nonce a m ≤ 5
  unfolding limits_refusal
  limits_small instance key nonce a m = go (known instance) (eqb key (of instance).key_bytes) (eqb nonce 16) (leb a most_assoc) (leb m most_text)
    where
      go : (i k n a m : Bool) → pick i (pick k (pick n (pick a (pick m 0 5) 4) 3) 2) 1 ≤ 5
      go true true true true true = omega arith
      go true true true true false = omega arith
      go true true true false m = omega arith
      go true true false a m = omega arith
      go true false n a m = omega arith
      go false k n a m = omega arith

  pub none_stands : stands_of of no_job ≡ false
  unfolding stands_of no_job limits_right passes known
  none_stands = refl

module _ (of : ℕ → Scheme) (laws : (i : ℕ) → LawfulScheme (of i)) where
  module _ (instance direction : ℕ) (key nonce tag : List ℕ) (a m : ℕ) where
    abbrev begun : Job
    begun = begun_job of instance direction key nonce tag a m

    ending_begun : ending_right of begun ≡ true
    unfolding ending_right begun_job front_of back_of
    ending_begun =
        let b = sealing_of direction in
        let v = (of instance).front_count b a m in
        let e = (of instance).back_count b a m in
        eq-eqb 0 (ending_of v e 0 true) (sym (ending_start v e ((laws instance).decides b a m)))

    place-begun : place_right of begun ≡ true
    unfolding place_right begun_job shapes_of
    place-begun = same_place_lem begun.place

    done_begun : leb begun.done (total_of of begun) ≡ true
    unfolding begun_job
    done_begun = le-leb 0 (total_of of begun) (omega arith)

    pub begun_stands : known instance ≡ true → (direction ≡ 1) ⊎ (direction ≡ 2) → a ≤ most_assoc → m ≤ most_text
        → stands_of of (begun_job of instance direction key nonce tag a m) ≡ true
    unfolding stands_of passes
    begun_stands k d ha hm =
        let lim : limits_right begun.instance begun.direction begun.assoc begun.text ≡ true =
        unfold begun_job in limits_within instance direction a m k d ha hm in
        λ i. passes (lim i ∷ done_begun i ∷ ending_begun i ∷ place-begun i ∷ [])
