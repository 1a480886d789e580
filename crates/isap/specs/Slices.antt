-- What a slice gives: the refusals 9, 10 and 11 in this order, else as many steps as the budget has.
-- Assumes nothing.
use Rattle.std.specs.Prelude.{Bool, true, false, List, [], ◌∷◌, ℕ, ◌-◌, eqb, leb, length}
use Rattle.bits.specs.Pick.{pick}
use Rattle.bits.specs.Every.{passes}
use Rattle.stopping.specs.Places.{place_of}
use Rattle.stopping.specs.Course.{ending_of}
use Rattle.scheme.specs.Scheme.{Scheme}
use Rattle.instances.specs.Schemes.{known}
use Rattle.instances.specs.Limits.{most_assoc, most_text}
use Rattle.plan.specs.declared.places.Place.{Place}
use Rattle.plan.specs.Planned.{placed}
use Rattle.isap.specs.declared.Job.{Job}
use Rattle.isap.specs.declared.Sliced.{Sliced}
use Rattle.isap.specs.Records.{sealing_of, shapes_of, front_of, back_of, total_of, after, ran}

-- ---- what no scheme is needed for

abbrev pub same_place : Place → Place → Bool
same_place v w = passes (eqb v.part w.part ∷ eqb v.call w.call ∷ eqb v.round w.round ∷ [])

-- instance, direction and lengths within their limits
unfoldable pub limits_right : (instance direction a m : ℕ) → Bool
limits_right instance direction a m = passes (known instance ∷ leb 1 direction ∷ leb direction 2 ∷ leb a most_assoc ∷ leb m most_text ∷ [])

-- the lent lengths are the record's
unfoldable pub lent_of : Job → (assoc text out : List ℕ) → Bool
lent_of j assoc text out = passes (eqb (length assoc) j.assoc ∷ eqb (length text) j.text ∷ eqb (length out) j.text ∷ [])

-- document 01's number of an ending
unfoldable pub number_of : ℕ → ℕ
number_of e = pick (eqb e 0) 100 (pick (eqb e 1) 0 8)

module _ (of : ℕ → Scheme) where
  -- ---- a record that can stand

  -- an ending that the rounds done allow: 2 at the decision of an opening, else the one of a job whose tag is right
  unfoldable pub ending_right : Job → Bool
  ending_right j =
      pick (eqb j.ending 2)
      (pick (sealing_of j.direction) false (eqb j.done (front_of of j)))
      (eqb j.ending (ending_of (front_of of j) (back_of of j) j.done true))

  -- the place of the next round
  unfoldable pub place_right : Job → Bool
  place_right j = same_place j.place (placed (place_of (shapes_of of j) j.done))

  unfoldable pub stands_of : Job → Bool
  stands_of j = passes (limits_right j.instance j.direction j.assoc j.text ∷ leb j.done (total_of of j) ∷ ending_right j ∷ place_right j ∷ [])

  -- ---- the answer

  -- the refusal of a slice, 0 if there is none
  unfoldable pub refusal_of : Job → (assoc text out : List ℕ) → ℕ
  refusal_of j assoc text out = pick (stands_of j) (pick (eqb j.ending 0) (pick (lent_of j assoc text out) 0 11) 10) 9

  unfoldable pub answer : Job → (assoc text out : List ℕ) → (budget : ℕ) → Sliced
  answer j assoc text out budget =
      record {
        number = number_of (ran of j assoc text out budget).ending;
        rounds = (ran of j assoc text out budget).done - j.done;
        job = after of j (ran of j assoc text out budget);
      }

  unfoldable pub slice_of : Job → (assoc text out : List ℕ) → (budget : ℕ) → Sliced
  slice_of j assoc text out budget =
      pick (eqb (refusal_of j assoc text out) 0) (answer j assoc text out budget) (record { number = refusal_of j assoc text out; rounds = 0; job = j })

  -- the output after it
  unfoldable pub out_of : Job → (assoc text out : List ℕ) → (budget : ℕ) → List ℕ
  out_of j assoc text out budget = pick (eqb (refusal_of j assoc text out) 0) (ran of j assoc text out budget).machine.out out
