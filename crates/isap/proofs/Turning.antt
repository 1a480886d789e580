-- `turn`, from what the code of a scheme gives: the rounds of one call are as many steps.
-- Assumes nothing.
use mathlib.Core.Path.{◌≡◌, refl, sym, ap₂, ◌∙◌, subst}
use mathlib.Core.List.{List}
use Prim.Native.Nat.{ℕ, ◌+◌, ◌≤◌, ◌<◌}
use native.Mathlib.Omega.{arith}
use lib.Dec.{eqb}
use lib.ListN.{length}
use Rattle.stopping.specs.Parts.{Shape, rounds_in}
use Rattle.stopping.specs.Places as places
use Rattle.stopping.specs.Places.{place_of, shape_at}
use Rattle.stopping.specs.Course.{ending_of}
use Rattle.scheme.specs.Machine.{Machine}
use Rattle.scheme.specs.Scheme.{all_shapes}
use Rattle.scheme.specs.Calls as calls
use Rattle.instances.specs.Schemes.{scheme_of, lawful-scheme}
use Rattle.instances.specs.Limits.{most_rounds}
use Rattle.plan.specs.declared.places.Place.{Place}
use Rattle.plan.specs.Planned.{placed, Standing}
use Rattle.isap.specs.declared.Job.{Job}
use Rattle.isap.specs.Records.{sealing_of, course_of, shapes_of, changed}
use Rattle.isap.specs.Turns.{At, Here, Ready, Meets, Left, Ends, at, total_is, rounds_now, ends_with, gone_by, turn_steps}
use Rattle.isap.specs.Sofar.{Timed, Turned, up_to_lem, turned_of}
use Rattle.isap.specs.Rows.{rounds_at}
use Rattle.isap.proofs.Going.{is_part_lem, total_of_lem}

module _ (j : Job) (assoc text out : List ℕ) (count : ℕ) (h : Ready scheme_of j assoc text out count) where
  there : At scheme_of j j.place
  there = at scheme_of lawful-scheme j assoc text out count h

  -- the shapes by the lent lengths
  lent : all_shapes (scheme_of j.instance) (sealing_of j.direction) j.assoc j.text ≡ all_shapes (scheme_of j.instance) (sealing_of j.direction) (length assoc) (length text)
  lent = ap₂ (all_shapes (scheme_of j.instance) (sealing_of j.direction)) (sym h.assoc_long) (sym h.text_long)

  pub stands : Here scheme_of j assoc text out
  unfolding shapes_of
  stands =
      record {
        at =
            record {
              is_part = subst (λ (hs : List Shape). j.place.part < length hs) lent there.is_part;
              is_call = subst (λ (hs : List Shape). j.place.call < (shape_at hs j.place.part).count) lent there.is_call;
              is_round = subst (λ (hs : List Shape). j.place.round < (shape_at hs j.place.part).rounds) lent there.is_round;
            };
        out_long = h.out_long ∙ sym h.text_long;
      }

  pub rest : calls.Rest (scheme_of j.instance) (sealing_of j.direction) j.place.part j.place.round count
  unfolding shapes_of
  rest = record { a = j.assoc; m = j.text; is_part = there.is_part; fits = h.fits }

  pub done_fits : j.done + count ≤ most_rounds
  done_fits = omega (arith, up_to_lem scheme_of lawful-scheme j assoc text out count h, total_of_lem j h.assoc_limit h.text_limit)

  module _ (rounds : ℕ) (r : rounds ≡ rounds_at scheme_of j) where
    pub within : j.place.round + count ≤ rounds
    within = omega (arith, h.fits, r)

    pub can_move : (Standing j.instance (sealing_of j.direction) j.assoc j.text j.place count) × (rounds ≡ (shape_at (all_shapes (scheme_of j.instance) (sealing_of j.direction) j.assoc j.text) j.place.part).rounds)
    unfolding shapes_of
    can_move = (record { assoc_limit = h.assoc_limit; text_limit = h.text_limit; is_part = is_part_lem j there; is_call = there.is_call; is_round = h.fits }, r)

    module _ (front back : ℕ) (t : Timed scheme_of j front back) (s ss state out' tag : List ℕ) (m : Meets scheme_of j assoc text out s ss) (ts : calls.Turns (scheme_of j.instance) (sealing_of j.direction) j.key j.place.part j.place.round count s ss state)
        (l : Left scheme_of j (eqb (j.place.round + count) rounds) assoc text out state out' tag)
        (ending : ℕ) (ed : Ends scheme_of j (j.done + count) front back tag state ss ending)
        (w : Place)
        (pl : (n : ℕ) → n < rounds_in (all_shapes (scheme_of j.instance) (sealing_of j.direction) j.assoc j.text)
        → place_of (all_shapes (scheme_of j.instance) (sealing_of j.direction) j.assoc j.text) n ≡ places.place j.place.part j.place.call j.place.round
        → w ≡ placed (place_of (all_shapes (scheme_of j.instance) (sealing_of j.direction) j.assoc j.text) (n + count)))
        (long : length out' ≡ length out) where
      abbrev u : Machine
      u = record { state = state; session = ss; out = out'; tag = tag }

      ending_is : ending ≡ ends_with scheme_of j assoc text (j.done + count) u
      unfolding ends_with Ends
      ending_is = ed assoc text out' ∙ (λ i. ending_of (t.front_is i) (t.back_is i) (j.done + count) ((course_of scheme_of j assoc text).accepts u))

      place_is_lem : w ≡ placed (place_of (shapes_of scheme_of j) (j.done + count))
      unfolding shapes_of
      place_is_lem =
          let e = sym h.place_is in
          pl j.done (subst (λ (n : ℕ). j.done < n) (sym (total_is scheme_of lawful-scheme j)) h.inside) (λ i. places.place (e i).part (e i).call (e i).round)

      pub together : (y : Job) → y ≡ changed j tag (j.done + count) w ending state ss → Turned scheme_of j assoc text out count y out'
      together y e =
          turned_of scheme_of lawful-scheme j assoc text out count h u
          (turn_steps scheme_of lawful-scheme j assoc text out count h u
          (gone_by scheme_of j assoc text out count rounds (r ∙ sym (rounds_now scheme_of lawful-scheme j assoc text out count h)) s ss state out' tag m ts l)) y
          (e ∙ (λ i. changed j tag (j.done + count) (place_is_lem i) (ending_is i) state ss)) out' refl long
