-- The loop of a slice, turn by turn: so many of the budget's rounds are left, and the others are done.
-- Assumes nothing.
use Rattle.std.specs.Prelude.{◌≡◌, refl, ◌⊎◌, ℕ, ◌+◌, ◌-◌, ◌≤◌, ◌<◌, length}
use Rattle.std.proofs.Math.Path.{sym, ap, ap₂, subst}
use Rattle.std.proofs.Common.{◌∙◌, inl, inr}
use Rattle.std.proofs.Math.Bool.{true}
use mathlib.Core.List.{List}
use native.Mathlib.Omega.{arith}
use borrow.Author.Tests.{eqb-true, leb-true, ne_eqb}
use Rattle.bits.specs.Every.{passes_at}
use Rattle.stopping.specs.PlaceLaws.{within-parts}
use Rattle.stopping.specs.Places.{place_of, shape_at}
use Rattle.stopping.specs.Course.{Core, ending_of, steps}
use Rattle.stopping.specs.Follows.{steps-add, steps-ended, total_ends}
use Rattle.scheme.specs.Machine.{Machine}
use Rattle.scheme.specs.Scheme.{Scheme}
use Rattle.scheme.specs.Lawful.{LawfulScheme}
use Rattle.instances.specs.Limits.{most_assoc, most_text}
use Rattle.plan.specs.declared.places.Place.{Place}
use Rattle.plan.specs.Planned.{placed}
use Rattle.isap.specs.declared.Job.{Job}
use Rattle.isap.specs.Records.{core_of, course_of, shapes_of, front_of, back_of, total_of, after, ran}
use Rattle.isap.specs.Turns.{shape_here, Ready, At, stands_in, ends_with, total_is, some_shapes_of}
use Rattle.isap.specs.Slices.{ending_right, place_right, limits_right, stands_of}

module _ (of : ℕ → Scheme) where
  -- a record that stands and has not ended, with what belongs to it lent
  pub record Fresh (j : Job) (assoc text out : List ℕ) : Type 0 where
    pub unended : j.ending ≡ 0
    pub place_is : j.place ≡ placed (place_of (shapes_of of j) j.done)
    pub inside : j.done < total_of of j
    pub assoc_long : length assoc ≡ j.assoc
    pub text_long : length text ≡ j.text
    pub out_long : length out ≡ j.text
    pub assoc_limit : j.assoc ≤ most_assoc
    pub text_limit : j.text ≤ most_text

  pub record Sofar (j : Job) (assoc text out₀ : List ℕ) (budget left : ℕ) (r : Job) (out : List ℕ) : Type 0 where
    pub fresh : Fresh j assoc text out₀
    pub left_is : left ≤ budget
    pub job_is : r ≡ after of j (ran of j assoc text out₀ (budget - left))
    pub out_is : out ≡ (ran of j assoc text out₀ (budget - left)).machine.out
    pub done_is : (ran of j assoc text out₀ (budget - left)).done ≡ j.done + (budget - left)
    pub within : (ran of j assoc text out₀ (budget - left)).done ≤ total_of of j
    pub good : (ran of j assoc text out₀ (budget - left)).ending ≡ 0 → (ran of j assoc text out₀ (budget - left)).done < total_of of j
    pub out_long : length out ≡ j.text

  -- the rounds up to the decision and after it, as numbers of the code
  pub record Timed (j : Job) (front back : ℕ) : Type 0 where
    pub front_is : front ≡ front_of of j
    pub back_is : back ≡ back_of of j

  -- what one turn gives
  pub record Turned (j : Job) (assoc text out : List ℕ) (count : ℕ) (r : Job) (out' : List ℕ) : Type 0 where
    pub job_is : r ≡ after of j (ran of j assoc text out count)
    pub out_is : out' ≡ (ran of j assoc text out count).machine.out
    pub done_is : (ran of j assoc text out count).done ≡ j.done + count
    pub up_to : j.done + count ≤ total_of of j
    pub ends : j.done + count ≡ total_of of j → (ran of j assoc text out count).ending ≡ 0 → ⊥
    pub out_long : length out' ≡ length out

module _ (of : ℕ → Scheme) (laws : (i : ℕ) → LawfulScheme (of i)) where
  -- it stands in a call, and is ready for some rounds of it
  module _ {j : Job} {assoc text out : List ℕ} (h : Fresh of j assoc text out) where
    pub fresh_at : At of j j.place
    fresh_at = stands_in of laws j h.place_is h.inside

    pub fresh-ready : (count : ℕ) → 0 < count
        → j.place.round + count ≤ (shape_here of j j.place).rounds
        → Ready of j assoc text out count
    fresh-ready count k f =
        record {
          unended = h.unended;
          place_is = h.place_is;
          inside = h.inside;
          assoc_long = h.assoc_long;
          text_long = h.text_long;
          out_long = h.out_long;
          assoc_limit = h.assoc_limit;
          text_limit = h.text_limit;
          some_rounds = k;
          fits = f;
        }

  module _ (j : Job) (assoc text out₀ : List ℕ) (budget : ℕ) where
    -- before the first round
    pub sofar-start : Fresh of j assoc text out₀ → Sofar of j assoc text out₀ budget budget j out₀
    unfolding ran steps
    sofar-start h =
        let z : budget - budget ≡ 0 = omega arith in
        let c : ran of j assoc text out₀ (budget - budget) ≡ core_of j out₀ = ap (ran of j assoc text out₀) z in
        record {
          fresh = h;
          left_is = omega arith;
          job_is = ap (λ (p : Place). with_place p) h.place_is ∙ ap (after of j) (sym c);
          out_is = ap (λ (k : Core Machine). k.machine.out) (sym c);
          done_is = ap (λ (k : Core Machine). k.done) c ∙ omega arith;
          within = subst (λ (k : Core Machine). k.done ≤ total_of of j) (sym c) (omega (arith, h.inside));
          good = λ e. subst (λ (k : Core Machine). k.done < total_of of j) (sym c) h.inside;
          out_long = h.out_long;
        }
      where
        with_place : Place → Job
        with_place p =
            record {
              instance = j.instance;
              direction = j.direction;
              assoc = j.assoc;
              text = j.text;
              key = j.key;
              nonce = j.nonce;
              tag = j.tag;
              done = j.done;
              place = p;
              ending = j.ending;
              state = j.state;
              session = j.session;
            }

    -- an unended job goes on
    module _ (left : ℕ) (r : Job) (out : List ℕ) (h : Sofar of j assoc text out₀ budget left r out) (e : r.ending ≡ 0) where
      unended_now : (ran of j assoc text out₀ (budget - left)).ending ≡ 0
      unended_now = sym (ap (λ (y : Job). y.ending) h.job_is) ∙ e

      pub sofar-fresh : Fresh of r assoc text out
      unfolding shapes_of front_of back_of
      sofar-fresh =
          subst (λ (y : Job). Fresh of y assoc text out) (sym h.job_is)
          (record {
            unended = unended_now;
            place_is = refl;
            inside = h.good unended_now;
            assoc_long = h.fresh.assoc_long;
            text_long = h.fresh.text_long;
            out_long = h.out_long;
            assoc_limit = h.fresh.assoc_limit;
            text_limit = h.fresh.text_limit;
          })

    -- after a turn
    pub sofar_more : (left : ℕ) (r : Job) (out : List ℕ) (count : ℕ) (r' : Job) (out' : List ℕ) → Sofar of j assoc text out₀ budget left r out → count ≤ left
        → Turned of r assoc text out count r' out' → Sofar of j assoc text out₀ budget (left - count) r' out'
    unfolding ran course_of front_of back_of shapes_of
    sofar_more left r out count r' out' h k t =
        let c = course_of of j assoc text in
        let n = budget - left in
        let n' = budget - (left - count) in
        let core = ran of j assoc text out₀ n in
        let b = h.left_is in
        let sum : n + count ≡ n' = omega arith in
        -- the turn's steps are those of the whole
        let f : ran of r assoc text out count ≡ ran of j assoc text out₀ n' =
        ap₂ (λ (y : Job) (u : List ℕ). ran of y assoc text u count) h.job_is h.out_is
        ∙ sym (steps-add c n count (core_of j out₀)) ∙ ap (λ (i : ℕ). steps c i (core_of j out₀)) sum in
        let d : r.done ≡ core.done = ap (λ (y : Job). y.done) h.job_is in
        let total : total_of of r ≡ total_of of j = ap (λ (y : Job). total_of of y) h.job_is in
        let done : (ran of j assoc text out₀ n').done ≡ r.done + count = sym (ap (λ (u : Core Machine). u.done) f) ∙ t.done_is in
        let up : (ran of j assoc text out₀ n').done ≤ total_of of j = omega (arith, done, t.up_to, total) in
        record {
          fresh = h.fresh;
          left_is = omega arith;
          job_is = t.job_is ∙ ap₂ (λ (y : Job) (u : List ℕ). after of y (ran of y assoc text u count)) h.job_is h.out_is
              ∙ ap (after of j) (sym (ap₂ (λ (y : Job) (u : List ℕ). ran of y assoc text u count) h.job_is h.out_is) ∙ f);
          out_is = t.out_is ∙ ap (λ (u : Core Machine). u.machine.out) f;
          done_is = omega (arith, done, d, h.done_is);
          within = up;
          good = λ w.
              let not-all : r.done + count ≡ total_of of r → ⊥ = λ u. t.ends u (ap (λ (q : Core Machine). q.ending) f ∙ w) in
              omega (arith, done, t.up_to, total, not-all);
          out_long = t.out_long ∙ h.out_long;
        }

    -- at the end of the loop
    pub sofar_end : (left : ℕ) (r : Job) (out : List ℕ) → Sofar of j assoc text out₀ budget left r out → (left ≡ 0) ⊎ (r.ending ≡ 0 → ⊥)
        → ran of j assoc text out₀ (budget - left) ≡ ran of j assoc text out₀ budget
    unfolding ran
    sofar_end left r out h (inl e) = ap (ran of j assoc text out₀) (omega (arith, h.left_is))
    sofar_end left r out h (inr f) =
        let c = course_of of j assoc text in
        let core = ran of j assoc text out₀ (budget - left) in
        let s : budget ≡ budget - left + left = omega (arith, h.left_is) in
        sym
        (ap (λ (k : ℕ). steps c k (core_of j out₀)) s ∙ steps-add c (budget - left) left (core_of j out₀)
        ∙ steps-ended c left core (λ e. f (ap (λ (y : Job). y.ending) h.job_is ∙ e)))

  -- ---- a turn, from what the code did

  module _ (j : Job) (assoc text out : List ℕ) (count : ℕ) (h : Ready of j assoc text out count) where
    pub up_to_lem : j.done + count ≤ total_of of j
    up_to_lem =
        let w = place_of (shapes_of of j) j.done in
        let fits : w.round + count ≤ (shape_at (shapes_of of j) w.part).rounds =
        subst (λ (v : Place). v.round + count ≤ (shape_here of j v).rounds) h.place_is h.fits in
        subst (λ (n : ℕ). j.done + count ≤ n) (total_is of laws j)
        (within-parts (shapes_of of j) (some_shapes_of of laws j) j.done count (subst (λ (n : ℕ). j.done < n) (sym (total_is of laws j)) h.inside) fits)

    pub turned_of : (m : Machine)
        → ran of j assoc text out count ≡ record { machine = m; done = j.done + count; ending = ends_with of j assoc text (j.done + count) m }
        → (r : Job) → r ≡ after of j (record { machine = m; done = j.done + count; ending = ends_with of j assoc text (j.done + count) m })
        → (out' : List ℕ) → out' ≡ m.out → length out' ≡ length out
        → Turned of j assoc text out count r out'
    unfolding ends_with
    turned_of m e r q out' o l =
        record {
          job_is = q ∙ ap (after of j) (sym e);
          out_is = o ∙ ap (λ (k : Core Machine). k.machine.out) (sym e);
          done_is = ap (λ (k : Core Machine). k.done) e;
          up_to = up_to_lem;
          ends = λ all z.
              total_ends (front_of of j) (back_of of j) (j.done + count) ((course_of of j assoc text).accepts m) all (sym (ap (λ (k : Core Machine). k.ending) e) ∙ z);
          out_long = l;
        }

  -- ---- a record that can stand

  pub fresh_of : (j : Job) (assoc text out : List ℕ) → stands_of of j ≡ true → j.ending ≡ 0 → length assoc ≡ j.assoc → length text ≡ j.text → length out ≡ j.text
      → Fresh of j assoc text out
  unfolding stands_of limits_right ending_right place_right
  fresh_of j assoc text out h e ha ht ho =
      let t = passes_at _ h in
      let lim = passes_at _ (t 0) in
      let w = placed (place_of (shapes_of of j) j.done) in
      let q = passes_at _ (t 3) in
      let front = front_of of j in
      let back = back_of of j in
      let ends : j.ending ≡ ending_of front back j.done true =
      eqb-true j.ending (ending_of front back j.done true)
      (simp (ne_eqb j.ending 2 (λ z. omega arith)) at (t 2)) in
      let below : j.done ≤ total_of of j = leb-true j.done (total_of of j) (t 1) in
      let not-all : j.done ≡ total_of of j → ⊥ = λ z.
      total_ends front back j.done true z (sym ends ∙ e) in
      let e0 = eqb-true j.place.part w.part (q 0) in
      let e1 = eqb-true j.place.call w.call (q 1) in
      let e2 = eqb-true j.place.round w.round (q 2) in
      record {
        unended = e;
        place_is = λ i. record { part = e0 i; call = e1 i; round = e2 i };
        inside = omega (arith, below, not-all);
        assoc_long = ha;
        text_long = ht;
        out_long = ho;
        assoc_limit = leb-true j.assoc most_assoc (lim 3);
        text_limit = leb-true j.text most_text (lim 4);
      }
