-- The bytes of a record's state and session beyond its scheme's n, in a slice of any record, forged ones included: they are left as they were,
-- and nothing else in the answer or in the output depends on them. In a job from a beginning they are zero.
-- Assumes nothing.
use Rattle.std.specs.Prelude.{◌≡◌, Bool, ℕ, ◌+◌, ◌-◌, ◌≤◌, eqb, length, take, replicate}
use Rattle.std.proofs.Math.Path.{refl, sym, ap}
use Rattle.std.proofs.Common.{◌∙◌, subst, arith, drop_at}
use Rattle.std.proofs.Math.Bool.{true, false}
use mathlib.Core.List.{List, ◌++◌}
use Rattle.std.proofs.Math.ListN.{drop}
use Rattle.std.proofs.lemmas.List.{length-replicate, replicate-append-replicate}
use Rattle.bits.specs.Pick.{pick}
use Rattle.stopping.specs.Course.{Core, begun}
use Rattle.stopping.specs.Follows.{following, follows}
use Rattle.scheme.specs.Machine.{Machine}
use Rattle.scheme.specs.Scheme.{Scheme}
use Rattle.scheme.specs.Lawful.{Keyed, LawfulScheme}
use Rattle.scheme.specs.Beyond.{core-others, steps-others, steps_leave_state, steps_leave_session}
use Rattle.isap.specs.declared.Job.{Job}
use Rattle.isap.specs.declared.Sliced.{Sliced}
use Rattle.isap.specs.Records.{input_of, machine_of, core_of, changed, course_of, shapes_of, front_of, back_of, after, ran}
use Rattle.isap.specs.Slices.{ending_right, place_right, stands_of, lent_of, number_of, refusal_of, answer, slice_of, out_of}
use Rattle.isap.specs.Reached.{Begun, law, at}
use Rattle.isap.specs.Lasts.{state_begun, session_begun, begun-ready}
use Rattle.isap.specs.Budgets.{Progress, sum, sliced, budgets}

-- a record with t behind the first n bytes of its state, and v behind those of its session
abbrev pub others : (n : ℕ) → (t v : List ℕ) → Job → Job
others n t v j = changed j j.tag j.done j.place j.ending (take n j.state ++ t) (take n j.session ++ v)

-- an answer with them in its record
abbrev pub answer_others : (n : ℕ) → (t v : List ℕ) → Sliced → Sliced
answer_others n t v r = record { number = r.number; rounds = r.rounds; job = others n t v r.job }

-- what lies beyond n in the record k is as it was in j
pub record Left (n : ℕ) (j k : Job) : Type 0 where
  pub state : drop n k.state ≡ drop n j.state
  pub session : drop n k.session ≡ drop n j.session

-- and it is zero
pub record Zeroed (n : ℕ) (j : Job) : Type 0 where
  pub state : drop n j.state ≡ replicate (64 - n) 0
  pub session : drop n j.session ≡ replicate (64 - n) 0

-- what is all zeros is so from any place on
pub zeros-behind : (i k : ℕ) → i ≤ k → (s : List ℕ) → s ≡ replicate k 0 → drop i s ≡ replicate (k - i) 0
zeros-behind i k h s e =
    let all : i + (k - i) ≡ k = omega arith in
    ap (drop i) (e ∙ ap (λ (n : ℕ). replicate n 0) (sym all) ∙ sym (replicate-append-replicate i (k - i) 0))
    ∙ drop_at (replicate i 0) (replicate (k - i) 0) i (length-replicate i 0)

module _ (of : ℕ → Scheme) (laws : (i : ℕ) → LawfulScheme (of i)) where
  -- ---- a slice of any record, whatever is lent to it

  module _ (j : Job) (assoc text out : List ℕ) (budget : ℕ) (keyed : Keyed (of j.instance) (input_of j assoc text))
      (room : (of j.instance).n ≤ length j.state) (room' : (of j.instance).n ≤ length j.session) where
    abbrev n : ℕ
    n = (of j.instance).n

    -- whether it is refused does not depend on them
    same_refusal : (t v : List ℕ) → refusal_of of (others n t v j) assoc text out ≡ refusal_of of j assoc text out
    unfolding refusal_of stands_of lent_of ending_right place_right shapes_of front_of back_of
    same_refusal t v = refl

    same-steps : (t v : List ℕ) → ran of (others n t v j) assoc text out budget ≡ core-others n t v (ran of j assoc text out budget)
    unfolding ran course_of
    same-steps t v = steps-others (of j.instance) (laws j.instance) (input_of j assoc text) keyed budget (core_of j out) room room' t v

    -- with other bytes in their place the answer is the same, with those bytes in its record
    pub slice_others : (t v : List ℕ) → slice_of of (others n t v j) assoc text out budget ≡ answer_others n t v (slice_of of j assoc text out budget)
    unfolding slice_of answer shapes_of
    slice_others t v =
        let r = refusal_of of j assoc text out in
        let e = same-steps t v in
        ap (λ (k : ℕ). pick (eqb k 0) (answer of (others n t v j) assoc text out budget) (record { number = k; rounds = 0; job = others n t v j })) (same_refusal t v)
        ∙ (λ i. pick (eqb r 0) (record { number = number_of (e i).ending; rounds = (e i).done - j.done; job = after of j (e i) })
        (record { number = r; rounds = 0; job = others n t v j }))
        ∙ go r (eqb r 0) t v
      where
        go : (r : ℕ) (b : Bool) (t v : List ℕ)
            → pick {A = Sliced} b (answer_others n t v (answer of j assoc text out budget)) (record { number = r; rounds = 0; job = others n t v j })
            ≡ answer_others n t v (pick b (answer of j assoc text out budget) (record { number = r; rounds = 0; job = j }))
        go r true t v = refl
        go r false t v = refl

    -- and so is the output
    pub out_others : (t v : List ℕ) → out_of of (others n t v j) assoc text out budget ≡ out_of of j assoc text out budget
    unfolding out_of
    out_others t v =
        let e = same_refusal t v in
        let f = same-steps t v in
        λ i. pick (eqb (e i) 0) (f i).machine.out out

    -- they are left as they were
    pub slice_leaves : Left n j (slice_of of j assoc text out budget).job
    unfolding slice_of answer ran course_of
    slice_leaves =
        let s = of j.instance in
        let l = laws j.instance in
        let x = input_of j assoc text in
        go (eqb (refusal_of of j assoc text out) 0)
        (record {
          state = steps_leave_state s l x keyed budget (core_of j out) room room';
          session = steps_leave_session s l x keyed budget (core_of j out) room room';
        })
      where
        go : (b : Bool) → Left n j (after of j (ran of j assoc text out budget))
            → Left n j (pick b (answer of j assoc text out budget) (record { number = refusal_of of j assoc text out; rounds = 0; job = j })).job
        go true e = e
        go false e = record { state = refl; session = refl }

  -- ---- a job from a beginning

  module _ (j : Job) (assoc text out : List ℕ) (h : Begun of j assoc text out) (keyed : Keyed (of j.instance) (input_of j assoc text))
      (room : (of j.instance).n ≤ 64) where
    -- after any number of rounds
    pub zeros_beyond : (k : ℕ) → Zeroed (of j.instance).n (at of laws j assoc text out h k)
    unfolding at course_of following
    zeros_beyond k =
        let s = of j.instance in
        let l = laws j.instance in
        let x = input_of j assoc text in
        let q = begun (machine_of j out) in
        let e = sym (follows (s.course x) (law of laws j assoc text out h) (machine_of j out) k) in
        let r = begun-ready of j assoc text out h room in
        record {
          state =
              ap (λ (u : Core Machine). drop s.n u.machine.state) e ∙ steps_leave_state s l x keyed k q r.state r.session
              ∙ zeros-behind s.n 64 room j.state (state_begun of j assoc text out h);
          session =
              ap (λ (u : Core Machine). drop s.n u.machine.session) e ∙ steps_leave_session s l x keyed k q r.state r.session
              ∙ zeros-behind s.n 64 room j.session (session_begun of j assoc text out h);
        }

    -- after any row of budgets
    pub zeros_in_slices : (bs : List ℕ) → Zeroed (of j.instance).n (sliced of assoc text bs (record { job = j; out = out; rounds = 0 })).job
    zeros_in_slices bs =
        subst (λ (q : Progress). Zeroed (of j.instance).n q.job) (sym (budgets of laws j assoc text out h bs)) (zeros_beyond (sum bs))
