-- Some whole calls of the part at which a record stands, done in one go: they are as many steps as they have rounds.
-- Assumes nothing.
use Rattle.std.specs.Prelude.{◌≡◌, true, List, ℕ, ◌+◌, ◌*◌, ◌≤◌, ◌<◌, length}
use Rattle.std.proofs.Common.{sym, ◌∙◌, zero-mul, arith, lit<}
use Rattle.std.proofs.Math.Path.{ap, ap₂}
use Rattle.stopping.specs.Parts.{Part, Shape}
use Rattle.stopping.specs.Places.{place, place_of, part_at}
use Rattle.stopping.specs.Course.{Core, parts, stands_at, steps}
use Rattle.stopping.specs.Wholes.{row-place, row_within, row-steps}
use Rattle.scheme.specs.Machine.{Machine}
use Rattle.scheme.specs.Scheme.{Scheme}
use Rattle.scheme.specs.Calls.{Goes}
use Rattle.scheme.specs.Lawful.{LawfulScheme}
use Rattle.instances.specs.Limits.{most_calls}
use Rattle.plan.specs.Planned.{placed}
use Rattle.calls.specs.Rowable.{rowable}
use Rattle.isap.specs.declared.Job.{Job}
use Rattle.isap.specs.Records.{sealing_of, core_of, course_of, shapes_of, total_of, changed, after, ran}
use Rattle.isap.specs.Turns.{shape_here, Ready, lawful_c, stands_at_lem, shape_now, all_rounds, more}
use Rattle.isap.specs.Sofar.{Fresh, fresh_at, fresh-ready, Turned}

-- its part is one whose calls go in one go
abbrev pub Rowable : Job → Type 0
Rowable j = rowable j.instance (sealing_of j.direction) j.place.part ≡ true

module _ (of : ℕ → Scheme) where
  -- the rounds of a call of the part at which a record stands
  abbrev pub rounds_at : Job → ℕ
  rounds_at j = (shape_here of j j.place).rounds

  -- so many calls of its part, neither the first nor the last, from the start of one
  pub record Row (j : Job) (calls : ℕ) : Type 0 where
    pub at_start : j.place.round ≡ 0
    pub not_first : 0 < j.place.call
    pub not_last : j.place.call + calls < (shape_here of j j.place).count
    pub small : j.place.call + calls ≤ most_calls

  -- a record further on, by some rounds of a budget
  pub record Further (j : Job) (assoc text out : List ℕ) (left : ℕ) (r : Job) (out' : List ℕ) : Type 0 where
    pub count : ℕ
    pub some : 0 < count
    pub fits : count ≤ left
    pub turned : Turned of j assoc text out count r out'

  -- the rounds by which a record is further on
  pub rounds_on : {j : Job} {assoc text out : List ℕ} {count : ℕ} {r : Job} {out' : List ℕ} → Turned of j assoc text out count r out' → r.done ≡ j.done + count
  rounds_on t = ap Job.done t.job_is ∙ t.done_is

  -- ---- what the code chooses: none, or a row that the budget allows

  pub record Many (j : Job) (calls : ℕ) : Type 0 where
    pub row : Row j calls
    pub is_many : Rowable j

  pub record Rows (j : Job) (left calls : ℕ) : Type 0 where
    pub is_row : 0 < calls → Many j calls
    pub fits : calls * rounds_at j ≤ left

  pub no_row : (j : Job) (left : ℕ) → Rows j left 0
  no_row j left = record { is_row = λ z. absurd (omega arith); fits = omega (arith, zero-mul (rounds_at j)) }

  -- what the calls leave
  abbrev pub Went : Job → (calls : ℕ) → (assoc text out state' out' : List ℕ) → Type 0
  Went j calls assoc text out state out' =
      Goes (of j.instance) (sealing_of j.direction) j.place.part j.place.call calls j.nonce assoc text j.state j.session out state out'

module _ (of : ℕ → Scheme) (laws : (i : ℕ) → LawfulScheme (of i)) (j : Job) (assoc text out : List ℕ) (h : Fresh of j assoc text out) (calls : ℕ) (row : Row of j calls) where
  ready : Ready of j assoc text out 1
  ready = fresh-ready of laws h 1 (lit< tt) (omega (arith, (fresh_at of laws h).is_round))

  abbrev q : Part Machine
  q = part_at (parts (course_of of j assoc text)) j.place.part

  shape_is : q.shape ≡ shape_here of j j.place
  shape_is = shape_now of laws j assoc text out 1 ready j.place.part

  stands : stands_at (course_of of j assoc text) j.done ≡ place j.place.part j.place.call 0
  stands =
      let e = sym h.place_is in
      stands_at_lem of laws j assoc text out 1 ready j.done ∙ (λ i. place (e i).part (e i).call (e i).round)
      ∙ ap (place j.place.part j.place.call) row.at_start

  room : j.place.call + calls < q.shape.count
  room = omega (arith, row.not_last, ap Shape.count shape_is)

  -- the rounds that the calls have
  abbrev count : ℕ
  count = calls * rounds_at of j

  rounds_is : calls * q.shape.rounds ≡ count
  rounds_is = ap (λ (k : Shape). calls * k.rounds) shape_is

  pub row_upto : j.done + count < total_of of j
  row_upto =
      omega (
        arith,
        row_within (course_of of j assoc text) (lawful_c of laws j assoc text out 1 ready) (core_of j out) h.unended (more of laws j assoc text out 1 ready) j.place.part j.place.call stands calls room,
        rounds_is,
        all_rounds of laws j assoc text out 1 ready,
      )

  place_is_lem : place_of (shapes_of of j) (j.done + count) ≡ place j.place.part (j.place.call + calls) 0
  place_is_lem =
      sym (stands_at_lem of laws j assoc text out 1 ready (j.done + count)) ∙ ap (λ (n : ℕ). stands_at (course_of of j assoc text) (j.done + n)) (sym rounds_is)
      ∙ row-place (course_of of j assoc text) (lawful_c of laws j assoc text out 1 ready) (core_of j out) h.unended (more of laws j assoc text out 1 ready) j.place.part j.place.call stands calls room

  module _ (state out' : List ℕ) (g : Went of j calls assoc text out state out') where
    core : Core Machine
    core = record { machine = record { state = state; session = j.session; out = out'; tag = j.tag }; done = j.done + count; ending = 0 }

    ran_is : ran of j assoc text out count ≡ core
    unfolding ran core Goes course_of
    ran_is =
        ap (λ (n : ℕ). steps (course_of of j assoc text) n (core_of j out)) (sym rounds_is)
        ∙ row-steps (course_of of j assoc text) (lawful_c of laws j assoc text out 1 ready) (core_of j out) h.unended (more of laws j assoc text out 1 ready) j.place.part j.place.call stands calls room
        ∙ ap₂ (λ (m : Machine) (n : ℕ). record { machine = m; done = j.done + n; ending = 0 }) (g j.key j.tag) rounds_is

    -- the record with the state, the rounds and the place that the calls lead to
    pub row-turned : length out' ≡ length out → Turned of j assoc text out count
        (changed j j.tag (j.done + count) (record { part = j.place.part; call = j.place.call + calls; round = 0 }) j.ending state j.session) out'
    unfolding core
    row-turned l =
        record {
          job_is =
              (λ i. changed j j.tag (j.done + count) (placed (sym place_is_lem i)) (h.unended i) state j.session) ∙ ap (after of j) (sym ran_is);
          out_is = ap (λ (k : Core Machine). k.machine.out) (sym ran_is);
          done_is = ap (λ (k : Core Machine). k.done) ran_is;
          up_to = omega (arith, row_upto);
          ends = λ all z. absurd (omega (arith, row_upto, all));
          out_long = l;
        }
