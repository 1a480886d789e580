-- A job's course: the parts up to the decision, the parts after it, and what the decision accepts. A sealing has all its parts before the
-- decision and accepts always; an opening has its verification before it and its decryption after it. Nothing here knows the algorithm.
-- Assumes nothing.
use Rattle.std.specs.Prelude.{Bool, List, ◌++◌, ℕ, zero, suc, ◌+◌, min, ◌<◌, ltb, eqb}
use Rattle.bits.specs.Pick.{pick}
use Rattle.stopping.specs.Stopped.{stopped, one}
use Rattle.stopping.specs.Rows.{run}
use Rattle.stopping.specs.Parts.{Part, rounds_in, EachSome, row, shapes}
use Rattle.stopping.specs.Places.{Place, place_of, call_at}

pub record Course (M : Type 0) : Type 0 where
  pub front : List (Part M)
  pub back : List (Part M)
  pub accepts : M → Bool

-- a job: what it works on, its rounds done, and its ending
pub record Core (M : Type 0) : Type 0 where
  pub machine : M
  pub done : ℕ
  pub ending : ℕ

-- the ending that the d-th round gives, with v rounds up to the decision, e after it, and what the decision would say
unfoldable pub ending_of : (v e d : ℕ) → Bool → ℕ
ending_of v e d ok = pick (eqb d v) (pick ok (pick (eqb e 0) 1 0) 2) (pick (eqb d (v + e)) 1 0)

module _ {M : Type 0} where
  abbrev pub parts : Course M → List (Part M)
  parts c = c.front ++ c.back

  -- the rounds up to the decision, and after it
  unfoldable pub front_rounds : Course M → ℕ
  front_rounds c = rounds_in (shapes c.front)

  unfoldable pub back_rounds : Course M → ℕ
  back_rounds c = rounds_in (shapes c.back)

  -- ---- the algorithm, stopped

  -- whether the decision accepts
  unfoldable pub accepted : Course M → M → Bool
  accepted c m = c.accepts (run (row c.front) m)

  -- how many rounds it takes in all: a refusal ends it at the decision
  unfoldable pub lasts : Course M → M → ℕ
  lasts c m = pick (accepted c m) (front_rounds c + back_rounds c) (front_rounds c)

  -- stopped after n rounds, or at its end if that comes first
  unfoldable pub halted : Course M → ℕ → M → M
  halted c n m = stopped (row (parts c)) (min n (lasts c m)) m

  -- and how it has ended by then: 0 not ended, 1 well, 2 refused
  unfoldable pub ended_by : Course M → ℕ → M → ℕ
  ended_by c n m = pick (ltb n (lasts c m)) 0 (pick (accepted c m) 1 2)

  -- ---- a job, stepped

  -- a job after d rounds, the last of which left it at m
  abbrev pub core_at : Course M → ℕ → M → Core M
  core_at c d m = record { machine = m; done = d; ending = ending_of (front_rounds c) (back_rounds c) d (c.accepts m) }

  -- where a job stands
  unfoldable pub stands_at : Course M → ℕ → Place
  stands_at c d = place_of (shapes (parts c)) d

  -- one round at the place where it stands; an ended job is left as it is
  unfoldable pub step : Course M → Core M → Core M
  step c j =
      pick (eqb j.ending 0)
      (core_at c (suc j.done) (one (call_at (parts c) (stands_at c j.done)) (stands_at c j.done).round j.machine)) j

  unfoldable pub steps : Course M → ℕ → Core M → Core M
  steps c zero j = j
  steps c (suc k) j = steps c k (step c j)

  -- a job as it begins
  abbrev pub begun : M → Core M
  begun m = record { machine = m; done = 0; ending = 0 }

-- what every course keeps
pub record Lawful {M : Type 0} (c : Course M) : Type 0 where
  pub front_some : EachSome (shapes c.front)
  pub back_some : EachSome (shapes c.back)
  pub decides : 0 < front_rounds c
