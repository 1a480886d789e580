-- What the host task does: a turn is a slice of the kept job, and then the sampler; it has turns until the job has ended or none is left.
-- Assumes nothing.
use Rattle.std.specs.Prelude.{◌≡◌, List, ℕ, zero, suc, ◌+◌, ◌-◌, eqb, ltb}
use Rattle.bits.specs.Pick.{pick}
use Rattle.scheme.specs.Scheme.{Scheme}
use Rattle.isap.specs.declared.Job.{Job}
use Rattle.isap.specs.declared.Answer.{Answer}
use Rattle.isap.specs.Slices.{slice_of, out_of}
use Rattle.station.specs.Statements.{answer_of}
use Rattle.task.specs.declared.Turns.{Turns}
use Rattle.task.specs.declared.Kept.{Kept}

-- the sampler is served after a slice that gave this answer
unfoldable pub served_of : Turns → Answer → Turns
served_of t a =
    record {
      left = pick (eqb a.number 100) (t.left - 1) 0;
      served = t.served + 1;
      waited = pick (ltb t.waited a.rounds) a.rounds t.waited;
      number = a.number;
    }

-- the task between two turns
pub record Going : Type 0 where
  pub turns : Turns
  pub job : Job
  pub out : List ℕ

-- before its first
abbrev pub first : Job → List ℕ → ℕ → Going
first j out turns = record { turns = record { left = turns; served = 0; waited = 0; number = 100 }; job = j; out = out }

abbrev pub kept_of : Going → Kept
kept_of g = record { turns = g.turns; job = g.job }

module _ (of : ℕ → Scheme) (assoc text : List ℕ) (budget : ℕ) where
  unfoldable pub turn : Going → Going
  turn g =
      record {
        turns = served_of g.turns (answer_of (slice_of of g.job assoc text g.out budget));
        job = (slice_of of g.job assoc text g.out budget).job;
        out = out_of of g.job assoc text g.out budget;
      }

  -- its turns, at most n
  unfoldable pub turns_of : ℕ → Going → Going
  turns_of zero g = g
  turns_of (suc n) g = pick (eqb g.turns.left 0) g (turns_of n (turn g))

module _ (of : ℕ → Scheme) where
  abbrev pub RunsTask : Job → (assoc text out : List ℕ) → (budget turns : ℕ) → Kept → (out' : List ℕ) → Type 0
  RunsTask j assoc text out budget turns r out' =
      (r ≡ kept_of (turns_of of assoc text budget turns (first j out turns))) × (out' ≡ (turns_of of assoc text budget turns (first j out turns)).out)
