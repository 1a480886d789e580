-- What a slice of a kept job promises: all that it returns, the record that it leaves at its place, and the final bytes of the buffer that it
-- may write, each the one that the slice by value gives (isap, Slices). `Determined` shows that two results which it allows are equal.
-- Assumes nothing.
use Rattle.std.specs.Prelude.{◌≡◌, List, ℕ}
use Rattle.scheme.specs.Scheme.{Scheme}
use Rattle.isap.specs.declared.Job.{Job}
use Rattle.isap.specs.declared.Sliced.{Sliced}
use Rattle.isap.specs.declared.Answer.{Answer}
use Rattle.isap.specs.Slices.{slice_of, out_of}

-- what is answered of a slice, beside its record
abbrev pub answer_of : Sliced → Answer
answer_of r = record { number = r.number; rounds = r.rounds }

module _ (of : ℕ → Scheme) where
  abbrev pub KeepsSlice : Job → (assoc text out : List ℕ) → (budget : ℕ) → Answer → (job' : Job) → (out' : List ℕ) → Type 0
  KeepsSlice j assoc text out budget r job' out' =
      (r ≡ answer_of (slice_of of j assoc text out budget)) × (job' ≡ (slice_of of j assoc text out budget).job) × (out' ≡ out_of of j assoc text out budget)
