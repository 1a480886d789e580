-- `task::run` meets its contract. The loop's invariant: some number of turns may still come, and they lead to where all of them do (`Holds`).
-- Assumes nothing.
use Rattle.std.proofs.Common.{ℕ}
use Rattle.task.proofs.Holds.{Holds}
use Rattle.task.proofs.run.Given as goal

abbrev pub invariant-loop-seen : goal.invariant-loop-seen
invariant-loop-seen l = (k : ℕ) × Holds l.initial.kept l.assoc l.text l.initial.out l.budget l.turns k (record { turns = l.seen; job = l.kept; out = l.out })

abbrev pub decreases-loop-seen : goal.decreases-loop-seen
decreases-loop-seen l = l.seen.left
