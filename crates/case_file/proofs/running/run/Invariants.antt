use Rattle.std.proofs.Common.{◌≤◌, ◌≡◌}
use denote.Param.Always.{always_mut}
use Rattle.case_file.proofs.running.run.Given as goal

abbrev pub invariant-loop : goal.invariant-loop
invariant-loop g l =
    (always_mut g.C.FnMut l.initial.case → always_mut g.C.FnMut l.case)
    × (l.tally.cases ≡ l.counter)
    × (l.tally.differences ≤ l.tally.cases)
