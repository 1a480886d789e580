use Rattle.std.proofs.Common.{◌≡◌, length, take}
use Rattle.case_file.specs.Filling.{steps, lowest_bytes}
use Rattle.case_file.proofs.filling.Sequence.fill.Given as goal

abbrev pub invariant-loop-b : goal.invariant-loop-b
invariant-loop-b l =
    (l.self.state ≡ steps l.b-index l.initial.self.state)
    × (length l.s ≡ length l.initial.s)
    × (take l.b-index l.s ≡ lowest_bytes l.b-index l.initial.self.state)
