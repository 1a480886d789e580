-- `read_line` ends: each turn leaves less room in the line.
use Rattle.std.proofs.Common.{◌-◌}
use Rattle.arrayvec.specs.ArrayVec.{array_vec_len}
use Rattle.known.proofs.lines.read_line.Given as goal

abbrev pub decreases-loop-input : goal.decreases-loop-input
decreases-loop-input g l = g.row.N - array_vec_len l.line
