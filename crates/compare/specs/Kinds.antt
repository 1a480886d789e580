-- The places of the kinds of cases in a tally.
-- Assumes nothing.
use Rattle.std.specs.Prelude.{ℕ}
use Rattle.compare.specs.declared.kinds.Kind.{Kind}
use Rattle.compare.specs.declared.kinds.Kind.TheVariants.{Message, WholeRefused, Sealing, Opening, WrongTag, BeginningRefused, Standing, NotStanding, Ended, OtherLengths, Slices}

-- in the order in which they are printed
abbrev pub place_of : Kind → ℕ
place_of Message = 0
place_of WholeRefused = 1
place_of Sealing = 2
place_of Opening = 3
place_of WrongTag = 4
place_of BeginningRefused = 5
place_of Standing = 6
place_of NotStanding = 7
place_of Ended = 8
place_of OtherLengths = 9
place_of Slices = 10
