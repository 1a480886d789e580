-- The places of the kinds of cases in a tally.
-- Assumes nothing.
use Rattle.std.specs.Prelude.{ℕ}
use Rattle.parcels.specs.declared.kinds.Kind.{Kind}
use Rattle.parcels.specs.declared.kinds.Kind.TheVariants.{Built, NotBuilt, Opened, WrongTag, LengthLent, CutShort, WrongMark, WrongHeader}

-- in the order in which they are printed
abbrev pub place_of : Kind → ℕ
place_of Built = 0
place_of NotBuilt = 1
place_of Opened = 2
place_of WrongTag = 3
place_of LengthLent = 4
place_of CutShort = 5
place_of WrongMark = 6
place_of WrongHeader = 7
