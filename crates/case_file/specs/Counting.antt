-- What is counted of the cases.
-- Assumes nothing.
use Rattle.std.specs.Prelude.{ℕ, ◌+◌, ◌%◌, ◌^◌, List, slice_index, slice_set}

-- the counts with the one at this place larger by this, on 32 bits
abbrev pub raised_at : ℕ → ℕ → List ℕ → List ℕ
raised_at place by counts = slice_set counts place ((slice_index counts place + by) % 2 ^ 32)
