-- The kinds of parts that the code has, of ISAP and of Spook, by their numbers.
-- Assumes nothing.
use Rattle.std.specs.Prelude.{ℕ, ◌<◌}
use Rattle.std.proofs.Common.{lit<}
use Rattle.plan.specs.declared.kinds.Kind.{Kind}
use Rattle.plan.specs.declared.kinds.Kind.TheVariants.{KeyStart, KeyBits, KeyEnd, Texts, MacStart, Assocs, Ciphers, MacKeyStart, MacKeyBits, MacKeyEnd, MacEnd}
use Rattle.plan.specs.declared.walks.Stage.{Stage}
use Rattle.plan.specs.declared.walks.Stage.TheVariants.{Seed, Start, Data, Text, Closing}

-- a kind's place in a sealing's order
abbrev pub kind_number : Kind → ℕ
kind_number KeyStart = 0
kind_number KeyBits = 1
kind_number KeyEnd = 2
kind_number Texts = 3
kind_number MacStart = 4
kind_number Assocs = 5
kind_number Ciphers = 6
kind_number MacKeyStart = 7
kind_number MacKeyBits = 8
kind_number MacKeyEnd = 9
kind_number MacEnd = 10

-- there are eleven
pub kind_number-below : (k : Kind) → kind_number k < 11
kind_number-below KeyStart = lit< tt
kind_number-below KeyBits = lit< tt
kind_number-below KeyEnd = lit< tt
kind_number-below Texts = lit< tt
kind_number-below MacStart = lit< tt
kind_number-below Assocs = lit< tt
kind_number-below Ciphers = lit< tt
kind_number-below MacKeyStart = lit< tt
kind_number-below MacKeyBits = lit< tt
kind_number-below MacKeyEnd = lit< tt
kind_number-below MacEnd = lit< tt

-- a stage's place in Spook's first walk
abbrev pub stage_number : Stage → ℕ
stage_number Seed = 0
stage_number Start = 1
stage_number Data = 2
stage_number Text = 3
stage_number Closing = 4
