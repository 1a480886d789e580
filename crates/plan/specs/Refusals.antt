-- Document 01's number of a refused plan.
-- Assumes nothing.
use Rattle.std.specs.Prelude.{ℕ}
use Rattle.plan.specs.declared.Refusal.{Refusal}
use Rattle.plan.specs.declared.Refusal.TheVariants.{UnknownInstance, AssocTooLong, TextTooLong}

abbrev pub refusal_number : Refusal → ℕ
refusal_number UnknownInstance = 1
refusal_number AssocTooLong = 4
refusal_number TextTooLong = 5
