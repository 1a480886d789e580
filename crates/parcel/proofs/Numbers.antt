-- A refusal has a number.
-- Assumes nothing.
use mathlib.Core.Path.{◌≡◌}
use native.Mathlib.Omega.{arith}
use Rattle.parcel.specs.declared.refusals.Refusal.{Refusal}
use Rattle.parcel.specs.declared.refusals.Refusal.TheVariants.{UnknownInstance, KeyLength, TextTooLong, OutputLength, WrongMark, CounterSpent, CutShort}
use Rattle.parcel.specs.Refusals.{number_of_refusal}

pub some_number : (e : Refusal) → number_of_refusal e ≡ 0 → ⊥
some_number UnknownInstance z = omega (arith, z)
some_number KeyLength z = omega (arith, z)
some_number TextTooLong z = omega (arith, z)
some_number OutputLength z = omega (arith, z)
some_number WrongMark z = omega (arith, z)
some_number CounterSpent z = omega (arith, z)
some_number CutShort z = omega (arith, z)
