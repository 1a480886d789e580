-- Document 01's number of each refusal, and of a test that may refuse: 0 if it does not.
-- Assumes nothing.
use Rattle.std.specs.Prelude.{ℕ, Result, Ok, Err}
use Rattle.parcel.specs.declared.refusals.Refusal.{Refusal}
use Rattle.parcel.specs.declared.refusals.Refusal.TheVariants.{UnknownInstance, KeyLength, TextTooLong, OutputLength, WrongMark, CounterSpent, CutShort}

abbrev pub number_of_refusal : Refusal → ℕ
number_of_refusal UnknownInstance = 1
number_of_refusal KeyLength = 2
number_of_refusal TextTooLong = 5
number_of_refusal OutputLength = 6
number_of_refusal WrongMark = 12
number_of_refusal CounterSpent = 13
number_of_refusal CutShort = 14

abbrev pub number_in : {A : Type 0} → Result A Refusal → ℕ
number_in (Ok x) = 0
number_in (Err e) = number_of_refusal e
