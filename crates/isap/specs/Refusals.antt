-- Document 01's number of each refusal, and of a test that may refuse: 0 if it does not.
-- Assumes nothing.
use Rattle.std.specs.Prelude.{ℕ, Result, Ok, Err}
use Rattle.isap.specs.declared.refusals.Refusal.{Refusal}
use Rattle.isap.specs.declared.refusals.Refusal.TheVariants.{UnknownInstance, KeyLength, NonceLength, AssocTooLong, TextTooLong, OutputLength, TagLength, RecordCannotStand, JobHasEnded, LentLengths}

abbrev pub number_of_refusal : Refusal → ℕ
number_of_refusal UnknownInstance = 1
number_of_refusal KeyLength = 2
number_of_refusal NonceLength = 3
number_of_refusal AssocTooLong = 4
number_of_refusal TextTooLong = 5
number_of_refusal OutputLength = 6
number_of_refusal TagLength = 7
number_of_refusal RecordCannotStand = 9
number_of_refusal JobHasEnded = 10
number_of_refusal LentLengths = 11

abbrev pub number_in : {A : Type 0} → Result A Refusal → ℕ
number_in (Ok x) = 0
number_in (Err e) = number_of_refusal e
