-- What is printed of a difference.
-- Assumes nothing.
use Rattle.std.specs.Prelude.{ℕ, List, ◌++◌, codes}
use Rattle.std.specs.Fmt.{decimal}
use Rattle.case_file.specs.declared.verdict.Difference.{Difference}
use Rattle.case_file.specs.declared.verdict.What.{What}
use Rattle.case_file.specs.declared.verdict.What.TheVariants.{Number, Rounds, Output, Tag, Record, Counter, Reading, Fields, Ciphertext}

abbrev pub name_of : What → List ℕ
name_of Number = codes "number"
name_of Rounds = codes "rounds"
name_of Output = codes "output"
name_of Tag = codes "tag"
name_of Record = codes "record"
name_of Counter = codes "counter"
name_of Reading = codes "reading"
name_of Fields = codes "fields"
name_of Ciphertext = codes "ciphertext"

abbrev pub difference_of : Difference → List ℕ
difference_of d = codes "call " ++ decimal d.call ++ codes ": " ++ name_of d.what ++ codes " different"
