-- Jobs of Spook from their beginning to their end: after every number of steps the job is the line of that number. The lines are the second
-- program's; each is compared with one step from the line before it.
-- Assumes nothing.
use mathlib.Core.Path.{◌≡◌, refl}
use mathlib.Core.Bool.{true}
use mathlib.Core.List.{◌∷◌}
use Prim.Native.Nat.{ℕ, ◌<◌}
use lib.ListN.{get_or}
use Rattle.stopping.specs.Course.{steps}
use Rattle.s1p.specs.Parts.{course}
use Rattle.s1p.specs.Spook.{spook}
use Rattle.s1p_vectors.proofs.Steps.{goes, goes-steps}
use Rattle.s1p_vectors.proofs.Tables.{none_input, none_begun, none_lines, both_input, both_begun, both_lines, short_input, short_begun, short_lines, full_input, full_begun, full_lines, data_input, data_begun, data_lines, wrong_input, wrong_begun, wrong_lines}

none_goes : goes none_input none_begun none_lines ≡ true
unfolding goes none_lines
none_goes = refl

-- a sealing of nothing
pub sealing_none : (n : ℕ) → n < 37 → steps (course spook none_input) n none_begun ≡ get_or (none_begun ∷ none_lines) n none_begun
unfolding none_lines
sealing_none = goes-steps none_input none_begun none_lines none_goes

both-goes : goes both_input both_begun both_lines ≡ true
unfolding goes both_lines
both-goes = refl

-- a sealing of data and text, the last block of each short
pub sealing_both : (n : ℕ) → n < 73 → steps (course spook both_input) n both_begun ≡ get_or (both_begun ∷ both_lines) n both_begun
unfolding both_lines
sealing_both = goes-steps both_input both_begun both_lines both-goes

short-goes : goes short_input short_begun short_lines ≡ true
unfolding goes short_lines
short-goes = refl

-- an opening whose second walk has no text call
pub opening_short : (n : ℕ) → n < 73 → steps (course spook short_input) n short_begun ≡ get_or (short_begun ∷ short_lines) n short_begun
unfolding short_lines
opening_short = goes-steps short_input short_begun short_lines short-goes

full_goes : goes full_input full_begun full_lines ≡ true
unfolding goes full_lines
full_goes = refl

-- an opening with a full block of data and a second text block
pub opening_full : (n : ℕ) → n < 121 → steps (course spook full_input) n full_begun ≡ get_or (full_begun ∷ full_lines) n full_begun
unfolding full_lines
opening_full = goes-steps full_input full_begun full_lines full_goes

data_goes : goes data_input data_begun data_lines ≡ true
unfolding goes data_lines
data_goes = refl

-- an opening with no text: the closing call ends it, and a step more does nothing
pub opening_data : (n : ℕ) → n < 62 → steps (course spook data_input) n data_begun ≡ get_or (data_begun ∷ data_lines) n data_begun
unfolding data_lines
opening_data = goes-steps data_input data_begun data_lines data_goes

wrong_goes : goes wrong_input wrong_begun wrong_lines ≡ true
unfolding goes wrong_lines
wrong_goes = refl

-- an opening with a wrong tag: the decision ends it, the output as it was, and a step more does nothing
pub opening_wrong : (n : ℕ) → n < 50 → steps (course spook wrong_input) n wrong_begun ≡ get_or (wrong_begun ∷ wrong_lines) n wrong_begun
unfolding wrong_lines
opening_wrong = goes-steps wrong_input wrong_begun wrong_lines wrong_goes
