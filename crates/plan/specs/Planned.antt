-- What the counting leaf promises: a plan or its refusal, and a place as the code has it.
-- Assumes nothing.
use Rattle.std.specs.Prelude.{◌≡◌, Bool, true, false, ℕ, ◌+◌, ◌≤◌, ◌<◌, leb}
use Rattle.bits.specs.Pick.{pick}
use Rattle.stopping.specs.Places.{shape_at}
use Rattle.stopping.specs.Places as places
use Rattle.scheme.specs.Scheme.{all_shapes, all_count, parts_of}
use Rattle.instances.specs.Schemes.{known, scheme_of}
use Rattle.instances.specs.Limits.{most_assoc, most_text}
use Rattle.plan.specs.declared.Planned.{Planned}
use Rattle.plan.specs.declared.places.Place.{Place}

-- document 01's refusals of a plan, in its order: 1, 4, 5; else the rounds of an opening up to its decision, of a sealing, and of an opening
abbrev pub unplanned : (number : ℕ) → Planned
unplanned number = record { number = number; verify = 0; sealing = 0; total = 0 }

unfoldable pub plan_of : (i a m : ℕ) → Planned
plan_of i a m =
    pick (known i)
    (pick (leb a most_assoc)
    (pick (leb m most_text)
    (record { number = 0; verify = (scheme_of i).front_count false a m; sealing = all_count (scheme_of i) true a m; total = all_count (scheme_of i) false a m })
    (unplanned 5))
    (unplanned 4))
    (unplanned 1)

-- what `plan` promises
abbrev pub Plans : (i a m : ℕ) → Planned → Type 0
Plans i a m r = r ≡ plan_of i a m

-- a place as the code has it
abbrev pub placed : places.Place → Place
placed w = record { part = w.part; call = w.call; round = w.round }

-- a call that is there, within the limits, and so many rounds of it still to do
pub record Standing (instance : ℕ) (sealing : Bool) (a m : ℕ) (at : Place) (count : ℕ) : Type 0 where
  pub assoc_limit : a ≤ most_assoc
  pub text_limit : m ≤ most_text
  pub is_part : at.part < parts_of (scheme_of instance) sealing
  pub is_call : at.call < (shape_at (all_shapes (scheme_of instance) sealing a m) at.part).count
  pub is_round : at.round + count ≤ (shape_at (all_shapes (scheme_of instance) sealing a m) at.part).rounds
