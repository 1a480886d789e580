-- The last test of a row of tests decides, where the others have passed.
-- Assumes nothing.
use mathlib.Core.Path.{◌≡◌, refl}
use mathlib.Core.Bool.{Bool, true, false}
use mathlib.Core.List.{[], ◌∷◌}
use Rattle.bits.specs.Every.{passes}

pub last_test : (b : Bool) → b ≡ passes (b ∷ [])
unfolding passes
last_test true = refl
last_test false = refl
