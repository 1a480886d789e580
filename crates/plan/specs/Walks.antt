-- Spook's parts: 0 to 3 walk over data and text, 4 is the closing call, 5 to 8 walk once more, in an opening.
-- Assumes nothing.
use Rattle.std.specs.Prelude.{◌≡◌, Bool, eqb, ltb}
use Rattle.std.proofs.Math.Path.{refl}
use Rattle.std.proofs.Math.Bool.{true, false}
use Prim.Native.Nat.{ℕ, zero, suc, ◌-◌, ◌≤◌, ◌<◌}
use Rattle.std.proofs.Common.{arith}
use Rattle.bits.specs.Pick.{pick}
use Rattle.bits.specs.Every.{upto_at}
use Rattle.stopping.specs.Places.{shape_at}
use Rattle.scheme.specs.Scheme.{all_shapes, parts_of}
use Rattle.s1p.specs.Cipher.{Cipher}
use Rattle.s1p.specs.Parts.{unless_empty}
use Rattle.s1p.specs.Counts.{walk_calls, front_shapes, second_shapes, back_shapes}
use Rattle.s1p.specs.Scheme.{s1p_scheme}

-- the calls of a part, as the code finds them (a reader may skip it): the second walk is left out for an empty text, and has one text call
-- less
unfoldable pub calls_of : (a m part : ℕ) → ℕ
calls_of a m part = pick (ltb part 5) (walk_calls a m part) (unless_empty m (pick (eqb part 8) (walk_calls a m (part - 5) - 1) (walk_calls a m (part - 5))))

unfoldable pub walk_parts : Bool → ℕ
walk_parts sealing = pick sealing 5 9

pub walk-parts_most : (s : Bool) → walk_parts s ≤ 9
unfolding walk_parts
walk-parts_most true = omega arith
walk-parts_most false = omega arith

module _ (p : Cipher) where
  pub parts_are : (s : Bool) → walk_parts s ≡ parts_of (s1p_scheme p) s
  unfolding walk_parts parts_of s1p_scheme all_shapes front_shapes second_shapes back_shapes
  parts_are true = refl
  parts_are false = refl

  module _ (a m : ℕ) where
    abbrev Shaped : Bool → ℕ → Type 0
    Shaped s part = shape_at (all_shapes (s1p_scheme p) s a m) part ≡ record { count = calls_of a m part; rounds = 12 }

  pub shape_of_lem : (s : Bool) (a m part : ℕ) → part < walk_parts s → Shaped a m s part
  unfolding walk_parts shape_at s1p_scheme all_shapes front_shapes second_shapes back_shapes calls_of walk_calls unless_empty
  shape_of_lem true a m part h = upto_at (Shaped a m true) 5 (((((tt, refl), refl), refl), refl), refl) part h
  shape_of_lem false a zero part h = upto_at (Shaped a zero false) 9 (((((((((tt, refl), refl), refl), refl), refl), refl), refl), refl), refl) part h
  shape_of_lem false a (suc m) part h = upto_at (Shaped a (suc m) false) 9 (((((((((tt, refl), refl), refl), refl), refl), refl), refl), refl), refl) part h
