-- A bit of a string, as shift and mask pick it.
-- Assumes nothing.
use mathlib.Core.Path.{◌≡◌, refl, sym, ap, ap₂, ◌∙◌}
use mathlib.Core.List.{List, [], ◌∷◌}
use Prim.Native.Nat.{ℕ, zero, suc, ◌-◌, ◌*◌, ◌/◌, ◌%◌, ◌^◌, ◌<◌}
use native.Mathlib.Omega.{arith}
use lib.Bits.{bit_and, and_mask}
use lib.ListN.{length, get_or}
use Rattle.bits.specs.Digit.{bit}
use Rattle.bits.specs.Number.{value, value-bit}
use Rattle.mode.specs.Strings.{bits_of, bit_at}

-- eight bits on is one byte on
module _ (j : ℕ) where
  next_byte : suc (suc (suc (suc (suc (suc (suc (suc j))))))) / 8 ≡ suc (j / 8)
  next_byte = omega arith

  same_place_lem : suc (suc (suc (suc (suc (suc (suc (suc j))))))) % 8 ≡ j % 8
  same_place_lem = omega arith

bit_in_lem : (y : List ℕ) (i : ℕ) → i < 8 * length y → bit_at y i ≡ bit (get_or y (i / 8) 0) (7 - i % 8)
unfolding bit_at bits_of
bit_in_lem [] i h = absurd (omega arith)
bit_in_lem (x ∷ y) zero h = refl
bit_in_lem (x ∷ y) (suc zero) h = refl
bit_in_lem (x ∷ y) (suc (suc zero)) h = refl
bit_in_lem (x ∷ y) (suc (suc (suc zero))) h = refl
bit_in_lem (x ∷ y) (suc (suc (suc (suc zero)))) h = refl
bit_in_lem (x ∷ y) (suc (suc (suc (suc (suc zero))))) h = refl
bit_in_lem (x ∷ y) (suc (suc (suc (suc (suc (suc zero)))))) h = refl
bit_in_lem (x ∷ y) (suc (suc (suc (suc (suc (suc (suc zero))))))) h = refl
bit_in_lem (x ∷ y) (suc (suc (suc (suc (suc (suc (suc (suc j)))))))) h =
    bit_in_lem y j (omega arith) ∙ ap₂ (λ (u v : ℕ). bit (get_or (x ∷ y) u 0) (7 - v)) (sym (next_byte j)) (sym (same_place_lem j))

pub picked : (y : List ℕ) (i : ℕ) → i < 8 * length y → bit_and (get_or y (i / 8) 0 / 2 ^ (7 - i % 8)) 1 ≡ value (bit_at y i)
picked y i h =
    let x = get_or y (i / 8) 0 in
    and_mask (x / 2 ^ (7 - i % 8)) 1 ∙ sym (value-bit x (7 - i % 8)) ∙ ap value (sym (bit_in_lem y i h))
