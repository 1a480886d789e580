-- What holds at 0 to 4 holds below 5; so a state that is given lane by lane has the bits that each lane has.
-- Assumes nothing.
use mathlib.Core.Path.{◌≡◌, refl, ap, ◌∙◌}
use mathlib.Core.List.{List, []}
use Prim.Native.Nat.{ℕ, zero, suc, ◌<◌}
use native.Mathlib.Nat.{le_of_suc-le-suc, not-suc-le-zero}
use lib.ListN.{get_or}
use Rattle.bits.specs.Digit.{bit}
use Rattle.keccak.specs.Fips202.{StateArray}
use Rattle.keccak.specs.Agree.{Agree}
use Rattle.keccak.specs.Lanes.{five, at, lane, array_of}

pub below5 : (P : ℕ → Type 0) → P 0 → P 1 → P 2 → P 3 → P 4 → (n : ℕ) → n < 5 → P n
below5 P a b c d e zero h = a
below5 P a b c d e (suc zero) h = b
below5 P a b c d e (suc (suc zero)) h = c
below5 P a b c d e (suc (suc (suc zero))) h = d
below5 P a b c d e (suc (suc (suc (suc zero)))) h = e
below5 P a b c d e (suc (suc (suc (suc (suc n))))) h =
    absurd (not-suc-le-zero (le_of_suc-le-suc (le_of_suc-le-suc (le_of_suc-le-suc (le_of_suc-le-suc (le_of_suc-le-suc h))))))

pub at_five : {A : Type 0} (f : ℕ → A) (d : A) (n : ℕ) → n < 5 → get_or (five f) n d ≡ f n
at_five f d = below5 (λ (n : ℕ). get_or (five f) n d ≡ f n) refl refl refl refl refl

pub by_lanes : (f : ℕ → ℕ → ℕ) (B : StateArray) → ((x y z : ℕ) → x < 5 → y < 5 → z < 16 → bit (f x y) z ≡ B x y z)
    → (r : List (List ℕ)) → r ≡ five (λ y. five (λ x. f x y)) → Agree (array_of r) B
unfolding Agree array_of
by_lanes f B h r e x y z hx hy hz =
    ap (λ (r : List (List ℕ)). bit (lane r x y) z) e
    ∙ ap (λ (p : List ℕ). bit (at p x) z) (at_five (λ y. five (λ x. f x y)) [] y hy)
    ∙ ap (λ (v : ℕ). bit v z) (at_five (λ x. f x y) 0 x hx) ∙ h x y z hx hy hz
