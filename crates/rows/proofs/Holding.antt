-- What a loop keeps that feeds bits of a string to a state held in words (`engine`, `Holds`). For any permutation.
-- Assumes nothing.
use mathlib.Core.Path.{◌≡◌, refl, sym, ap, ◌∙◌}
use mathlib.Core.Bool.{Bool}
use mathlib.Core.List.{List, [], ◌∷◌, ◌++◌}
use Prim.Native.Nat.{ℕ, ◌+◌, ◌-◌, ◌*◌, ◌≤◌, ◌<◌}
use native.Mathlib.Omega.{arith}
use lib.Bits.{bit_xor}
use lib.ListN.{length, drop}
use Rattle.bits.specs.Number.{value}
use Rattle.bits.specs.Run.{rounds, Keeps}
use Rattle.bits.specs.Xors.{xors, xors_none}
use Rattle.bits.specs.Strings.{xor_at}
use Rattle.mode.specs.Strings.{bit_at, xor_bit}
use Rattle.engine.proofs.Holding.{Holds, holds_more-at, entered_long}
use Rattle.rows.specs.Bits.{bit_in}

-- what enters, on the words' bytes u with t behind them
pub bit-enters : (y : Bool) (u t v : List ℕ) → 0 < length u → v ≡ xors u (value y * 128 ∷ []) ++ drop 1 u → xor_bit y (u ++ t) ≡ v ++ t
unfolding xor_bit xor_at xors
bit-enters y [] t v h e = absurd (omega arith)
bit-enters y (x ∷ u) t v h e =
    ap (λ (w : List ℕ). w ++ t) (ap (λ (w : List ℕ). bit_xor x (value y * 128) ∷ (w ++ u)) (sym (xors_none u)) ∙ sym e)

-- one call more, with a bit of y
module _ {n : ℕ} {r : ℕ → List ℕ → List ℕ} (keeps : Keeps n r) (from count first : ℕ) (state : List ℕ) (some : 0 < n) where
  pub bit_more : (y : List ℕ) (i bit : ℕ) (u v w : List ℕ) → first ≤ i → Holds n r from count (bit_in y) first state (i - first) u → bit ≡ value (bit_at y i)
      → v ≡ xors u (bit * 128 ∷ []) ++ drop 1 u → w ≡ rounds r from count v → Holds n r from count (bit_in y) first state (i + 1 - first) w
  bit_more y i bit u v w le h e q d =
      let z = q ∙ ap (λ (k : ℕ). xors u (k * 128 ∷ []) ++ drop 1 u) e in
      holds_more-at n r from count (bit_in y) first state keeps i u v w le h
      (bit-enters (bit_at y i) u (drop n state) v (omega (arith, h.long)) z)
      (entered_long 1 n (bit * 128 ∷ []) u v refl some h.long q) d
