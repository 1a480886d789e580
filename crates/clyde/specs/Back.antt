-- Turns undone: turn n - 1 first, turn 0 last (`bits`, `Run`, has the turns themselves).
-- Assumes nothing.
use Rattle.std.specs.Prelude.{◌≡◌}
use Rattle.std.proofs.Math.Path.{refl, ap}
use Rattle.std.proofs.Common.{◌∙◌}
use Prim.Native.Nat.{ℕ, zero, suc}
use Rattle.bits.specs.Run.{turns}

module _ {S : Type 0} where
  -- turn n - 1, .., turn 1, turn 0, one after the other
  unfoldable pub back : (ℕ → S → S) → ℕ → S → S
  back u zero s = s
  back u (suc n) s = back u n (u n s)

  -- what two runs of turns keep, and that each turn of the one undoes that of the other
  pub record Undo (P : S → Type 0) (t u : ℕ → S → S) : Type 0 where
    pub keeps : (i : ℕ) (s : S) → P s → P (t i s)
    pub undone : (i : ℕ) (s : S) → P s → u i (t i s) ≡ s

  module _ {P : S → Type 0} {t u : ℕ → S → S} where
    pub turns_keeps : Undo P t u → (n : ℕ) (s : S) → P s → P (turns t n s)
    unfolding turns
    turns_keeps d zero s p = p
    turns_keeps d (suc n) s p = d.keeps n (turns t n s) (turns_keeps d n s p)

    pub back-keeps : Undo P u t → (n : ℕ) (s : S) → P s → P (back u n s)
    unfolding back
    back-keeps d zero s p = p
    back-keeps d (suc n) s p = back-keeps d n (u n s) (d.keeps n s p)

    pub back-turns : Undo P t u → (n : ℕ) (s : S) → P s → back u n (turns t n s) ≡ s
    unfolding back turns
    back-turns d zero s p = refl
    back-turns d (suc n) s p = ap (back u n) (d.undone n (turns t n s) (turns_keeps d n s p)) ∙ back-turns d n s p

    pub turns-back : Undo P u t → (n : ℕ) (s : S) → P s → turns t n (back u n s) ≡ s
    unfolding back turns
    turns-back d zero s p = refl
    turns-back d (suc n) s p = ap (t n) (turns-back d n (u n s) (d.keeps n s p)) ∙ d.undone n s p
