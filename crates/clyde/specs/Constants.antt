-- The round constants: the register's first states are those that document 004 prints, and every state is four bits.
-- Assumes nothing.
use Rattle.std.specs.Prelude.{◌≡◌, refl, [], ◌∷◌, ℕ, zero, suc, ◌<◌}
use Rattle.std.proofs.Common.{lit<}
use Rattle.std.proofs.lemmas.Nat.{xor_lt}
use Rattle.clyde.specs.declared.Rows.{Rows}
use Rattle.clyde.specs.Components.{rows, register_step, W}

-- section 3.4, 'Round constants': round 0 to round 11
pub printed : W 0 ∷ W 1 ∷ W 2 ∷ W 3 ∷ W 4 ∷ W 5 ∷ W 6 ∷ W 7 ∷ W 8 ∷ W 9 ∷ W 10 ∷ W 11 ∷ []
    ≡ rows 1 0 0 0 ∷ rows 0 1 0 0 ∷ rows 0 0 1 0 ∷ rows 0 0 0 1
    ∷ rows 1 1 0 0 ∷ rows 0 1 1 0 ∷ rows 0 0 1 1 ∷ rows 1 1 0 1
    ∷ rows 1 0 1 0 ∷ rows 0 1 0 1 ∷ rows 1 1 1 0 ∷ rows 0 1 1 1 ∷ []
unfolding register_step W
printed = refl

-- every row is one bit
pub record Bits (w : Rows) : Type 0 where
  pub b0 : w.x0 < 2
  pub b1 : w.x1 < 2
  pub b2 : w.x2 < 2
  pub b3 : w.x3 < 2

pub W_bits : (r : ℕ) → Bits (W r)
unfolding register_step W
W_bits zero = record { b0 = lit< tt; b1 = lit< tt; b2 = lit< tt; b3 = lit< tt }
W_bits (suc r) =
    let h = W_bits r in
    record { b0 = h.b3; b1 = xor_lt 1 (W r).x0 (W r).x3 h.b0 h.b3; b2 = h.b1; b3 = h.b2 }
