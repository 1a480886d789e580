-- Turns one by one: a task that has one left does it, and one that has none left is over. A reader may skip this.
-- Assumes nothing.
use Rattle.std.specs.Prelude.{◌≡◌, Bool, true, false, List, eqb}
use Rattle.std.proofs.Math.Path.{refl}
use Prim.Native.Nat.{ℕ, zero, suc, ◌-◌, ◌≤◌, ◌<◌}
use Rattle.std.proofs.Common.{arith, eq-eqb, ne_eqb}
use Rattle.bits.specs.Pick.{pick}
use Rattle.scheme.specs.Scheme.{Scheme}
use Rattle.isap.specs.declared.Answer.{Answer}
use Rattle.task.specs.declared.Turns.{Turns}
use Rattle.task.specs.Turns.{served_of, Going, turn, turns_of}

-- a turn takes at least itself off what is left
pub fewer_left : (t : Turns) (a : Answer) (n : ℕ) → t.left ≤ suc n → (served_of t a).left ≤ n
unfolding served_of
fewer_left t a n h = go (eqb a.number 100)
  where
    go : (b : Bool) → pick b (t.left - 1) 0 ≤ n
    go true = omega (arith, h)
    go false = omega arith

module _ (of : ℕ → Scheme) (assoc text : List ℕ) (budget : ℕ) where
  pub another : (n : ℕ) (g : Going) → 0 < g.turns.left → turns_of of assoc text budget (suc n) g ≡ turns_of of assoc text budget n (turn of assoc text budget g)
  unfolding turns_of
  another n g h = rw (ne_eqb g.turns.left 0 (λ z. omega (arith, h, z)))

  pub over : (n : ℕ) (g : Going) → g.turns.left ≡ 0 → turns_of of assoc text budget n g ≡ g
  unfolding turns_of
  over zero g e = refl
  over (suc n) g e = rw (eq-eqb g.turns.left 0 e)
