-- The twelve rounds are Algorithm 1 and its inverse; with which of them each tweakey goes; and the tweakeys are those that document 004
-- computes one from the other, by φ.
-- Assumes nothing.
use Rattle.std.specs.Prelude.{◌≡◌, List, [], ◌∷◌, ℕ, ◌+◌, ◌%◌, eqb}
use Rattle.std.proofs.Math.Path.{refl}
use Rattle.std.proofs.Common.{sym, ap, ◌∙◌, mod-lt, lit<}
use Rattle.std.proofs.Math.Nat.{mod-add-mod}
use Rattle.std.specs.Int.Bits.{bit_xor}
use Rattle.std.proofs.lemmas.Nat.{xor_comm}
use Rattle.bits.specs.Pick.{pick}
use Rattle.bits.specs.Every.{upto_at}
use Rattle.bits.specs.Run.{turns}
use Rattle.bits.specs.Xors.{xor_twice}
use Rattle.clyde.specs.declared.Rows.{Rows}
use Rattle.clyde.specs.Back.{back}
use Rattle.clyde.specs.Components.{add}
use Rattle.clyde.specs.Clyde.{delta, TK, round, round_inverse, step, clyde, step_inverse, clyde_inverse, first, second, clyde_round, clyde_round_inverse}

pub clyde-rounds : (k t s : Rows) → turns (clyde_round k t) 12 s ≡ clyde k t s
unfolding turns step clyde first second clyde_round
clyde-rounds k t s = refl

pub clyde_inverse-rounds : (k t s : Rows) → turns (clyde_round_inverse k t) 12 s ≡ clyde_inverse k t s
unfolding turns back step_inverse clyde_inverse first second clyde_round_inverse
clyde_inverse-rounds k t s = refl

-- ---- request (iv): a tweakey addition goes with the round before it, the first with the first round

abbrev rounds12 : (ℕ → Rows → Rows) → Rows → List Rows
rounds12 f s = f 0 s ∷ f 1 s ∷ f 2 s ∷ f 3 s ∷ f 4 s ∷ f 5 s ∷ f 6 s ∷ f 7 s ∷ f 8 s ∷ f 9 s ∷ f 10 s ∷ f 11 s ∷ []

module _ (k t s : Rows) where
  abbrev plus : ℕ → Rows → Rows
  plus i = add (TK k t i)

  pub tweakeys_forward : rounds12 (clyde_round k t) s
      ≡ round 0 (plus 0 s) ∷ plus 1 (round 1 s)
      ∷ round 2 s ∷ plus 2 (round 3 s)
      ∷ round 4 s ∷ plus 3 (round 5 s)
      ∷ round 6 s ∷ plus 4 (round 7 s)
      ∷ round 8 s ∷ plus 5 (round 9 s)
      ∷ round 10 s ∷ plus 6 (round 11 s) ∷ []
  unfolding first second clyde_round
  tweakeys_forward = refl

  -- the inverse in its own order of execution
  pub tweakeys_backward : rounds12 (clyde_round_inverse k t) s
      ≡ round_inverse 11 (plus 6 s) ∷ plus 5 (round_inverse 10 s)
      ∷ round_inverse 9 s ∷ plus 4 (round_inverse 8 s)
      ∷ round_inverse 7 s ∷ plus 3 (round_inverse 6 s)
      ∷ round_inverse 5 s ∷ plus 2 (round_inverse 4 s)
      ∷ round_inverse 3 s ∷ plus 1 (round_inverse 2 s)
      ∷ round_inverse 1 s ∷ plus 0 (round_inverse 0 s) ∷ []
  unfolding first second clyde_round_inverse
  tweakeys_backward = refl

-- ---- φ : x0 ‖ x1 ↦ (x0 ⊕ x1) ‖ x0, on halves of two rows

unfoldable pub φ : Rows → Rows
φ t = record { x0 = bit_xor t.x0 t.x2; x1 = bit_xor t.x1 t.x3; x2 = t.x0; x3 = t.x1 }

back2 : (a b : ℕ) → bit_xor (bit_xor a b) a ≡ b
back2 a b = xor_comm (bit_xor a b) a ∙ xor_twice a b

back3 : (a b : ℕ) → bit_xor b (bit_xor a b) ≡ a
back3 a b = ap (bit_xor b) (xor_comm a b) ∙ xor_twice b a

-- delta at i % 3, written with the remainder
abbrev at : Rows → ℕ → Rows
at t m =
    pick (eqb m 0) t
    (pick (eqb m 1)
    (record { x0 = bit_xor t.x0 t.x2; x1 = bit_xor t.x1 t.x3; x2 = t.x0; x3 = t.x1 })
    (record { x0 = t.x2; x1 = t.x3; x2 = bit_xor t.x0 t.x2; x3 = bit_xor t.x1 t.x3 }))

pub delta-next : (t : Rows) (i : ℕ) → delta t (i + 1) ≡ φ (delta t i)
unfolding delta φ
delta-next t i =
    ap (at t) (sym (mod-add-mod i 3 1))
    ∙ upto_at (λ (m : ℕ). at t ((m + 1) % 3) ≡ φ (at t m)) 3 (
      ((tt, refl), λ j. record { x0 = sym (back2 t.x0 t.x2) j; x1 = sym (back2 t.x1 t.x3) j; x2 = bit_xor t.x0 t.x2; x3 = bit_xor t.x1 t.x3 }),
      λ j. record { x0 = sym (back3 t.x0 t.x2) j; x1 = sym (back3 t.x1 t.x3) j; x2 = t.x2; x3 = t.x3 },
    )
    (i % 3) (mod-lt i (lit< tt))
