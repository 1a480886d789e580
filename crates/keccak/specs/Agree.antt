-- Two state arrays that agree, having the same bits at x, y < 5 and z < 16, are one state; a round takes them to arrays that agree.
-- Assumes nothing.
use Rattle.std.specs.Prelude.{◌≡◌, Bool, true, ◌&&◌}
use Rattle.std.proofs.Common.{sym, ◌∙◌, mod-lt, zero-lt-suc, lit<}
use Rattle.std.proofs.Math.Path.{ap, ap₂}
use Prim.Native.Nat.{ℕ, zero, suc, ◌+◌, ◌*◌, ◌-◌, ◌%◌, ◌<◌}
use Rattle.bits.specs.Digit.{◌⊕◌}
use Rattle.keccak.specs.Fips202.{StateArray, C, D, θ, offset, ρ, π, χ, RC, ι, Rnd}

unfoldable pub Agree : StateArray → StateArray → Type 0
Agree A B = (x y z : ℕ) → x < 5 → y < 5 → z < 16 → A x y z ≡ B x y z

pub agree_trans : (A B E : StateArray) → Agree A B → Agree B E → Agree A E
unfolding Agree
agree_trans A B E p q x y z hx hy hz = p x y z hx hy hz ∙ q x y z hx hy hz

pub agree_sym : (A B : StateArray) → Agree A B → Agree B A
unfolding Agree
agree_sym A B p x y z hx hy hz = sym (p x y z hx hy hz)

pub mod5 : (n : ℕ) → n % 5 < 5
mod5 n = mod-lt n (zero-lt-suc 4)

mod16 : (n : ℕ) → n % 16 < 16
mod16 n = mod-lt n (zero-lt-suc 15)

-- each step mapping reads bits of the state alone
module _ (A B : StateArray) (h : Agree A B) where
  C_same : (x z : ℕ) → x < 5 → z < 16 → C A x z ≡ C B x z
  unfolding C Agree
  C_same x z hx hz =
      let at : (y : ℕ) → y < 5 → A x y z ≡ B x y z = λ y hy. h x y z hx hy hz in
      λ i. at 0 (lit< tt) i ⊕ at 1 (lit< tt) i ⊕ at 2 (lit< tt) i ⊕ at 3 (lit< tt) i ⊕ at 4 (lit< tt) i

  θ_same : Agree (θ A) (θ B)
  unfolding θ D Agree
  θ_same x y z hx hy hz =
      ap₂ ◌⊕◌ (h x y z hx hy hz)
      (ap₂ ◌⊕◌ (C_same ((x + 4) % 5) z (mod5 (x + 4)) hz) (C_same ((x + 1) % 5) ((z + 15) % 16) (mod5 (x + 1)) (mod16 (z + 15))))

  ρ_same : Agree (ρ A) (ρ B)
  unfolding ρ Agree
  ρ_same x y z hx hy hz = h x y ((z + (16 - offset x y % 16)) % 16) hx hy (mod16 (z + (16 - offset x y % 16)))

  π_same : Agree (π A) (π B)
  unfolding π Agree
  π_same x y z hx hy hz = h ((x + 3 * y) % 5) x z (mod5 (x + 3 * y)) hx hz

  χ_same : Agree (χ A) (χ B)
  unfolding χ Agree
  χ_same x y z hx hy hz =
      ap₂ ◌⊕◌ (h x y z hx hy hz)
      (ap₂ (λ (a b : Bool). (a ⊕ true) && b) (h ((x + 1) % 5) y z (mod5 (x + 1)) hy hz) (h ((x + 2) % 5) y z (mod5 (x + 2)) hy hz))

  ι_same : (i : ℕ) → Agree (ι i A) (ι i B)
  unfolding ι Agree
  ι_same i zero zero z hx hy hz = ap (λ (b : Bool). b ⊕ RC i z) (h 0 0 z hx hy hz)
  ι_same i zero (suc y) z hx hy hz = h zero (suc y) z hx hy hz
  ι_same i (suc x) y z hx hy hz = h (suc x) y z hx hy hz

-- a round by its steps: each agrees with the step mapping of the one before it
pub round-steps : (i : ℕ) (A B E F G : StateArray) → Agree B (θ A) → Agree E (π (ρ B)) → Agree F (χ E) → Agree G (ι i F) → Agree G (Rnd i A)
unfolding Rnd
round-steps i A B E F G hB hE hF hG = agree_trans G (ι i F) (ι i (χ (π (ρ (θ A))))) hG (ι_same F (χ (π (ρ (θ A)))) f i)
  where
    e : Agree E (π (ρ (θ A)))
    e = agree_trans E (π (ρ B)) (π (ρ (θ A))) hE (π_same (ρ B) (ρ (θ A)) (ρ_same B (θ A) hB))

    f : Agree F (χ (π (ρ (θ A))))
    f = agree_trans F (χ E) (χ (π (ρ (θ A)))) hF (χ_same E (π (ρ (θ A))) e)

pub round_same : (i : ℕ) (A B : StateArray) → Agree A B → Agree (Rnd i A) (Rnd i B)
unfolding Rnd
round_same i A B h =
    ι_same (χ (π (ρ (θ A)))) (χ (π (ρ (θ B))))
    (χ_same (π (ρ (θ A))) (π (ρ (θ B))) (π_same (ρ (θ A)) (ρ (θ B)) (ρ_same (θ A) (θ B) (θ_same A B h)))) i
