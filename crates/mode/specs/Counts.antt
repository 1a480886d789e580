-- How many rounds a job takes: document 01's formulas, and the shapes of the parts.
-- Assumes nothing.
use Rattle.std.specs.Prelude.{Bool, List, [], ◌∷◌, ◌++◌, ℕ, ◌+◌, ◌*◌, ◌/◌}
use Rattle.bits.specs.Pick.{pick}
use Rattle.stopping.specs.Parts.{Shape}
use Rattle.mode.specs.Params.{Params}
use Rattle.mode.specs.Paper.{blocks}

-- ---- the formulas, for a bytes of associated data and m of text

-- R, re-keying
unfoldable pub rekey_rounds : Params → ℕ
rekey_rounds p = 2 * p.s_k + 127 * p.s_b

-- V, verification
unfoldable pub verify_rounds : Params → (a m : ℕ) → ℕ
verify_rounds p a m = p.s_h * (a / p.b + m / p.b + 4) + rekey_rounds p

-- E, encryption
unfoldable pub encrypt_rounds : Params → ℕ → ℕ
encrypt_rounds p m = rekey_rounds p + p.s_e * blocks p m

-- ---- the shapes of the parts, by the two lengths alone

abbrev pub shape : ℕ → ℕ → Shape
shape count rounds = record { count = count; rounds = rounds }

unfoldable pub enc_shapes : Params → (a m : ℕ) → List Shape
enc_shapes p a m = shape 1 p.s_k ∷ shape 127 p.s_b ∷ shape 1 p.s_k ∷ shape (blocks p m) p.s_e ∷ []

unfoldable pub mac_shapes : Params → (a m : ℕ) → List Shape
mac_shapes p a m =
    shape 1 p.s_h ∷ shape (a / p.b + 1) p.s_h ∷ shape (m / p.b + 1) p.s_h ∷ shape 1 p.s_k ∷ shape 127 p.s_b ∷ shape 1 p.s_k ∷ shape 1 p.s_h ∷ []

unfoldable pub front_shapes : Params → Bool → (a m : ℕ) → List Shape
front_shapes p sealing a m = pick sealing (enc_shapes p a m ++ mac_shapes p a m) (mac_shapes p a m)

unfoldable pub back_shapes : Params → Bool → (a m : ℕ) → List Shape
back_shapes p sealing a m = pick sealing [] (enc_shapes p a m)

unfoldable pub all_shapes : Params → Bool → (a m : ℕ) → List Shape
all_shapes p sealing a m = front_shapes p sealing a m ++ back_shapes p sealing a m

-- ---- the rounds of each direction

-- up to the decision: all of a sealing's, an opening's verification
unfoldable pub front_count : Params → Bool → (a m : ℕ) → ℕ
front_count p sealing a m = pick sealing (encrypt_rounds p m + verify_rounds p a m) (verify_rounds p a m)

-- after it: an opening's decryption
unfoldable pub back_count : Params → Bool → ℕ → ℕ
back_count p sealing m = pick sealing 0 (encrypt_rounds p m)
