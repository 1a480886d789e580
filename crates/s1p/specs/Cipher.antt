-- What S1P is made of: a tweakable block cipher E on 16 bytes, forward and backward, and a permutation on 64 bytes, each as twelve rounds.
-- A round of the cipher has the tweakey additions that go with it (request (iv)).
-- Assumes nothing.
use Rattle.std.specs.Prelude.{◌≡◌, List, ℕ}
use Rattle.bits.specs.Run.{turns, Keeps}
use Rattle.scheme.specs.Machine.{Buffer}

pub record Cipher : Type 0 where
  pub forward : (key tweak : List ℕ) → ℕ → List ℕ → List ℕ
  pub backward : (key tweak : List ℕ) → ℕ → List ℕ → List ℕ
  pub round : ℕ → List ℕ → List ℕ

-- E, its inverse, and π
unfoldable pub encrypt : Cipher → (key tweak s : List ℕ) → List ℕ
encrypt p k t s = turns (p.forward k t) 12 s

unfoldable pub decrypt : Cipher → (key tweak s : List ℕ) → List ℕ
decrypt p k t s = turns (p.backward k t) 12 s

unfoldable pub perm : Cipher → List ℕ → List ℕ
perm p s = turns p.round 12 s

-- what is asked of it
pub record LawfulCipher (p : Cipher) : Type 0 where
  pub forward : (k t : List ℕ) → Keeps 16 (p.forward k t)
  pub backward : (k t : List ℕ) → Keeps 16 (p.backward k t)
  pub round : Keeps 64 p.round
  pub undone : (k t s : List ℕ) → Buffer 16 k → Buffer 16 t → Buffer 16 s → decrypt p k t (encrypt p k t s) ≡ s
  pub undoes : (k t s : List ℕ) → Buffer 16 k → Buffer 16 t → Buffer 16 s → encrypt p k t (decrypt p k t s) ≡ s
