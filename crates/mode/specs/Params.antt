-- What an instance of ISAP is made of (document 001, section 2.5 and Table 2.2), and what is asked of it.
-- Assumes nothing.
use Rattle.std.specs.Prelude.{List, ◌∷◌, ℕ, ◌-◌, ◌*◌, ◌≤◌, ◌<◌, replicate}
use Rattle.bits.specs.Run.{Keeps, rounds}

-- n: bytes of the state; b: bytes of a block (rH is 8b bits); s_h, s_b, s_e, s_k: rounds of the calls pH, pB, pE, pK;
-- most: the rounds that the permutation has; round i: its i-th round, on n bytes
pub record Params : Type 0 where
  pub n : ℕ
  pub b : ℕ
  pub s_h : ℕ
  pub s_b : ℕ
  pub s_e : ℕ
  pub s_k : ℕ
  pub most : ℕ
  pub round : ℕ → List ℕ → List ℕ

-- a call of r rounds: the last r of all
unfoldable pub perm : Params → ℕ → List ℕ → List ℕ
perm p r s = rounds p.round (p.most - r) r s

-- Table 2.3: an initial value is a flag, k = 128, rH, rB = 1, s_h, s_b, s_e, s_k, one byte each, and zeros up to n - k bits
unfoldable pub iv : Params → ℕ → List ℕ
iv p flag = flag ∷ 128 ∷ 8 * p.b ∷ 1 ∷ p.s_h ∷ p.s_b ∷ p.s_e ∷ p.s_k ∷ replicate (p.n - 24) 0

-- what every instance keeps
pub record LawfulParams (p : Params) : Type 0 where
  pub block : 0 < p.b
  pub block_fits : p.b ≤ p.n
  pub room : 24 ≤ p.n
  pub small_b : 8 * p.b < 256
  pub some_h : 0 < p.s_h
  pub some_b : 0 < p.s_b
  pub some_e : 0 < p.s_e
  pub some_k : 0 < p.s_k
  pub small_h : p.s_h < 256
  pub small_b' : p.s_b < 256
  pub small_e : p.s_e < 256
  pub small_k : p.s_k < 256
  pub keeps : Keeps p.n p.round
