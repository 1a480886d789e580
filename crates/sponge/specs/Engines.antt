-- Which rounds an instance's permutation has: Ascon's on 40 bytes, or Keccak's on 50.
-- Assumes nothing.
use Rattle.std.specs.Prelude.{◌≡◌, refl, Bool, true, false, List, ℕ, eqb}
use Rattle.std.proofs.Common.{sym, subst}
use Rattle.bits.specs.Pick.{pick}
use Rattle.bits.specs.Run.{run}
use Rattle.ascon.specs.Permutation.{ascon_round}
use Rattle.keccak.specs.Fips202.{keccak_round}
use Rattle.mode.specs.Params.{Params}
use Rattle.mode.specs.InstanceLaws.{by_number}
use Rattle.mode.specs.Instances.{isap_a128a, isap_a128, isap_k128a, isap_k128, params_of}

-- instances 1 and 2
unfoldable pub on_ascon : ℕ → Bool
on_ascon i = pick (eqb i 1) true (eqb i 2)

-- p runs the rounds r on n bytes, has at most m of them, and blocks of b bytes
pub record Runs (p : Params) (n b m : ℕ) (r : ℕ → List ℕ → List ℕ) : Type 0 where
  pub most : p.most ≡ m
  pub block : p.b ≡ b
  pub run : (from count : ℕ) (s : List ℕ) → run p.n p.round from count s ≡ run n r from count s

-- what is true is not false
split : {P : Type 0} → true ≡ false → P
split {P} e = subst (λ (b : Bool). pick b (Unit {0}) P) e tt

pub runs_ascon : (i : ℕ) → on_ascon i ≡ true → Runs (params_of i) 40 8 12 ascon_round
unfolding on_ascon isap_a128a isap_a128
runs_ascon i =
    by_number (λ a b p. pick a true b ≡ true → Runs p 40 8 12 ascon_round)
    (λ b e. record { most = refl; block = refl; run = λ from count s. refl })
    (λ e. record { most = refl; block = refl; run = λ from count s. refl })
    (λ e. split (sym e)) (λ e. split (sym e)) i

pub runs_keccak : (i : ℕ) → on_ascon i ≡ false → Runs (params_of i) 50 18 20 keccak_round
unfolding on_ascon isap_k128a isap_k128
runs_keccak i =
    by_number (λ a b p. pick a true b ≡ false → Runs p 50 18 20 keccak_round) (λ b e. split e) (λ e. split e)
    (λ e. record { most = refl; block = refl; run = λ from count s. refl })
    (λ e. record { most = refl; block = refl; run = λ from count s. refl }) i
