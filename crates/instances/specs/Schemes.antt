-- The instances: which numbers are known, and the scheme of each. This is the one place that lists them.
-- Assumes nothing.
use Rattle.std.specs.Prelude.{◌≡◌, refl, Bool, true, false, ◌&&◌, ℕ, ◌≤◌, ◌<◌, eqb, leb}
use Rattle.std.proofs.Common.{ap, arith, leb-true}
use Rattle.bits.specs.Pick.{pick}
use Rattle.bits.specs.Every.{and_right}
use Rattle.scheme.specs.Scheme.{Scheme}
use Rattle.scheme.specs.Lawful.{LawfulScheme}
use Rattle.mode.specs.InstanceLaws.{by_instance, lawful_instance}
use Rattle.mode.specs.Instances.{isap_a128a, isap_a128, isap_k128a, isap_k128, params_of}
use Rattle.mode.specs.Isap.{isap_scheme}
use Rattle.mode.proofs.Isap.{lawful_isap}
use Rattle.s1p.specs.Scheme.{s1p_scheme}
use Rattle.s1p.specs.Spook.{spook_scheme}
use Rattle.s1p.proofs.Spook.{lawful-spook}

-- 1 to 4 are ISAP's, 5 is Spook
unfoldable pub known : ℕ → Bool
known i = leb 1 i && leb i 5

-- so each is a byte
pub known_byte : (i : ℕ) → known i ≡ true → i < 256
unfolding known
known_byte i k = omega (arith, leb-true i 5 (and_right (leb 1 i) (leb i 5) k))

unfoldable pub is_spook : ℕ → Bool
is_spook i = eqb i 5

unfoldable pub scheme_of : ℕ → Scheme
scheme_of i = pick (is_spook i) spook_scheme (isap_scheme (params_of i))

pub scheme-spook : (i : ℕ) → is_spook i ≡ true → scheme_of i ≡ spook_scheme
unfolding scheme_of
scheme-spook i e = ap (λ (b : Bool). pick b spook_scheme (isap_scheme (params_of i))) e

pub scheme_isap : (i : ℕ) → is_spook i ≡ false → scheme_of i ≡ isap_scheme (params_of i)
unfolding scheme_of
scheme_isap i e = ap (λ (b : Bool). pick b spook_scheme (isap_scheme (params_of i))) e

-- ---- what holds for each of them

-- for Spook, and for ISAP with the parameters of any number
pub by_scheme : (P : Scheme → Type 0) → P spook_scheme → ((i : ℕ) → P (isap_scheme (params_of i))) → (i : ℕ) → P (scheme_of i)
unfolding scheme_of
by_scheme P s p i = go (is_spook i)
  where
    go : (b : Bool) → P (pick b spook_scheme (isap_scheme (params_of i)))
    go true = s
    go false = p i

pub lawful-scheme : (i : ℕ) → LawfulScheme (scheme_of i)
lawful-scheme = by_scheme LawfulScheme lawful-spook (λ i. lawful_isap (params_of i) (lawful_instance i))

-- a record's state has room for each
pub scheme-fits : (i : ℕ) → (scheme_of i).n ≤ 64
unfolding s1p_scheme isap_scheme isap_a128a isap_a128 isap_k128a isap_k128
scheme-fits =
    by_scheme (λ s. s.n ≤ 64) (omega arith)
    (by_instance (λ p. p.n ≤ 64) (omega arith) (omega arith) (omega arith) (omega arith))

-- a record's key is the key of each
pub key_bytes_lem : (i : ℕ) → (scheme_of i).key_bytes ≡ 16
unfolding s1p_scheme isap_scheme
key_bytes_lem = by_scheme (λ s. s.key_bytes ≡ 16) refl (λ i. refl)
