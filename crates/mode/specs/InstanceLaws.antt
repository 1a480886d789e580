-- What holds for the four instances: by cases, their initial values (Table 2.3), and that each is lawful.
-- Assumes nothing.
use Rattle.std.specs.Prelude.{◌≡◌, refl, Bool, true, false, List, [], ◌∷◌, ℕ, ◌-◌, ◌*◌, eqb, ltb, leb, replicate}
use Rattle.std.proofs.Common.{ltb-true, leb-true}
use Rattle.bits.specs.Pick.{pick}
use Rattle.bits.specs.Every.{passes, passes_at}
use Rattle.bits.specs.Run.{Keeps}
use Rattle.ascon.specs.Laws.{ascon_keeps}
use Rattle.keccak.specs.Laws.{keccak_keeps}
use Rattle.mode.specs.Params.{Params, LawfulParams, iv}
use Rattle.mode.specs.Instances.{isap_a128a, isap_a128, isap_k128a, isap_k128, params_of}

-- what holds for the four holds for every number's instance; where it matters, by the tests for 1 and 2
pub by_number : (P : (is-1 is-2 : Bool) → Params → Type 0) → ((b : Bool) → P true b isap_a128a) → P false true isap_a128 → P false false isap_k128a
    → P false false isap_k128 → (i : ℕ) → P (eqb i 1) (eqb i 2) (params_of i)
unfolding params_of
by_number P p1 p2 p3 p4 i = go (eqb i 1) (eqb i 2) (eqb i 3)
  where
    go : (a b c : Bool) → P a b (pick a isap_a128a (pick b isap_a128 (pick c isap_k128a isap_k128)))
    go true b c = p1 b
    go false true c = p2
    go false false true = p3
    go false false false = p4

pub by_instance : (P : Params → Type 0) → P isap_a128a → P isap_a128 → P isap_k128a → P isap_k128 → (i : ℕ) → P (params_of i)
by_instance P p1 p2 p3 p4 i = by_number (λ a b p. P p) (λ b. p1) p2 p3 p4 i

-- ---- Table 2.3: the initial values in hex

-- the eight bytes of each flag, and zeros up to n - 16
unfoldable pub Values : Params → (a b c d e f g : ℕ) → Type 0
Values p a b c d e f g = (flag : ℕ) → iv p flag ≡ flag ∷ a ∷ b ∷ c ∷ d ∷ e ∷ f ∷ g ∷ replicate (p.n - 24) 0

pub values_A128a : Values isap_a128a 0x80 0x40 0x01 0x0c 0x01 0x06 0x0c
unfolding Values isap_a128a iv
values_A128a flag = refl

pub values_A128 : Values isap_a128 0x80 0x40 0x01 0x0c 0x0c 0x0c 0x0c
unfolding Values isap_a128 iv
values_A128 flag = refl

pub values_K128a : Values isap_k128a 0x80 0x90 0x01 0x10 0x01 0x08 0x08
unfolding Values isap_k128a iv
values_K128a flag = refl

pub values_K128 : Values isap_k128 0x80 0x90 0x01 0x14 0x0c 0x0c 0x0c
unfolding Values isap_k128 iv
values_K128 flag = refl

-- ---- every instance is lawful: its numbers pass one test, and its rounds keep the state

tests : Params → List Bool
tests p =
    ltb 0 p.b ∷ leb p.b p.n ∷ leb 24 p.n ∷ ltb (8 * p.b) 256
    ∷ ltb 0 p.s_h ∷ ltb 0 p.s_b ∷ ltb 0 p.s_e ∷ ltb 0 p.s_k
    ∷ ltb p.s_h 256 ∷ ltb p.s_b 256 ∷ ltb p.s_e 256 ∷ ltb p.s_k 256 ∷ []

lawful_by : (p : Params) → passes (tests p) ≡ true → Keeps p.n p.round → LawfulParams p
unfolding tests
lawful_by p e k =
    let t = passes_at (tests p) e in
    record {
      block = ltb-true 0 p.b (t 0);
      block_fits = leb-true p.b p.n (t 1);
      room = leb-true 24 p.n (t 2);
      small_b = ltb-true (8 * p.b) 256 (t 3);
      some_h = ltb-true 0 p.s_h (t 4);
      some_b = ltb-true 0 p.s_b (t 5);
      some_e = ltb-true 0 p.s_e (t 6);
      some_k = ltb-true 0 p.s_k (t 7);
      small_h = ltb-true p.s_h 256 (t 8);
      small_b' = ltb-true p.s_b 256 (t 9);
      small_e = ltb-true p.s_e 256 (t 10);
      small_k = ltb-true p.s_k 256 (t 11);
      keeps = k;
    }

pub lawful_instance : (i : ℕ) → LawfulParams (params_of i)
unfolding isap_a128a isap_a128 isap_k128a isap_k128 tests passes
lawful_instance i =
    by_instance LawfulParams (lawful_by isap_a128a refl ascon_keeps) (lawful_by isap_a128 refl ascon_keeps)
    (lawful_by isap_k128a refl keccak_keeps) (lawful_by isap_k128 refl keccak_keeps) i
