-- ISAP's numbers as the code has them, and that they are the parameters of an instance.
-- Assumes nothing.
use Rattle.std.specs.Prelude.{◌≡◌, Bool, true, List, [], ◌∷◌, ℕ, ◌≤◌, eqb, leb}
use Rattle.std.proofs.Math.Path.{refl}
use Rattle.std.proofs.Common.{sym, ap, ◌∙◌}
use borrow.Author.Tests.{eqb-true, leb-true, eq-eqb, ne_eqb}
use Rattle.bits.specs.Every.{passes, passes_at}
use Rattle.mode.specs.Params.{Params}
use Rattle.mode.specs.Instances.{isap_a128a, isap_a128, isap_k128a, isap_k128, params_of}
use Rattle.plan.specs.declared.numbers.Numbers.{Numbers}

-- an instance's parameters as numbers, with the bounds that callers lean on
pub record OfInstance (i : ℕ) (q : Numbers) : Type 0 where
  pub n : q.n ≡ (params_of i).n
  pub b : q.b ≡ (params_of i).b
  pub sh : q.sh ≡ (params_of i).s_h
  pub sb : q.sb ≡ (params_of i).s_b
  pub se : q.se ≡ (params_of i).s_e
  pub sk : q.sk ≡ (params_of i).s_k
  pub most : q.most ≡ (params_of i).most
  pub state_fits : q.n ≤ 50
  pub block_least : 8 ≤ q.b
  pub block_most : q.b ≤ 18
  pub sh_most : q.sh ≤ q.most
  pub sb_most : q.sb ≤ 12
  pub se_most : q.se ≤ 12
  pub sk_most : q.sk ≤ 12
  pub most_least : 12 ≤ q.most
  pub most_most : q.most ≤ 20

same : Params → Numbers → List Bool
same p q =
    eqb q.n p.n ∷ eqb q.b p.b ∷ eqb q.sh p.s_h ∷ eqb q.sb p.s_b ∷ eqb q.se p.s_e ∷ eqb q.sk p.s_k ∷ eqb q.most p.most
    ∷ leb q.n 50 ∷ leb 8 q.b ∷ leb q.b 18 ∷ leb q.sh q.most ∷ leb q.sb 12 ∷ leb q.se 12 ∷ leb q.sk 12 ∷ leb 12 q.most ∷ leb q.most 20 ∷ []

of_instance : (i : ℕ) (p : Params) (q : Numbers) → params_of i ≡ p → passes (same p q) ≡ true → OfInstance i q
unfolding same
of_instance i p q e s =
    let t = passes_at (same p q) s in
    record {
      n = eqb-true q.n p.n (t 0) ∙ ap Params.n (sym e);
      b = eqb-true q.b p.b (t 1) ∙ ap Params.b (sym e);
      sh = eqb-true q.sh p.s_h (t 2) ∙ ap Params.s_h (sym e);
      sb = eqb-true q.sb p.s_b (t 3) ∙ ap Params.s_b (sym e);
      se = eqb-true q.se p.s_e (t 4) ∙ ap Params.s_e (sym e);
      sk = eqb-true q.sk p.s_k (t 5) ∙ ap Params.s_k (sym e);
      most = eqb-true q.most p.most (t 6) ∙ ap Params.most (sym e);
      state_fits = leb-true q.n 50 (t 7);
      block_least = leb-true 8 q.b (t 8);
      block_most = leb-true q.b 18 (t 9);
      sh_most = leb-true q.sh q.most (t 10);
      sb_most = leb-true q.sb 12 (t 11);
      se_most = leb-true q.se 12 (t 12);
      sk_most = leb-true q.sk 12 (t 13);
      most_least = leb-true 12 q.most (t 14);
      most_most = leb-true q.most 20 (t 15);
    }

-- the four of them, by one test of all their numbers
abbrev pub numbers : (n b sh sb se sk most : ℕ) → Numbers
numbers n b sh sb se sk most = record { n = n; b = b; sh = sh; sb = sb; se = se; sk = sk; most = most }

module _ (i : ℕ) where
  pub numbers_1 : i ≡ 1 → OfInstance i (numbers 40 8 12 1 6 12 12)
  unfolding params_of isap_a128a same passes
  numbers_1 e = of_instance i isap_a128a (numbers 40 8 12 1 6 12 12) (rw (params_of, eq-eqb i 1 e)) refl

  pub numbers_2 : (i ≡ 1 → ⊥) → i ≡ 2 → OfInstance i (numbers 40 8 12 12 12 12 12)
  unfolding params_of isap_a128 same passes
  numbers_2 f e = of_instance i isap_a128 (numbers 40 8 12 12 12 12 12) (rw (params_of, ne_eqb i 1 f, eq-eqb i 2 e)) refl

  pub numbers_3 : (i ≡ 1 → ⊥) → (i ≡ 2 → ⊥) → i ≡ 3 → OfInstance i (numbers 50 18 16 1 8 8 20)
  unfolding params_of isap_k128a same passes
  numbers_3 f g e = of_instance i isap_k128a (numbers 50 18 16 1 8 8 20) (rw (params_of, ne_eqb i 1 f, ne_eqb i 2 g, eq-eqb i 3 e)) refl

  pub numbers_4 : (i ≡ 1 → ⊥) → (i ≡ 2 → ⊥) → (i ≡ 3 → ⊥) → OfInstance i (numbers 50 18 20 12 12 12 20)
  unfolding params_of isap_k128 same passes
  numbers_4 f g h = of_instance i isap_k128 (numbers 50 18 20 12 12 12 20) (rw (params_of, ne_eqb i 1 f, ne_eqb i 2 g, ne_eqb i 3 h)) refl
