-- A beginning that answers 100 gives a record of which demand 3 is said.
-- Assumes nothing.
use Rattle.std.specs.Prelude.{◌≡◌, refl, Bool, true, false, ◌⊎◌, List, ℕ, ◌≤◌, eqb, length, replicate}
use Rattle.std.proofs.Common.{sym, inl, inr, arith, eqb-true}
use Rattle.std.proofs.Math.Path.{subst}
use Rattle.bits.specs.Pick.{pick}
use Rattle.scheme.specs.Scheme.{Scheme}
use Rattle.isap.specs.declared.Job.{Job}
use Rattle.isap.specs.declared.Begun as begins
use Rattle.isap.specs.Beginnings.{limits_refusal, tag_refusal, or_else, begun_job, no_job, begun_or, begin_seal_of, begin_open_of}
use Rattle.isap.specs.Begun.{limits_none, limits_small, tag_small, or_none, or_most, begun_job_lem}
use Rattle.isap.specs.Reached.{Begun}

begun-number : (r : ℕ) (j : Job) → r ≤ 7 → (begun_or r j).number ≡ 100 → r ≡ 0
unfolding begun_or
begun-number r j small e = go (eqb r 0) refl e
  where
    go : (b : Bool) → eqb r 0 ≡ b → (pick {A = begins.Begun} b (record { number = 100; rounds = 0; job = j }) (record { number = r; rounds = 0; job = no_job })).number ≡ 100 → r ≡ 0
    go true q n = eqb-true r 0 q
    go false q n = absurd (omega (arith, small, n))

module _ (of : ℕ → Scheme) where
  module _ (instance direction : ℕ) (key nonce tag : List ℕ) (a m : ℕ) (assoc text out : List ℕ)
      (ha : length assoc ≡ a) (ht : length text ≡ m) (ho : length out ≡ m) (way : (direction ≡ 1) ⊎ (direction ≡ 2)) where
    begins_as : (r : ℕ) → r ≤ 7 → (r ≡ 0 → limits_refusal of instance (length key) (length nonce) a m ≡ 0)
        → (begun_or r (begun_job of instance direction key nonce tag a m)).number ≡ 100 → Begun of (begun_or r (begun_job of instance direction key nonce tag a m)).job assoc text out
    unfolding begun_job
    begins_as r small limits e =
        let none = begun-number r (begun_job of instance direction key nonce tag a m) small e in
        let l = limits_none of instance (length key) (length nonce) a m (limits none) in
        subst (λ (y : Job). Begun of y assoc text out) (sym (begun_job_lem r (begun_job of instance direction key nonce tag a m) none))
        (record {
          is_known = l.0;
          is_direction = way;
          assoc_limit = l.3;
          text_limit = l.4;
          is_begun = refl;
          assoc_long = ha;
          text_long = ht;
          out_long = ho;
        })

  module _ (instance : ℕ) (key nonce : List ℕ) (a m : ℕ) (assoc text out : List ℕ) (ha : length assoc ≡ a) (ht : length text ≡ m) (ho : length out ≡ m) where
    pub sealing_begins : (begin_seal_of of instance key nonce a m).number ≡ 100 → Begun of (begin_seal_of of instance key nonce a m).job assoc text out
    unfolding begin_seal_of
    sealing_begins e =
        begins_as instance 1 key nonce (replicate 16 0) a m assoc text out ha ht ho (inl refl) (limits_refusal of instance (length key) (length nonce) a m)
        (omega (arith, limits_small of instance (length key) (length nonce) a m)) (λ z. z) e

    pub opening_begins : (tag : List ℕ) → (begin_open_of of instance key nonce tag a m).number ≡ 100 → Begun of (begin_open_of of instance key nonce tag a m).job assoc text out
    unfolding begin_open_of
    opening_begins tag e =
        let r = limits_refusal of instance (length key) (length nonce) a m in
        begins_as instance 2 key nonce tag a m assoc text out ha ht ho (inr refl) (or_else r (tag_refusal (length tag)))
        (or_most r (tag_refusal (length tag)) 7 (omega (arith, limits_small of instance (length key) (length nonce) a m)) (tag_small (length tag)))
        (λ z. (or_none r (tag_refusal (length tag)) z).0) e
