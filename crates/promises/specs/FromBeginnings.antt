-- A beginning that answers 100 gives a job from a beginning, with what was handed to it; a sealing's tag is zero. Of an instance of ISAP it is
-- one of which `Endings` and `BetweenRounds` speak, and of Spook one of which `SpookEndings` and `SpookBetween` do.
-- Assumes nothing.
use Rattle.std.specs.Prelude.{◌≡◌, Bool, true, false, List, ℕ, eqb, replicate}
use Rattle.std.proofs.Math.Path.{refl, ap, subst}
use Rattle.std.proofs.Common.{sym, ◌∙◌, arith, eqb-true}
use Rattle.std.proofs.Math.ListN.{length, length-replicate}
use Rattle.bits.specs.Pick.{pick}
use Rattle.bits.specs.Bytes.{Bytes}
use Rattle.s1p.specs.Scheme.{s1p_scheme}
use Rattle.instances.specs.Schemes.{known, is_spook, scheme_of, key_bytes_lem}
use Rattle.isap.specs.declared.Job.{Job}
use Rattle.isap.specs.declared.Begun as begins
use Rattle.isap.specs.Beginnings.{limits_refusal, tag_refusal, or_else, no_job, begun_or, begun_job, begin_seal_of, begin_open_of}
use Rattle.isap.specs.Begun.{limits_none, tag_none, or_none, begun_job_lem}
use Rattle.isap.specs.Reached.{Begun}
use Rattle.isap.specs.Begins.{sealing_begins, opening_begins}
use Rattle.promises.specs.Jobs.{BegunJob, IsapJob, SpookJob}

-- the job j of the instance i in the direction d with this key, nonce and tag
pub record BegunWith (i d : ℕ) (k n g assoc text out : List ℕ) (j : Job) : Type 0 where
  pub job : BegunJob j assoc text out
  pub instance : j.instance ≡ i
  pub direction : j.direction ≡ d
  pub key : j.key ≡ k
  pub nonce : j.nonce ≡ n
  pub tag : j.tag ≡ g
  pub tag_long : length g ≡ 16

-- ---- of either algorithm

module _ {i d : ℕ} {k n g assoc text out : List ℕ} {j : Job} (b : BegunWith i d k n g assoc text out j) where
  pub isap_begun : is_spook i ≡ false → IsapJob j assoc text out
  isap_begun e = record { job = b.job; isap = ap is_spook b.instance ∙ e }

  -- if all that was handed over is bytes
  pub spook-begun : is_spook i ≡ true → Bytes k → Bytes n → Bytes g → Bytes assoc → Bytes text → SpookJob j assoc text out
  unfolding s1p_scheme
  spook-begun e hk hn hg ha ht =
      record {
        job = b.job;
        spook = ap is_spook b.instance ∙ e;
        given =
            record {
              key = record { long = b.job.key; bytes = subst Bytes (sym b.key) hk };
              nonce = record { long = b.job.nonce; bytes = subst Bytes (sym b.nonce) hn };
              assoc = ha;
              text = ht;
            };
        tag = record { long = ap length b.tag ∙ b.tag_long; bytes = subst Bytes (sym b.tag) hg };
      }

-- ---- from the beginnings

-- the record of all zeros is of no instance
not_refused : (r : ℕ) (j : Job) → known (begun_or r j).job.instance ≡ true → r ≡ 0
unfolding begun_or no_job known
not_refused r j e = go (eqb r 0) refl e
  where
    go : (b : Bool) → eqb r 0 ≡ b
        → known (pick {A = begins.Begun} b (record { number = 100; rounds = 0; job = j }) (record { number = r; rounds = 0; job = no_job })).job.instance ≡ true
        → r ≡ 0
    go true q e = eqb-true r 0 q
    go false q e = let z : ◌≡◌ {A = ℕ} 0 1 = cc in absurd (omega (arith, z))

module _ (instance : ℕ) (key nonce assoc text out : List ℕ) (long : length out ≡ length text) where
  abbrev limits : ℕ
  limits = limits_refusal scheme_of instance (length key) (length nonce) (length assoc) (length text)

  begun_with : (direction : ℕ) (tag : List ℕ) (r : ℕ) → (r ≡ 0 → (limits ≡ 0) × (length tag ≡ 16))
      → Begun scheme_of (begun_or r (begun_job scheme_of instance direction key nonce tag (length assoc) (length text))).job assoc text out
      → BegunWith instance direction key nonce tag assoc text out (begun_or r (begun_job scheme_of instance direction key nonce tag (length assoc) (length text))).job
  unfolding begun_job
  begun_with direction tag r taken b =
      let j = begun_job scheme_of instance direction key nonce tag (length assoc) (length text) in
      let none = not_refused r j b.is_known in
      let l = limits_none scheme_of instance (length key) (length nonce) (length assoc) (length text) (taken none).0 in
      subst (λ (y : Job). Begun scheme_of y assoc text out → BegunWith instance direction key nonce tag assoc text out y) (sym (begun_job_lem r j none))
      (λ b.
      record {
        job = record { begun = b; key = l.1 ∙ key_bytes_lem instance; nonce = l.2 };
        instance = refl;
        direction = refl;
        key = refl;
        nonce = refl;
        tag = refl;
        tag_long = (taken none).1;
      })
      b

  pub sealing_begun : (begin_seal_of scheme_of instance key nonce (length assoc) (length text)).number ≡ 100
      → BegunWith instance 1 key nonce (replicate 16 0) assoc text out (begin_seal_of scheme_of instance key nonce (length assoc) (length text)).job
  unfolding begin_seal_of
  sealing_begun e =
      begun_with 1 (replicate 16 0) limits (λ z. (z, length-replicate {A = ℕ} 16 0))
      (sealing_begins scheme_of instance key nonce (length assoc) (length text) assoc text out refl refl long e)

  pub opening_begun : (tag : List ℕ) → (begin_open_of scheme_of instance key nonce tag (length assoc) (length text)).number ≡ 100
      → BegunWith instance 2 key nonce tag assoc text out (begin_open_of scheme_of instance key nonce tag (length assoc) (length text)).job
  unfolding begin_open_of
  opening_begun tag e =
      begun_with 2 tag (or_else limits (tag_refusal (length tag)))
      (λ z. let both = or_none limits (tag_refusal (length tag)) z in (both.0, tag_none (length tag) both.1))
      (opening_begins scheme_of instance key nonce (length assoc) (length text) assoc text out refl refl long tag e)
