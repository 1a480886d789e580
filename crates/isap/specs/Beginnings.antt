-- What a beginning gives: the refusals 1 to 5 and 7 in this order, else a record before its first round.
-- Assumes nothing.
use Rattle.std.specs.Prelude.{List, ℕ, Result, Ok, Err, eqb, leb, length, replicate}
use Rattle.bits.specs.Pick.{pick}
use Rattle.stopping.specs.Places.{place_of}
use Rattle.scheme.specs.Scheme.{Scheme, all_shapes}
use Rattle.instances.specs.Schemes.{known}
use Rattle.instances.specs.Limits.{most_assoc, most_text}
use Rattle.plan.specs.Planned.{placed}
use Rattle.isap.specs.declared.Job.{Job}
use Rattle.isap.specs.declared.Begun.{Begun}
use Rattle.isap.specs.declared.refusals.Refusal.{Refusal}
use Rattle.isap.specs.Records.{sealing_of}
use Rattle.isap.specs.Refusals.{number_of_refusal}

-- ---- the refusals of document 01, each 0 if it does not apply

-- 7
unfoldable pub tag_refusal : (tag : ℕ) → ℕ
tag_refusal tag = pick (eqb tag 16) 0 7

-- the first of two that applies
unfoldable pub or_else : (refusal next : ℕ) → ℕ
or_else refusal next = pick (eqb refusal 0) next refusal

-- ---- the records

-- all zeros
unfoldable pub no_job : Job
no_job =
    record {
      instance = 0;
      direction = 0;
      assoc = 0;
      text = 0;
      key = replicate 16 0;
      nonce = replicate 16 0;
      tag = replicate 16 0;
      done = 0;
      place = record { part = 0; call = 0; round = 0 };
      ending = 0;
      state = replicate 64 0;
      session = replicate 64 0;
    }

unfoldable pub begun_or : (refusal : ℕ) → Job → Begun
begun_or refusal j = pick (eqb refusal 0) (record { number = 100; rounds = 0; job = j }) (record { number = refusal; rounds = 0; job = no_job })

-- by the record that a beginning has made, or by what refused it
abbrev pub begun_by : Result Job Refusal → Begun
begun_by (Ok j) = record { number = 100; rounds = 0; job = j }
begun_by (Err e) = record { number = number_of_refusal e; rounds = 0; job = no_job }

-- ---- by the schemes of the instances

module _ (of : ℕ → Scheme) where
  -- 1 to 5, by the instance and the lengths
  unfoldable pub limits_refusal : (instance key nonce a m : ℕ) → ℕ
  limits_refusal instance key nonce a m =
      pick (known instance) (pick (eqb key (of instance).key_bytes) (pick (eqb nonce 16) (pick (leb a most_assoc) (pick (leb m most_text) 0 5) 4) 3) 2) 1

  unfoldable pub begun_job : (instance direction : ℕ) → (key nonce tag : List ℕ) → (a m : ℕ) → Job
  begun_job instance direction key nonce tag a m =
      record {
        instance = instance;
        direction = direction;
        assoc = a;
        text = m;
        key = key;
        nonce = nonce;
        tag = tag;
        done = 0;
        place = placed (place_of (all_shapes (of instance) (sealing_of direction) a m) 0);
        ending = 0;
        state = replicate 64 0;
        session = replicate 64 0;
      }

  -- ---- the two beginnings

  unfoldable pub begin_seal_of : (instance : ℕ) → (key nonce : List ℕ) → (a m : ℕ) → Begun
  begin_seal_of instance key nonce a m =
      begun_or (limits_refusal instance (length key) (length nonce) a m) (begun_job instance 1 key nonce (replicate 16 0) a m)

  unfoldable pub begin_open_of : (instance : ℕ) → (key nonce tag : List ℕ) → (a m : ℕ) → Begun
  begin_open_of instance key nonce tag a m =
      begun_or (or_else (limits_refusal instance (length key) (length nonce) a m) (tag_refusal (length tag))) (begun_job instance 2 key nonce tag a m)
