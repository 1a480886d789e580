-- The two ends of a beginning: refused, and begun. And the order of refusals: of two the first that there is.
-- Assumes nothing.
use mathlib.Core.Path.{◌≡◌, refl, sym, ap, ◌∙◌}
use mathlib.Core.Bool.{Bool, true, false}
use Prim.Native.Nat.{ℕ}
use native.Mathlib.Omega.{arith}
use lib.Dec.{eqb}
use borrow.Author.Tests.{eqb-true, eq-eqb, ne_eqb}
use Rattle.bits.specs.Pick.{pick}
use Rattle.isap.specs.declared.Job.{Job}
use Rattle.isap.specs.declared.refusals.Refusal.{Refusal}
use Rattle.isap.specs.declared.refusals.Refusal.TheVariants.{UnknownInstance, KeyLength, NonceLength, AssocTooLong, TextTooLong, OutputLength, TagLength, RecordCannotStand, JobHasEnded, LentLengths}
use Rattle.isap.specs.Refusals.{number_of_refusal}
use Rattle.isap.specs.Beginnings.{no_job, tag_refusal, or_else, begun_or}

-- a refusal has a number
pub some_number : (e : Refusal) → number_of_refusal e ≡ 0 → ⊥
some_number UnknownInstance z = omega (arith, z)
some_number KeyLength z = omega (arith, z)
some_number NonceLength z = omega (arith, z)
some_number AssocTooLong z = omega (arith, z)
some_number TextTooLong z = omega (arith, z)
some_number OutputLength z = omega (arith, z)
some_number TagLength z = omega (arith, z)
some_number RecordCannotStand z = omega (arith, z)
some_number JobHasEnded z = omega (arith, z)
some_number LentLengths z = omega (arith, z)

pub first_refusal : (e : Refusal) (r s : ℕ) → number_of_refusal e ≡ r → number_of_refusal e ≡ or_else r s
unfolding or_else
first_refusal e r s h = h ∙ sym (ap (λ (b : Bool). pick b s r) (ne_eqb r 0 (λ z. some_number e (h ∙ z))))

pub next_refusal : (r s n : ℕ) → 0 ≡ r → n ≡ s → n ≡ or_else r s
unfolding or_else
next_refusal r s n z h = h ∙ sym (ap (λ (b : Bool). pick b s r) (eq-eqb r 0 (sym z)))

-- a tag of 16 bytes refuses nothing
pub or_none_else : (r : ℕ) → or_else r (tag_refusal 16) ≡ r
unfolding or_else tag_refusal
or_none_else r = go (eqb r 0) refl
  where
    go : (b : Bool) → eqb r 0 ≡ b → pick b 0 r ≡ r
    go true e = sym (eqb-true r 0 e)
    go false e = refl

-- s is the definition's refusal
module _ (s : ℕ) (j : Job) where
  pub refused_or : (e : Refusal) → number_of_refusal e ≡ s → record { number = number_of_refusal e; rounds = 0; job = no_job } ≡ begun_or s j
  unfolding begun_or
  refused_or e h =
      ap (λ (n : ℕ). record { number = n; rounds = 0; job = no_job }) h
      ∙ sym (ap (λ (b : Bool). pick b (record { number = 100; rounds = 0; job = j }) (record { number = s; rounds = 0; job = no_job })) (ne_eqb s 0 (λ z. some_number e (h ∙ z))))

  pub begun_or_lem : 0 ≡ s → (k : Job) → k ≡ j → record { number = 100; rounds = 0; job = k } ≡ begun_or s j
  unfolding begun_or
  begun_or_lem z k h =
      ap (λ (y : Job). record { number = 100; rounds = 0; job = y }) h
      ∙ sym (ap (λ (b : Bool). pick b (record { number = 100; rounds = 0; job = j }) (record { number = s; rounds = 0; job = no_job })) (eq-eqb s 0 (sym z)))
