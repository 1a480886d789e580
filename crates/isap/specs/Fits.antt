-- A whole call that is not refused: everything has its length.
-- Assumes nothing.
use Rattle.std.specs.Prelude.{◌≡◌, refl, Bool, true, false, List, ℕ, ◌≤◌, eqb, length}
use Rattle.std.proofs.Common.{ap, ◌∙◌, arith, eqb-true, eq-eqb}
use Rattle.bits.specs.Pick.{pick}
use Rattle.scheme.specs.Scheme.{Scheme}
use Rattle.instances.specs.Schemes.{known}
use Rattle.instances.specs.Limits.{most_assoc, most_text}
use Rattle.isap.specs.Beginnings.{limits_refusal, tag_refusal, or_else}
use Rattle.isap.specs.Begun.{limits_none, or_none, tag_none}
use Rattle.isap.specs.Whole.{out_refusal, whole_refusal, refusal_for}

out_none : (o m : ℕ) → out_refusal o m ≡ 0 → o ≡ m
unfolding out_refusal
out_none o m e = eqb-true o m (go (eqb o m) e)
  where
    go : (b : Bool) → ◌≡◌ {A = ℕ} (pick b 0 6) 0 → b ≡ true
    go true q = refl
    go false q = absurd (omega (arith, q))

-- and the other way round, by the lengths alone
pub or_zero : (r s : ℕ) → r ≡ 0 → s ≡ 0 → or_else r s ≡ 0
unfolding or_else
or_zero r s e f = ap (λ (b : Bool). pick b s r) (eq-eqb r 0 e) ∙ f

module _ (of : ℕ → Scheme) where
  pub record Fits (instance : ℕ) (key nonce assoc text out tag : List ℕ) : Type 0 where
    pub is_known : known instance ≡ true
    pub key_long : length key ≡ (of instance).key_bytes
    pub nonce_long : length nonce ≡ 16
    pub assoc_limit : length assoc ≤ most_assoc
    pub text_limit : length text ≤ most_text
    pub out_long : length out ≡ length text
    pub tag_long : length tag ≡ 16
    pub limits : limits_refusal of instance (length key) (length nonce) (length assoc) (length text) ≡ 0
    pub tags : tag_refusal (length tag) ≡ 0

  pub fits : (instance : ℕ) (key nonce assoc text out tag : List ℕ) → refusal_for of instance key nonce assoc text out tag ≡ 0 → Fits instance key nonce assoc text out tag
  unfolding whole_refusal
  fits instance key nonce assoc text out tag e =
      let t = or_none (limits_refusal of instance (length key) (length nonce) (length assoc) (length text)) (or_else (out_refusal (length out) (length text)) (tag_refusal (length tag))) e in
      let w = or_none (out_refusal (length out) (length text)) (tag_refusal (length tag)) t.1 in
      let l = limits_none of instance (length key) (length nonce) (length assoc) (length text) t.0 in
      record {
        is_known = l.0;
        key_long = l.1;
        nonce_long = l.2;
        assoc_limit = l.3;
        text_limit = l.4;
        out_long = out_none (length out) (length text) w.0;
        tag_long = tag_none (length tag) w.1;
        limits = t.0;
        tags = w.1;
      }

  pub unrefused : (instance : ℕ) (key nonce assoc text out tag : List ℕ) → limits_refusal of instance (length key) (length nonce) (length assoc) (length text) ≡ 0
      → length out ≡ length text → length tag ≡ 16 → refusal_for of instance key nonce assoc text out tag ≡ 0
  unfolding whole_refusal out_refusal tag_refusal
  unrefused instance key nonce assoc text out tag l o t =
      or_zero _ _ l
      (or_zero _ _ (ap (λ (b : Bool). pick {A = ℕ} b 0 6) (eq-eqb (length out) (length text) o)) (ap (λ (b : Bool). pick {A = ℕ} b 0 7) (eq-eqb (length tag) 16 t)))
