-- Two sealings by one instance of ISAP under one key and nonce, in the words of what `isap::seal` promises: whoever has what both left in their
-- outputs has the xor of their texts. Associated data, lent bytes and tags may differ; encryption does not read them.
-- Assumes nothing.
use Rattle.std.specs.Prelude.{◌≡◌, false, List, ℕ, length, take}
use Rattle.std.proofs.Common.{sym, ap, ap₂, ◌∙◌}
use Rattle.bits.specs.Xors.{xors}
use Rattle.scheme.specs.Scheme.{Scheme}
use Rattle.mode.specs.Paper.{isap_enc, seal}
use Rattle.mode.specs.PaperLaws.{enc_twice, enc_common, enc_first}
use Rattle.mode.specs.Instances.{params_of}
use Rattle.mode.specs.InstanceLaws.{lawful_instance}
use Rattle.mode.specs.Isap.{isap_scheme}
use Rattle.instances.specs.Schemes.{is_spook, scheme_of, scheme_isap, key_bytes_lem}
use Rattle.isap.specs.declared.Answer.{Answer}
use Rattle.isap.specs.Fits.{fits}
use Rattle.isap.specs.Above.{sealing_taken, sealed_well}
use Rattle.isap.specs.Statements.{Seals}

-- ---- two ciphertexts of ISAP under one key and nonce

-- c is the ciphertext of the text by an instance of ISAP
pub record Under (instance : ℕ) (key nonce text c : List ℕ) : Type 0 where
  pub key_long : length key ≡ 16
  pub nonce_long : length nonce ≡ 16
  pub is : c ≡ isap_enc (params_of instance) key nonce text

module _ {instance : ℕ} {key nonce text c text' c' : List ℕ} (h : Under instance key nonce text c) (h' : Under instance key nonce text' c') where
  -- the second text is the first ciphertext
  pub under_twice : text' ≡ c → c' ≡ text
  under_twice e =
      h'.is ∙ ap (isap_enc (params_of instance) key nonce) (e ∙ h.is) ∙ enc_twice (params_of instance) (lawful_instance instance) key nonce h.key_long h.nonce_long text

  pub under_common : xors c c' ≡ xors text text'
  under_common =
      ap₂ xors h.is h'.is ∙ enc_common (params_of instance) (lawful_instance instance) key nonce h.key_long h.nonce_long text text'

  -- the second text is the first k bytes of the first
  pub under_first : (k : ℕ) → text' ≡ take k text → c' ≡ take k c
  under_first k e =
      h'.is ∙ ap (isap_enc (params_of instance) key nonce) e
      ∙ enc_first (params_of instance) (lawful_instance instance) key nonce h.key_long h.nonce_long k text ∙ ap (take k) (sym h.is)

-- the ciphertext that an instance of ISAP gives
pub isap_cipher : (instance : ℕ) → is_spook instance ≡ false → (key nonce assoc text : List ℕ)
    → ((scheme_of instance).seal key nonce assoc text).cipher ≡ isap_enc (params_of instance) key nonce text
unfolding isap_scheme seal
isap_cipher instance isap key nonce assoc text = ap (λ (s : Scheme). (s.seal key nonce assoc text).cipher) (scheme_isap instance isap)

-- ---- two sealings

-- a call of `seal` that answered 0: `sealed` is what it left in its output, and `promise` what the call's `ensures` says of it
pub record Sealing (instance : ℕ) (key nonce text sealed : List ℕ) : Type 0 where
  pub assoc : List ℕ
  pub out : List ℕ
  pub tag : List ℕ
  pub answer : Answer
  pub tag' : List ℕ
  pub promise : Seals scheme_of instance key nonce assoc text out tag answer sealed tag'
  pub well : answer.number ≡ 0

module _ (instance : ℕ) (isap : is_spook instance ≡ false) where
  sealing_under : {key nonce text sealed : List ℕ} → Sealing instance key nonce text sealed → Under instance key nonce text sealed
  sealing_under {key} {nonce} {text} {sealed} h =
      let none =
      sealing_taken scheme_of instance key nonce h.assoc text h.out h.tag (ap (λ (r : Answer). r.number) (sym h.promise.0) ∙ h.well) in
      let fit = fits scheme_of instance key nonce h.assoc text h.out h.tag none in
      record {
        key_long = fit.key_long ∙ key_bytes_lem instance;
        nonce_long = fit.nonce_long;
        is =
            (sealed_well scheme_of instance key nonce h.assoc text h.out h.tag none h.answer sealed h.tag' h.promise).1
            ∙ isap_cipher instance isap key nonce h.assoc text;
      }

  module _ {key nonce text sealed text' sealed' : List ℕ} (h : Sealing instance key nonce text sealed) (h' : Sealing instance key nonce text' sealed') where
    -- sealing what a sealing left gives the text back
    pub sealing_twice : text' ≡ sealed → sealed' ≡ text
    sealing_twice = under_twice (sealing_under h) (sealing_under h')

    -- the xor of what two sealings left is the xor of their texts; of two lengths, as far as the shorter goes
    pub sealing_common : xors sealed sealed' ≡ xors text text'
    sealing_common = under_common (sealing_under h) (sealing_under h')

    -- sealing a text's first k bytes leaves the first k bytes of what sealing the text leaves
    pub sealing_first : (k : ℕ) → text' ≡ take k text → sealed' ≡ take k sealed
    sealing_first = under_first (sealing_under h) (sealing_under h')
