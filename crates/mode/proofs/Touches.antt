-- What each part touches besides the state. Eight of the eleven touch nothing; `texts` writes a block of output with the last round of each
-- call, `mac_key_start` sets the MAC state aside with its first round, `mac_end` clears the session bytes with its first round and makes the
-- tag with its last. Everywhere else session bytes, output and tag are as they were.
-- Assumes nothing.
use Rattle.std.specs.Prelude.{◌≡◌, List, [], ◌∷◌, ◌++◌, ℕ, suc, ◌+◌, ◌*◌, ◌≤◌, ◌<◌, length}
use Rattle.std.proofs.Math.Path.{refl}
use Rattle.std.proofs.Common.{◌∙◌, mul-le-mul_right, arith}
use Rattle.std.proofs.Math.Nat.{suc-mul}
use Rattle.bits.specs.Put.{length-put_at, take-put_at-before, drop-put_at-behind}
use Rattle.bits.specs.Xors.{xors, length-xors}
use Rattle.stopping.specs.Parts.{Part}
use Rattle.stopping.specs.Kept.{KeepsParts, keeps-parts}
use Rattle.scheme.specs.Quiet.{Rest, rest, Quiet, quiet_keeps}
use Rattle.scheme.specs.Blocks.{Writes}
use Rattle.bits.specs.Strings.{block}
use Rattle.bits.specs.StringLaws.{length-block}
use Rattle.mode.specs.Params.{Params, LawfulParams}
use Rattle.mode.specs.Paper.{blocks}
use Rattle.mode.specs.PaperLaws.{blocks_are}
use Rattle.scheme.specs.Machine.{Machine, Input, nothing}
use Rattle.mode.specs.Parts.{part, key_start, key_bits, key_end, written, texts, mac_start, assocs, ciphers, set_aside, mac_key_start, mac_key_bits, mac_key_end, take_back, tagged, mac_end, enc_parts, mac_parts}

-- ---- the parts that touch the state alone

module _ (p : Params) (x : Input) where
  -- a part whose calls enter with the state alone and leave with nothing
  quiet-part : (count rounds : ℕ) (enter : ℕ → Machine → Machine) → ((i : ℕ) (m : Machine) → rest (enter i m) ≡ rest m)
      → Quiet (part p x count rounds enter nothing)
  unfolding part
  quiet-part count rounds enter h = record { enter = h; turn = λ k m. refl; leave = λ i m. refl }

  -- re-keying with the nonce
  abbrev pub rekeying : List (Part Machine)
  rekeying = key_start p x ∷ key_bits p x ∷ key_end p x ∷ []

  -- the MAC up to its re-keying
  abbrev pub hashing : List (Part Machine)
  hashing = mac_start p x ∷ assocs p x ∷ ciphers p x ∷ []

  -- its re-keying, and what of that follows the first call
  abbrev pub mac_rekeying : List (Part Machine)
  mac_rekeying = mac_key_start p x ∷ mac_key_bits p x ∷ mac_key_end p x ∷ []

  abbrev pub mac_bits : List (Part Machine)
  mac_bits = mac_key_bits p x ∷ mac_key_end p x ∷ []

  module _ (P : Rest → Type 0) where
    pub rekeying-keeps : KeepsParts (λ (m : Machine). P (rest m)) rekeying
    unfolding KeepsParts key_start key_bits key_end
    rekeying-keeps = (
      quiet_keeps P (quiet-part _ _ _ (λ i m. refl)),
      (quiet_keeps P (quiet-part _ _ _ (λ i m. refl)), (quiet_keeps P (quiet-part _ _ _ (λ i m. refl)), tt)),
    )

    pub hashing-keeps : KeepsParts (λ (m : Machine). P (rest m)) hashing
    unfolding KeepsParts mac_start assocs ciphers
    hashing-keeps = (
      quiet_keeps P (quiet-part _ _ _ (λ i m. refl)),
      (quiet_keeps P (quiet-part _ _ _ (λ i m. refl)), (quiet_keeps P (quiet-part _ _ _ (λ i m. refl)), tt)),
    )

    pub mac_bits-keeps : KeepsParts (λ (m : Machine). P (rest m)) mac_bits
    unfolding KeepsParts mac_key_bits mac_key_end
    mac_bits-keeps = (quiet_keeps P (quiet-part _ _ _ (λ i m. refl)), (quiet_keeps P (quiet-part _ _ _ (λ i m. refl)), tt))

  -- ---- the other three

  -- the encryption touches neither session bytes nor tag
  pub enc_keeps : (P : (session tag : List ℕ) → Type 0) → KeepsParts (λ (m : Machine). P m.session m.tag) (enc_parts p x)
  unfolding KeepsParts texts written part
  enc_keeps P =
      keeps-parts (λ (m : Machine). P m.session m.tag) rekeying (texts p x ∷ []) (rekeying-keeps (λ r. P r.session r.tag))
      (record { enter = λ i m e. e; turn = λ k m e. e; leave = λ i m e. e }, tt)

  -- the MAC's re-keying touches neither output nor tag
  pub mac_rekeying-keeps : (P : (out tag : List ℕ) → Type 0) → KeepsParts (λ (m : Machine). P m.out m.tag) mac_rekeying
  unfolding KeepsParts mac_key_start set_aside part
  mac_rekeying-keeps P = (record { enter = λ i m e. e; turn = λ k m e. e; leave = λ i m e. e }, mac_bits-keeps (λ r. P r.out r.tag))

  -- the MAC does not touch the output
  pub mac_keeps : (P : (out : List ℕ) → Type 0) → KeepsParts (λ (m : Machine). P m.out) (mac_parts p x)
  unfolding KeepsParts mac_end take_back tagged part
  mac_keeps P =
      let Q : Machine → Type 0 = λ m. P m.out in
      keeps-parts Q (hashing ++ mac_rekeying) (mac_end p x ∷ [])
      (keeps-parts Q hashing mac_rekeying (hashing-keeps (λ r. P r.out)) (mac_rekeying-keeps (λ o g. P o)))
      (record { enter = λ i m e. e; turn = λ k m e. e; leave = λ i m e. e }, tt)

-- ---- blocks at their places

module _ (p : Params) (l : LawfulParams p) (x : Input) where
  -- what a call of `texts` writes lies inside the output and is no longer than a block
  module _ (i : ℕ) (s : List ℕ) (h : i < blocks p (length x.text)) where
    abbrev y : List ℕ
    y = xors s (block p.b i x.text)

    inside : (i * p.b + length y ≤ length x.text) × (length y ≤ p.b)
    inside =
        let most = blocks_are p l (length x.text) in
        let b = mul-le-mul_right p.b h in
        let k = suc-mul i p.b in
        let size = length-xors s (block p.b i x.text) in
        let len = length-block p.b i x.text in
        (omega arith, omega arith)

  pub texts_write : Writes p.b (length x.text) (texts p x)
  unfolding texts part written
  texts_write =
      record {
        enter = λ i m. refl;
        turn = λ k m. refl;
        before = λ i m h e. let q = inside i m.state h in take-put_at-before (i * p.b) (y i m.state h) m.out (omega arith);
        behind = λ i m h e.
            let q = inside i m.state h in
            let k = suc-mul i p.b in
            drop-put_at-behind (i * p.b) (suc i * p.b) (y i m.state h) m.out (omega arith) (omega arith);
        stays = λ i m h e. let q = inside i m.state h in length-put_at (i * p.b) (y i m.state h) m.out (omega arith) ∙ e;
      }
