-- What the paper's algorithms keep: lengths; and that encryption squeezes, so that it undoes itself, which is why opening what was sealed gives
-- the message back, and why a nonce must not be used for two texts (`enc_twice`, `enc_common`, `enc_first`).
-- Assumes nothing.
use Rattle.std.specs.Prelude.{◌≡◌, Bool, length, take}
use Rattle.std.proofs.Math.Path.{refl, sym, ap, ap₂}
use Rattle.std.proofs.Common.{◌∙◌, subst, arith, length-append, length-drop, drop_of_length-le, take_at, drop_at, take_all}
use mathlib.Core.List.{List, [], ◌∷◌, ◌++◌, append-nil}
use Prim.Native.Nat.{ℕ, zero, suc, ◌+◌, ◌-◌, ◌*◌, ◌/◌, ◌≤◌, ◌<◌, min}
use Rattle.std.proofs.Math.ListN.{drop, length-take, length-replicate, take-append-drop}
use Rattle.std.proofs.Math.Seq.{length-take-le, take-nil, drop-nil}
use Rattle.bits.specs.Pick.{pick}
use Rattle.bits.specs.Run.{length-rounds}
use Rattle.bits.specs.Xors.{xors, length-xors, xors_twice}
use Rattle.bits.specs.Strings.{xor_into, xor_at, cut}
use Rattle.mode.specs.Strings.{padded, bits_of, bit_at, xor_bit}
use Rattle.bits.specs.StringLaws.{length-xor_into, length-xor_at, same_refl}
use Rattle.mode.specs.StringLaws.{length-xor_bit}
use Rattle.mode.specs.Params.{Params, LawfulParams, perm, iv}
use Rattle.scheme.specs.Machine.{Opened.plaintext, Opened.refused}
use Rattle.scheme.specs.Squeezing.{squeezed, blocks_of, encrypted, Squeezes}
use Rattle.scheme.proofs.Squeezing.{common, first_part}
use Rattle.mode.specs.Paper.{absorb_bits, rekeyed, rekey_mac, rekey_enc, blocks, squeeze, isap_enc, padded_blocks, absorb, hashed, finished, isap_mac, seal, unseal}
use Rattle.std.proofs.Math.Nat.{suc-mul, zero-mul, div-add-mod', mod-lt}
use Rattle.std.proofs.Math.Decide.{dec_lt}

module _ (p : Params) (l : LawfulParams p) where
  -- ---- states keep their n bytes

  pub perm_long : (r : ℕ) (s : List ℕ) → length s ≡ p.n → length (perm p r s) ≡ p.n
  unfolding perm
  perm_long r s h = length-rounds l.keeps (p.most - r) r s h

  pub length_iv : (flag : ℕ) → length (iv p flag) ≡ p.n - 16
  unfolding iv
  length_iv flag = rw length-replicate (omega (arith, l.room))

  -- a string of 16 bytes and an initial value make a state
  pub length-start : (k : List ℕ) (flag : ℕ) → length k ≡ 16 → length (k ++ iv p flag) ≡ p.n
  length-start k flag h = rw (length-append, h, length_iv flag) (omega (arith, l.room))

  pub bits_long : (ys : List Bool) (s : List ℕ) → length s ≡ p.n → length (absorb_bits p ys s) ≡ p.n
  unfolding absorb_bits
  bits_long [] s h = h
  bits_long (y ∷ ys) s h = bits_long ys (perm p p.s_b (xor_bit y s)) (perm_long p.s_b (xor_bit y s) (length-xor_bit y s ∙ h))

  pub rekeyed_long : (flag : ℕ) (k y : List ℕ) → length k ≡ 16 → length (rekeyed p flag k y) ≡ p.n
  unfolding rekeyed
  rekeyed_long flag k y h =
      let s₀ = perm p p.s_k (k ++ iv p flag) in
      let s₁ = absorb_bits p (take 127 (bits_of y)) s₀ in
      perm_long p.s_k (xor_bit (bit_at y 127) s₁)
      (length-xor_bit (bit_at y 127) s₁ ∙ bits_long (take 127 (bits_of y)) s₀ (perm_long p.s_k (k ++ iv p flag) (length-start k flag h)))

  -- no block is longer than the state
  unfoldable pub Short : List (List ℕ) → Type 0
  Short [] = Unit {0}
  Short (x ∷ xs) = (length x ≤ p.n) × Short xs

  pub cut_short : (t : ℕ) (s : List ℕ) → Short (cut p.b t s)
  unfolding Short cut
  cut_short zero s = tt
  cut_short (suc t) s = (omega (arith, length-take p.b s, l.block_fits), cut_short t (drop p.b s))

  pub absorb_long : (xs : List (List ℕ)) (s : List ℕ) → Short xs → length s ≡ p.n → length (absorb p xs s) ≡ p.n
  unfolding absorb Short
  absorb_long [] s k h = h
  absorb_long (x ∷ xs) s k h =
      absorb_long xs (perm p p.s_h (xor_into x s)) k.1
      (perm_long p.s_h (xor_into x s) (length-xor_into x s (omega (arith, k.0)) ∙ h))

  pub padded-short : (s : List ℕ) → Short (padded_blocks p s)
  unfolding padded_blocks
  padded-short s = cut_short (length s / p.b + 1) (padded p.b s)

  pub hashed_long : (nonce a c : List ℕ) → length nonce ≡ 16 → length (hashed p nonce a c) ≡ p.n
  unfolding hashed
  hashed_long nonce a c h =
      let s₀ = perm p p.s_h (nonce ++ iv p 1) in
      let s₁ = absorb p (padded_blocks p a) s₀ in
      absorb_long (padded_blocks p c) (xor_at (p.n - 1) 1 s₁) (padded-short c)
      (length-xor_at (p.n - 1) 1 s₁ ∙ absorb_long (padded_blocks p a) s₀ (padded-short a) (perm_long p.s_h (nonce ++ iv p 1) (length-start nonce 1 h)))

  pub finished_long : (key s : List ℕ) → length key ≡ 16 → length s ≡ p.n → length (finished p key s) ≡ p.n
  unfolding finished rekey_mac
  finished_long key s hk h =
      let r = l.room in
      let k = rekeyed p 2 key (take 16 s) in
      perm_long p.s_h (take 16 k ++ drop 16 s)
      (rw (length-append, length-take-le 16 k (omega (arith, rekeyed_long 2 key (take 16 s) hk)), length-drop) (omega arith))

  -- a tag has 16 bytes
  pub length_mac : (key nonce a c : List ℕ) → length key ≡ 16 → length nonce ≡ 16 → length (isap_mac p key nonce a c) ≡ 16
  unfolding isap_mac
  length_mac key nonce a c hk hn =
      length-take-le 16 (finished p key (hashed p nonce a c))
      (omega (arith, l.room, finished_long key (hashed p nonce a c) hk (hashed_long nonce a c hn)))

  -- the session key and the nonce make a state
  pub key_long_lem : (key nonce : List ℕ) → length key ≡ 16 → length nonce ≡ 16 → length (rekey_enc p key nonce ++ nonce) ≡ p.n
  unfolding rekey_enc
  key_long_lem key nonce hk hn =
      let r = l.room in
      let k = rekeyed p 3 key nonce in
      rw (length-append, length-take-le (p.n - 16) k (omega (arith, rekeyed_long 3 key nonce hk)), hn) (omega arith)

  -- ---- blocks of a text

  -- as many blocks as hold the text
  pub blocks_are : (m : ℕ) → (m ≤ blocks p m * p.b) × (blocks p m * p.b < m + p.b)
  unfolding blocks
  blocks_are m =
      let e = div-add-mod' (m + (p.b - 1)) p.b in
      let r = mod-lt (m + (p.b - 1)) l.block in
      let z = l.block in
      (omega arith, omega arith)

  -- ---- encryption undoes itself

  squeeze_none : (t : ℕ) (s : List ℕ) → squeeze p s (cut p.b t []) ≡ []
  unfolding squeeze cut xors
  squeeze_none zero s = refl
  squeeze_none (suc t) s = rw (take-nil, drop-nil) (xors_none (perm p p.s_e s) (squeeze_none t (perm p p.s_e s)))
    where
      xors_none : (s : List ℕ) {rest : List ℕ} → rest ≡ [] → xors s [] ++ rest ≡ []
      xors_none [] e = e
      xors_none (x ∷ s) e = e

  -- one block: its ciphertext, and the rest
  module _ (m s : List ℕ) (h : length s ≡ p.n) where
    key : List ℕ
    key = perm p p.s_e s

    front : List ℕ
    front = xors key (take p.b m)

    fits : length (take p.b m) ≤ length key
    unfolding key
    fits = omega (arith, length-take p.b m, l.block_fits, perm_long p.s_e s h)

    front_length : length front ≡ min p.b (length m)
    unfolding front
    front_length = length-xors key (take p.b m) ∙ omega (arith, fits, length-take p.b m)

    -- the blocks of a ciphertext are the ciphertexts of the blocks
    front_of : (t : ℕ) → (take p.b (front ++ squeeze p key (cut p.b t (drop p.b m))) ≡ front)
        × (drop p.b (front ++ squeeze p key (cut p.b t (drop p.b m))) ≡ squeeze p key (cut p.b t (drop p.b m)))
    front_of t =
        let rest = squeeze p key (cut p.b t (drop p.b m)) in
        let len = front_length in
        elim (dec_lt (length m) p.b) [
          | yes y ↦
              let e : rest ≡ [] =
              ap (λ (u : List ℕ). squeeze p key (cut p.b t u)) (drop_of_length-le m {i = p.b} (omega arith)) ∙ squeeze_none t key in (
                ap (λ (u : List ℕ). take p.b (front ++ u)) e ∙ ap (take p.b) (append-nil front) ∙ take_all p.b front (omega arith),
                ap (λ (u : List ℕ). drop p.b (front ++ u)) e ∙ ap (drop p.b) (append-nil front)
                    ∙ drop_of_length-le front {i = p.b} (omega arith) ∙ sym e,
              )
          | no z ↦ (take_at front rest p.b (omega arith), drop_at front rest p.b (omega arith))
        ]

  squeeze-length : (t : ℕ) (s m : List ℕ) → length s ≡ p.n → length m ≤ t * p.b → length (squeeze p s (cut p.b t m)) ≡ length m
  unfolding squeeze cut front key
  squeeze-length zero s m h b = omega (arith, zero-mul p.b)
  squeeze-length (suc t) s m h b =
      let q = suc-mul t p.b in
      length-append (front m s h) (squeeze p (perm p p.s_e s) (cut p.b t (drop p.b m)))
      ∙ omega (
        arith,
        front_length m s h,
        length-drop p.b m,
        squeeze-length t (perm p p.s_e s) (drop p.b m) (perm_long p.s_e s h) (omega (arith, length-drop p.b m)),
      )

  squeeze_twice : (t : ℕ) (s m : List ℕ) → length s ≡ p.n → length m ≤ t * p.b
      → squeeze p s (cut p.b t (squeeze p s (cut p.b t m))) ≡ m
  unfolding squeeze cut front key
  squeeze_twice zero s [] h b = refl
  squeeze_twice zero s (a ∷ m) h b = absurd (omega (arith, zero-mul p.b))
  squeeze_twice (suc t) s m h b =
      let q = suc-mul t p.b in
      let k = perm p p.s_e s in
      let f = front_of m s h t in
      ap₂ (λ (u v : List ℕ). xors k u ++ squeeze p k (cut p.b t v)) f.0 f.1
      ∙ ap₂ (λ (u v : List ℕ). u ++ v) (xors_twice k (take p.b m) (fits m s h))
      (squeeze_twice t k (drop p.b m) (perm_long p.s_e s h) (omega (arith, length-drop p.b m)))
      ∙ take-append-drop p.b m

  -- ---- encryption is a squeezing (scheme, Squeezing)

  squeezes : Squeezes p.n p.b (perm p p.s_e)
  squeezes = record { some = l.block; fits = l.block_fits; keeps = perm_long p.s_e }

  squeeze_is : (s : List ℕ) (ms : List (List ℕ)) → squeeze p s ms ≡ squeezed (perm p p.s_e) s ms
  unfolding squeeze squeezed
  squeeze_is s [] = refl
  squeeze_is s (m ∷ ms) = ap (λ (c : List ℕ). xors (perm p p.s_e s) m ++ c) (squeeze_is (perm p p.s_e s) ms)

  module _ (key nonce : List ℕ) (hk : length key ≡ 16) (hn : length nonce ≡ 16) where
    abbrev start : List ℕ
    start = rekey_enc p key nonce ++ nonce

    enc_is : encrypted (perm p p.s_e) p.b start ≡ isap_enc p key nonce
    unfolding isap_enc encrypted blocks blocks_of
    enc_is = λ i m. sym (squeeze_is start (cut p.b (blocks p (length m)) m)) i

    -- a ciphertext is as long as its text
    pub enc_length : (m : List ℕ) → length (isap_enc p key nonce m) ≡ length m
    unfolding isap_enc
    enc_length m =
        squeeze-length (blocks p (length m)) (rekey_enc p key nonce ++ nonce) m (key_long_lem key nonce hk hn) (blocks_are (length m)).0

    -- encryption applied twice gives the text back
    pub enc_twice : (m : List ℕ) → isap_enc p key nonce (isap_enc p key nonce m) ≡ m
    unfolding isap_enc
    enc_twice m =
        ap (λ (n : ℕ). squeeze p (rekey_enc p key nonce ++ nonce) (cut p.b (blocks p n) (isap_enc p key nonce m))) (enc_length m)
        ∙ squeeze_twice (blocks p (length m)) (rekey_enc p key nonce ++ nonce) m (key_long_lem key nonce hk hn) (blocks_are (length m)).0

    -- the xor of two ciphertexts is the xor of their texts; of two lengths, as far as the shorter goes
    pub enc_common : (m m' : List ℕ) → xors (isap_enc p key nonce m) (isap_enc p key nonce m') ≡ xors m m'
    enc_common =
        subst (λ (enc : List ℕ → List ℕ). (m m' : List ℕ) → xors (enc m) (enc m') ≡ xors m m') enc_is (common squeezes start (key_long_lem key nonce hk hn))

    -- the ciphertext of a text's first k bytes is the first k bytes of its ciphertext
    pub enc_first : (k : ℕ) (m : List ℕ) → isap_enc p key nonce (take k m) ≡ take k (isap_enc p key nonce m)
    enc_first =
        subst (λ (enc : List ℕ → List ℕ). (k : ℕ) (m : List ℕ) → enc (take k m) ≡ take k (enc m)) enc_is (first_part squeezes start (key_long_lem key nonce hk hn))

    -- opening what was sealed gives the message back
    pub open_sealed_lem : (a m : List ℕ) → unseal p key nonce a (seal p key nonce a m).cipher (seal p key nonce a m).tag ≡ plaintext m
    unfolding seal unseal
    open_sealed_lem a m =
        let c = isap_enc p key nonce m in
        ap (λ (b : Bool). pick b (plaintext (isap_enc p key nonce c)) refused) (same_refl (isap_mac p key nonce a c)) ∙ ap plaintext (enc_twice m)
