-- The rows done whole give what the paper's algorithms give: the encryption's row writes IsapEnc's ciphertext, the MAC's row ends at
-- IsapMac's last state.
-- Assumes nothing.
use Rattle.std.specs.Prelude.{◌≡◌, Bool, drop, replicate}
use Rattle.std.proofs.Math.Path.{refl, ap, subst}
use Rattle.std.proofs.Common.{sym, ◌∙◌, inl, inr, add-one, drop-cons, length-take-le}
use Rattle.std.proofs.Math.Bool.{false}
use mathlib.Core.List.{List, [], ◌∷◌, ◌++◌, append_assoc, append-nil}
use Prim.Native.Nat.{ℕ, zero, suc, ◌+◌, ◌-◌, ◌*◌, ◌/◌, ◌≤◌, ◌<◌, min}
use Rattle.std.proofs.Math.Nat.{suc-mul, zero-mul}
use Rattle.std.proofs.Math.Decide.{dec_lt}
use native.Mathlib.Omega.{arith}
use Rattle.std.proofs.Math.ListN.{length, get_or, take}
use Rattle.std.proofs.Math.Seq.{take_all}
use Rattle.bits.specs.Xors.{xors, length-xors}
use Rattle.stopping.specs.Stopped.{Call, whole}
use Rattle.stopping.specs.Rows.{run, calls, run-append}
use Rattle.stopping.specs.Parts.{Part, call_of, part_row, row, row-append}
use Rattle.bits.specs.Put.{put_at, length-put_at, take-put_at}
use Rattle.bits.specs.Strings.{xor_into, xor_at, cut, block}
use Rattle.mode.specs.Strings.{padded, bits_of, bit_at, xor_bit}
use Rattle.bits.specs.StringLaws.{length-xor_into, length-xor_at, length-block, drop-next}
use Rattle.mode.specs.StringLaws.{length-xor_bit, length-bits_of}
use Rattle.mode.specs.Params.{Params, LawfulParams, perm, iv}
use Rattle.mode.specs.Paper.{absorb_bits, rekeyed, rekey_mac, rekey_enc, blocks, squeeze, isap_enc, padded_blocks, absorb, hashed, finished}
use Rattle.mode.specs.PaperLaws.{perm_long, length-start, bits_long, rekeyed_long, absorb_long, padded-short, hashed_long, key_long_lem, blocks_are}
use Rattle.scheme.specs.Machine.{Machine, Input, first, cipher_of, machine}
use Rattle.mode.specs.Parts.{tag_of, part, key_start, key_bits, key_end, texts, mac_start, assocs, ciphers, mac_key_start, mac_key_bits, mac_key_end, mac_end, enc_parts, mac_parts}
use Rattle.mode.proofs.Calls.{nonce_put, nonce_long_lem, w_key_start, w_key_bits, w_key_end, w_texts, w_mac_start, w_assocs, w_ciphers, w_mac_key_start, w_mac_key_bits, w_mac_key_end, w_mac_end}

-- the state after k blocks of text
unfoldable pub squeezed : Params → ℕ → List ℕ → List ℕ
squeezed p zero s = s
squeezed p (suc k) s = squeezed p k (perm p p.s_e s)

module _ (p : Params) (l : LawfulParams p) where
  squeezed_long : (k : ℕ) (s : List ℕ) → length s ≡ p.n → length (squeezed p k s) ≡ p.n
  unfolding squeezed
  squeezed_long zero s h = h
  squeezed_long (suc k) s h = squeezed_long k (perm p p.s_e s) (perm_long p l p.s_e s h)

  -- ---- calls that take a string in, over any calls that do what is said of each

  module _ (f : ℕ → Call Machine) (t ss o g : List ℕ) where
    -- bits, each with s_b rounds
    bits-run : (ys : List Bool)
        → ((i : ℕ) (s : List ℕ) → length s ≡ p.n → whole (f i) (machine (s ++ t) ss o g) ≡ machine (perm p p.s_b (xor_bit (get_or ys i false) s) ++ t) ss o g)
        → (k i : ℕ) (s : List ℕ) → i + k ≤ length ys → length s ≡ p.n
        → run (calls f i k) (machine (s ++ t) ss o g) ≡ machine (absorb_bits p (take k (drop i ys)) s ++ t) ss o g
    unfolding run calls absorb_bits
    bits-run ys w zero i s b h = refl
    bits-run ys w (suc k) i s b h =
        let y = get_or ys i false in
        let s₁ = perm p p.s_b (xor_bit y s) in
        ap (run (calls f (suc i) k)) (w i s h)
        ∙ bits-run ys w k (suc i) s₁ (omega arith) (perm_long p l p.s_b (xor_bit y s) (length-xor_bit y s ∙ h))
        ∙ ap (λ (u : List Bool). machine (absorb_bits p (take (suc k) u) s ++ t) ss o g) (sym (drop-cons ys i false (omega arith)))

    -- blocks, each with s_h rounds; `dom` is done before the first of them
    module _ (dom : List ℕ → List ℕ) (str : List ℕ)
        (w : (i : ℕ) (s : List ℕ) → length s ≡ p.n
        → whole (f i) (machine (s ++ t) ss o g) ≡ machine (perm p p.s_h (xor_into (block p.b i str) (first i dom s)) ++ t) ss o g) where
      absorbed_long : (i : ℕ) (s : List ℕ) → length s ≡ p.n → length (perm p p.s_h (xor_into (block p.b i str) s)) ≡ p.n
      absorbed_long i s h =
          let x = block p.b i str in
          perm_long p l p.s_h (xor_into x s) (length-xor_into x s (omega (arith, length-block p.b i str, l.block_fits)) ∙ h)

      later-run : (k i : ℕ) (s : List ℕ) → length s ≡ p.n
          → run (calls f (suc i) k) (machine (s ++ t) ss o g) ≡ machine (absorb p (cut p.b k (drop (suc i * p.b) str)) s ++ t) ss o g
      unfolding run calls absorb cut block
      later-run zero i s h = refl
      later-run (suc k) i s h =
          let s₁ = perm p p.s_h (xor_into (block p.b (suc i) str) s) in
          ap (run (calls f (suc (suc i)) k)) (w (suc i) s h)
          ∙ later-run k (suc i) s₁ (absorbed_long (suc i) s h)
          ∙ ap (λ (u : List ℕ). machine (absorb p (cut p.b k u) s₁ ++ t) ss o g) (sym (drop-next p.b (suc i) str))

      absorb-run : (k : ℕ) (s : List ℕ) → length s ≡ p.n → length (dom s) ≡ p.n
          → run (calls f 0 (suc k)) (machine (s ++ t) ss o g) ≡ machine (absorb p (cut p.b (suc k) str) (dom s) ++ t) ss o g
      unfolding run calls absorb cut block
      absorb-run k s h d =
          let s₁ = perm p p.s_h (xor_into (take p.b str) (dom s)) in
          let one : 1 * p.b ≡ p.b = omega arith in
          let start : block p.b 0 str ≡ take p.b str = ap (λ (n : ℕ). take p.b (drop n str)) (zero-mul p.b) in
          ap (run (calls f 1 k)) (w 0 s h ∙ ap (λ (u : List ℕ). machine (perm p p.s_h (xor_into u (dom s)) ++ t) ss o g) start)
          ∙ later-run k 0 s₁ (subst (λ (u : List ℕ). length (perm p p.s_h (xor_into u (dom s))) ≡ p.n) start (absorbed_long 0 (dom s) d))
          ∙ ap (λ (n : ℕ). machine (absorb p (cut p.b k (drop n str)) s₁ ++ t) ss o g) one

  -- text blocks, each with s_e rounds; `dom` is done before the first of them; the output takes each block at its place
  module _ (f : ℕ → Call Machine) (t ss g : List ℕ) (dom : List ℕ → List ℕ) (text : List ℕ)
      (w : (i : ℕ) (s o : List ℕ) → length s ≡ p.n
      → whole (f i) (machine (s ++ t) ss o g)
      ≡ machine (perm p p.s_e (first i dom s) ++ t) ss (put_at (i * p.b) (xors (perm p p.s_e (first i dom s)) (block p.b i text)) o) g) where
    -- what is written of block i, from the state before its call
    block_out : (i : ℕ) (s : List ℕ) → List ℕ
    block_out i s = xors (perm p p.s_e s) (block p.b i text)

    length_out : (i : ℕ) (s : List ℕ) → length s ≡ p.n → length (block_out i s) ≡ min p.b (length text - i * p.b)
    unfolding block_out
    length_out i s h =
        length-xors (perm p p.s_e s) (block p.b i text)
        ∙ omega (arith, length-block p.b i text, l.block_fits, perm_long p l p.s_e s h)

    -- the output up to the next block
    out_front : (i : ℕ) (s o : List ℕ) → length s ≡ p.n → length o ≡ length text → i * p.b ≤ length text
        → take (suc i * p.b) (put_at (i * p.b) (block_out i s) o) ≡ take (i * p.b) o ++ block_out i s
    out_front i s o h e b =
        let q = length_out i s h in
        let k = suc-mul i p.b in
        take-put_at (i * p.b) (suc i * p.b) (block_out i s) o (omega arith)
        (elim (dec_lt (length text) (suc i * p.b)) [ yes y ↦ inr (omega arith) | no z ↦ inl (omega arith) ]) (omega arith)

    out_long_lem : (i : ℕ) (s o : List ℕ) → length s ≡ p.n → length o ≡ length text → i * p.b ≤ length text
        → length (put_at (i * p.b) (block_out i s) o) ≡ length text
    out_long_lem i s o h e b = let q = length_out i s h in length-put_at (i * p.b) (block_out i s) o (omega arith) ∙ e

    later_out : (k i : ℕ) (s o : List ℕ) → length s ≡ p.n → length o ≡ length text
        → length text ≤ suc i * p.b + k * p.b → suc i * p.b + k * p.b < length text + p.b
        → run (calls f (suc i) k) (machine (s ++ t) ss o g)
        ≡ machine (squeezed p k s ++ t) ss (take (suc i * p.b) o ++ squeeze p s (cut p.b k (drop (suc i * p.b) text))) g
    unfolding run calls squeeze cut squeezed block block_out
    later_out zero i s o h e b c =
        ap (λ (u : List ℕ). machine (s ++ t) ss u g) (sym (append-nil (take (suc i * p.b) o) ∙ take_all (suc i * p.b) o (omega arith)))
    later_out (suc k) i s o h e b c =
        let j = suc i in
        let s₁ = perm p p.s_e s in
        let o₁ = put_at (j * p.b) (block_out j s) o in
        let q = suc-mul k p.b in
        let r = suc-mul j p.b in
        ap (run (calls f (suc j) k)) (w j s o h)
        ∙ later_out k j s₁ o₁ (perm_long p l p.s_e s h) (out_long_lem j s o h e (omega arith)) (omega arith) (omega arith)
        ∙ ap (λ (u : List ℕ). machine (squeezed p k s₁ ++ t) ss u g)
        (ap (λ (u : List ℕ). u ++ squeeze p s₁ (cut p.b k (drop (suc j * p.b) text))) (out_front j s o h e (omega arith))
        ∙ append_assoc (take (j * p.b) o) (block_out j s) (squeeze p s₁ (cut p.b k (drop (suc j * p.b) text)))
        ∙ ap (λ (u : List ℕ). take (j * p.b) o ++ (block_out j s ++ squeeze p s₁ (cut p.b k u))) (sym (drop-next p.b j text)))

    squeeze-run : (k : ℕ) (s o : List ℕ) → length s ≡ p.n → length (dom s) ≡ p.n → length o ≡ length text
        → length text ≤ suc k * p.b → suc k * p.b < length text + p.b
        → run (calls f 0 (suc k)) (machine (s ++ t) ss o g)
        ≡ machine (squeezed p (suc k) (dom s) ++ t) ss (squeeze p (dom s) (cut p.b (suc k) text)) g
    unfolding run calls squeeze cut squeezed block block_out
    squeeze-run k s o h d e b c =
        let s₁ = perm p p.s_e (dom s) in
        let o₁ = put_at (0 * p.b) (block_out 0 (dom s)) o in
        let q = suc-mul k p.b in
        let z = zero-mul p.b in
        let one : 1 * p.b ≡ p.b = omega arith in
        ap (run (calls f 1 k)) (w 0 s o h)
        ∙ later_out k 0 s₁ o₁ (perm_long p l p.s_e (dom s) d) (out_long_lem 0 (dom s) o d e (omega arith)) (omega arith) (omega arith)
        ∙ ap (λ (u : List ℕ). machine (squeezed p k s₁ ++ t) ss u g)
        (ap (λ (u : List ℕ). u ++ squeeze p s₁ (cut p.b k (drop (1 * p.b) text))) (out_front 0 (dom s) o d e (omega arith))
        ∙ ap (λ (n : ℕ). (take n o ++ xors s₁ (take p.b (drop n text))) ++ squeeze p s₁ (cut p.b k (drop (1 * p.b) text))) z
        ∙ ap (λ (n : ℕ). xors s₁ (take p.b text) ++ squeeze p s₁ (cut p.b k (drop n text))) one)

  -- ---- the parts, one after the other

  module _ (x : Input) (hk : length x.key ≡ 16) (hn : length x.nonce ≡ 16) where
    -- a part, and then the others
    and_then : (c : Part Machine) (cs : List (Part Machine)) (m : Machine) {m' m'' : Machine}
        → run (part_row c) m ≡ m' → run (row cs) m' ≡ m'' → run (row (c ∷ cs)) m ≡ m''
    unfolding row
    and_then c cs m e f = run-append (part_row c) (row cs) m ∙ ap (run (row cs)) e ∙ f

    done : (m : Machine) → run (row []) m ≡ m
    unfolding run row
    done m = refl

    -- a part of one call
    one_call : (f : ℕ → Call Machine) (m : Machine) → run (calls f 0 1) m ≡ whole (f 0) m
    unfolding run calls
    one_call f m = refl

    length_128 : (y : List ℕ) → length y ≡ 16 → length (bits_of y) ≡ 128
    length_128 y h = omega (arith, length-bits_of y)

    -- ---- the MAC's row

    r_assocs : (s t ss o g : List ℕ) → length s ≡ p.n
        → run (part_row (assocs p x)) (machine (s ++ t) ss o g) ≡ machine (absorb p (padded_blocks p x.assoc) s ++ t) ss o g
    unfolding part_row padded_blocks assocs part
    r_assocs s t ss o g h =
        subst
        (λ (n : ℕ). run (calls (call_of (assocs p x)) 0 n) (machine (s ++ t) ss o g)
        ≡ machine (absorb p (cut p.b n (padded p.b x.assoc)) s ++ t) ss o g)
        (sym (add-one (length x.assoc / p.b)))
        (absorb-run (call_of (assocs p x)) t ss o g (λ (u : List ℕ). u) (padded p.b x.assoc)
        (λ i s h. w_assocs p l x hk hn i s t ss o g h ∙ ap (λ (u : List ℕ). machine (perm p p.s_h (xor_into (block p.b i (padded p.b x.assoc)) u) ++ t) ss o g) (sym (first_none i s)))
        (length x.assoc / p.b) s h h)
      where
        first_none : (i : ℕ) (s : List ℕ) → first i (λ (u : List ℕ). u) s ≡ s
        first_none zero s = refl
        first_none (suc i) s = refl

    r_ciphers : (s t ss o g : List ℕ) → length s ≡ p.n → length (cipher_of x o) ≡ length x.text
        → run (part_row (ciphers p x)) (machine (s ++ t) ss o g)
        ≡ machine (absorb p (padded_blocks p (cipher_of x o)) (xor_at (p.n - 1) 1 s) ++ t) ss o g
    unfolding part_row padded_blocks ciphers part
    r_ciphers s t ss o g h e =
        subst
        (λ (n : ℕ). run (calls (call_of (ciphers p x)) 0 (length x.text / p.b + 1)) (machine (s ++ t) ss o g)
        ≡ machine (absorb p (cut p.b (n / p.b + 1) (padded p.b (cipher_of x o))) (xor_at (p.n - 1) 1 s) ++ t) ss o g)
        (sym e)
        (subst
        (λ (n : ℕ). run (calls (call_of (ciphers p x)) 0 n) (machine (s ++ t) ss o g)
        ≡ machine (absorb p (cut p.b n (padded p.b (cipher_of x o))) (xor_at (p.n - 1) 1 s) ++ t) ss o g)
        (sym (add-one (length x.text / p.b)))
        (absorb-run (call_of (ciphers p x)) t ss o g (xor_at (p.n - 1) 1) (padded p.b (cipher_of x o)) (λ i s h. w_ciphers p l x hk hn i s t ss o g h)
        (length x.text / p.b) s h (length-xor_at (p.n - 1) 1 s ∙ h)))

    -- up to its re-keying: the state that is then set aside
    pub hashing_end : (s t ss o g : List ℕ) → length s ≡ p.n → length (cipher_of x o) ≡ length x.text
        → run (row (mac_start p x ∷ assocs p x ∷ ciphers p x ∷ [])) (machine (s ++ t) ss o g)
        ≡ machine (hashed p x.nonce x.assoc (cipher_of x o) ++ t) ss o g
    unfolding part_row mac_start part hashed
    hashing_end s t ss o g h e =
        let s₀ = perm p p.s_h (x.nonce ++ iv p 1) in
        let h₀ : length s₀ ≡ p.n = perm_long p l p.s_h (x.nonce ++ iv p 1) (length-start p l x.nonce 1 hn) in
        let s₁ = absorb p (padded_blocks p x.assoc) s₀ in
        let h₁ : length s₁ ≡ p.n = absorb_long p l (padded_blocks p x.assoc) s₀ (padded-short p l x.assoc) h₀ in
        and_then (mac_start p x) (assocs p x ∷ ciphers p x ∷ []) _
        (one_call (call_of (mac_start p x)) (machine (s ++ t) ss o g) ∙ w_mac_start p l x hk hn 0 s t ss o g h)
        (and_then (assocs p x) (ciphers p x ∷ []) _ (r_assocs s₀ t ss o g h₀)
        (and_then (ciphers p x) [] _ (r_ciphers s₁ t ss o g h₁ e) (done _)))

    r_mac_key_bits : (s t u v o g : List ℕ) → length s ≡ p.n → length u ≡ p.n
        → run (part_row (mac_key_bits p x)) (machine (s ++ t) (u ++ v) o g) ≡ machine (absorb_bits p (take 127 (bits_of (take 16 u))) s ++ t) (u ++ v) o g
    unfolding part_row mac_key_bits part bit_at
    r_mac_key_bits s t u v o g h k =
        bits-run (call_of (mac_key_bits p x)) t (u ++ v) o g (bits_of (take 16 u)) (λ i s h. w_mac_key_bits p l x hk hn i s t u v o g h k) 127 0 s
        (omega (arith, l.room, length_128 (take 16 u) (length-take-le 16 u (omega (arith, l.room))))) h

    -- at its end: the paper's last state, the session bytes zero again, and in a sealing the tag
    pub mac_end_lem : (s t u v o g : List ℕ) → length s ≡ p.n → length u ≡ p.n → length (cipher_of x o) ≡ length x.text
        → run (row (mac_parts p x)) (machine (s ++ t) (u ++ v) o g)
        ≡ machine (finished p x.key (hashed p x.nonce x.assoc (cipher_of x o)) ++ t) (replicate p.n 0 ++ v) o
        (tag_of x (finished p x.key (hashed p x.nonce x.assoc (cipher_of x o)) ++ t) g)
    unfolding part_row mac_start mac_key_start mac_key_end mac_end part finished rekey_mac rekeyed hashed
    mac_end_lem s t u v o g h k e =
        let s₀ = perm p p.s_h (x.nonce ++ iv p 1) in
        let h₀ : length s₀ ≡ p.n = perm_long p l p.s_h (x.nonce ++ iv p 1) (length-start p l x.nonce 1 hn) in
        let s₁ = absorb p (padded_blocks p x.assoc) s₀ in
        let h₁ : length s₁ ≡ p.n = absorb_long p l (padded_blocks p x.assoc) s₀ (padded-short p l x.assoc) h₀ in
        let s₂ = hashed p x.nonce x.assoc (cipher_of x o) in
        let h₂ : length s₂ ≡ p.n = hashed_long p l x.nonce x.assoc (cipher_of x o) hn in
        let s₃ = perm p p.s_k (x.key ++ iv p 2) in
        let h₃ : length s₃ ≡ p.n = perm_long p l p.s_k (x.key ++ iv p 2) (length-start p l x.key 2 hk) in
        let s₄ = absorb_bits p (take 127 (bits_of (take 16 s₂))) s₃ in
        let h₄ : length s₄ ≡ p.n = bits_long p l (take 127 (bits_of (take 16 s₂))) s₃ h₃ in
        let s₅ = rekeyed p 2 x.key (take 16 s₂) in
        let h₅ : length s₅ ≡ p.n = rekeyed_long p l 2 x.key (take 16 s₂) hk in
        and_then (mac_start p x) (assocs p x ∷ ciphers p x ∷ mac_key_start p x ∷ mac_key_bits p x ∷ mac_key_end p x ∷ mac_end p x ∷ []) _
        (one_call (call_of (mac_start p x)) (machine (s ++ t) (u ++ v) o g) ∙ w_mac_start p l x hk hn 0 s t (u ++ v) o g h)
        (and_then (assocs p x) (ciphers p x ∷ mac_key_start p x ∷ mac_key_bits p x ∷ mac_key_end p x ∷ mac_end p x ∷ []) _ (r_assocs s₀ t (u ++ v) o g h₀)
        (and_then (ciphers p x) (mac_key_start p x ∷ mac_key_bits p x ∷ mac_key_end p x ∷ mac_end p x ∷ []) _ (r_ciphers s₁ t (u ++ v) o g h₁ e)
        (and_then (mac_key_start p x) (mac_key_bits p x ∷ mac_key_end p x ∷ mac_end p x ∷ []) _
        (one_call (call_of (mac_key_start p x)) (machine (s₂ ++ t) (u ++ v) o g) ∙ w_mac_key_start p l x hk hn 0 s₂ t u v o g h₂ k)
        (and_then (mac_key_bits p x) (mac_key_end p x ∷ mac_end p x ∷ []) _ (r_mac_key_bits s₃ t s₂ v o g h₃ h₂)
        (and_then (mac_key_end p x) (mac_end p x ∷ []) _
        (one_call (call_of (mac_key_end p x)) (machine (s₄ ++ t) (s₂ ++ v) o g) ∙ w_mac_key_end p l x hk hn 0 s₄ t s₂ v o g h₄ h₂)
        (and_then (mac_end p x) [] _
        (one_call (call_of (mac_end p x)) (machine (s₅ ++ t) (s₂ ++ v) o g) ∙ w_mac_end p l x hk hn 0 s₅ t s₂ v o g h₅ h₂)
        (done _)))))))

    -- ---- the encryption's row

    r_key_bits : (s t ss o g : List ℕ) → length s ≡ p.n
        → run (calls (call_of (key_bits p x)) 0 127) (machine (s ++ t) ss o g) ≡ machine (absorb_bits p (take 127 (bits_of x.nonce)) s ++ t) ss o g
    unfolding bit_at
    r_key_bits s t ss o g h =
        bits-run (call_of (key_bits p x)) t ss o g (bits_of x.nonce) (λ i s h. w_key_bits p l x hk hn i s t ss o g h) 127 0 s
        (omega (arith, length_128 x.nonce hn)) h

    -- the state of Algorithm 4 after the re-keying, which is done whatever the text
    pub rekeying_end : (s t ss o g : List ℕ) → length s ≡ p.n
        → run (row (key_start p x ∷ key_bits p x ∷ key_end p x ∷ [])) (machine (s ++ t) ss o g) ≡ machine (rekeyed p 3 x.key x.nonce ++ t) ss o g
    unfolding part_row key_start key_bits key_end part rekeyed
    rekeying_end s t ss o g h =
        let s₀ = perm p p.s_k (x.key ++ iv p 3) in
        let h₀ : length s₀ ≡ p.n = perm_long p l p.s_k (x.key ++ iv p 3) (length-start p l x.key 3 hk) in
        let s₁ = absorb_bits p (take 127 (bits_of x.nonce)) s₀ in
        let h₁ : length s₁ ≡ p.n = bits_long p l (take 127 (bits_of x.nonce)) s₀ h₀ in
        and_then (key_start p x) (key_bits p x ∷ key_end p x ∷ []) _
        (one_call (call_of (key_start p x)) (machine (s ++ t) ss o g) ∙ w_key_start p l x hk hn 0 s t ss o g h)
        (and_then (key_bits p x) (key_end p x ∷ []) _ (r_key_bits s₀ t ss o g h₀)
        (and_then (key_end p x) [] _
        (one_call (call_of (key_end p x)) (machine (s₁ ++ t) ss o g) ∙ w_key_end p l x hk hn 0 s₁ t ss o g h₁)
        (done _)))

    -- the state after so many blocks; the nonce goes with the first of them, so that an empty text ends where re-keying does
    unfoldable pub text_state : ℕ → List ℕ
    text_state zero = rekeyed p 3 x.key x.nonce
    text_state (suc k) = squeezed p (suc k) (rekey_enc p x.key x.nonce ++ x.nonce)

    none : (y : List ℕ) → length y ≡ 0 → y ≡ []
    none [] h = refl
    none (a ∷ y) h = absurd (omega arith)

    r_texts : (k : ℕ) (t ss o g : List ℕ) → blocks p (length x.text) ≡ k → length o ≡ length x.text
        → run (calls (call_of (texts p x)) 0 k) (machine (rekeyed p 3 x.key x.nonce ++ t) ss o g)
        ≡ machine (text_state k ++ t) ss (squeeze p (rekey_enc p x.key x.nonce ++ x.nonce) (cut p.b k x.text)) g
    unfolding text_state rekey_enc nonce_put run calls squeeze cut
    r_texts zero t ss o g e h =
        let b = blocks_are p l (length x.text) in
        let z = zero-mul p.b in
        let f = ap (λ (j : ℕ). j * p.b) e in
        ap (λ (u : List ℕ). machine (rekeyed p 3 x.key x.nonce ++ t) ss u g) (none o (omega arith))
    r_texts (suc k) t ss o g e h =
        let s = rekeyed p 3 x.key x.nonce in
        let long : length s ≡ p.n = rekeyed_long p l 3 x.key x.nonce hk in
        let b = blocks_are p l (length x.text) in
        let f = ap (λ (j : ℕ). j * p.b) e in
        squeeze-run (call_of (texts p x)) t ss g (nonce_put p l x hk hn) x.text (λ i s o h. w_texts p l x hk hn i s t ss o g h) k s o long
        (nonce_long_lem p l x hk hn s long) h (omega arith) (omega arith)

    -- the state with which encryption ends
    unfoldable pub enc_state : List ℕ
    enc_state = text_state (blocks p (length x.text))

    pub enc_state_long : length enc_state ≡ p.n
    unfolding enc_state text_state
    enc_state_long = go (blocks p (length x.text))
      where
        go : (k : ℕ) → length (text_state k) ≡ p.n
        go zero = rekeyed_long p l 3 x.key x.nonce hk
        go (suc k) = squeezed_long (suc k) (rekey_enc p x.key x.nonce ++ x.nonce) (key_long_lem p l x.key x.nonce hk hn)

    -- at its end: the paper's ciphertext in the output
    pub enc_end : (s t ss o g : List ℕ) → length s ≡ p.n → length o ≡ length x.text
        → run (row (enc_parts p x)) (machine (s ++ t) ss o g) ≡ machine (enc_state ++ t) ss (isap_enc p x.key x.nonce x.text) g
    unfolding part_row texts part enc_state isap_enc
    enc_end s t ss o g h k =
        let first = key_start p x ∷ key_bits p x ∷ key_end p x ∷ [] in
        ap (λ (cs : List (Call Machine)). run cs (machine (s ++ t) ss o g)) (row-append first (texts p x ∷ []))
        ∙ run-append (row first) (row (texts p x ∷ [])) (machine (s ++ t) ss o g)
        ∙ ap (run (row (texts p x ∷ []))) (rekeying_end s t ss o g h)
        ∙ and_then (texts p x) [] _ (r_texts (blocks p (length x.text)) t ss o g refl k) (done _)
