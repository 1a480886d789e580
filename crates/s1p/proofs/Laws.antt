-- Lengths are kept and bytes stay bytes, in every step of S1P. A law on lengths asks for lengths alone.
-- Assumes nothing.
use Rattle.std.specs.Prelude.{◌≡◌, Bool, true, false, ltb, length, get_or, take, drop, set, replicate}
use Rattle.std.proofs.Math.Path.{refl, ap, ap₂}
use Rattle.std.proofs.Common.{sym, ◌∙◌, mod-lt, arith, lit<, ltb-true, length-append, length-take, length-drop, drop_of_length-le, length-take-le, take_at, drop_at}
use mathlib.Core.List.{List, [], ◌∷◌, ◌++◌, append-nil}
use Prim.Native.Nat.{ℕ, zero, suc, ◌+◌, ◌-◌, ◌%◌, ◌≤◌, ◌<◌}
use Rattle.std.specs.Int.Bits.{bit_xor}
use Rattle.std.proofs.lemmas.List.{length-replicate}
use Rattle.bits.specs.Pick.{pick}
use Rattle.bits.specs.Bytes.{Bytes, no_bytes, bytes-zeros, bytes_take, bytes_drop, bytes-append, cons_bytes}
use Rattle.bits.specs.Run.{turns, front, Keeps}
use Rattle.bits.specs.Put.{put, length-put, bytes-put}
use Rattle.bits.specs.Xors.{xors, length-xors, bytes-xors}
use Rattle.bits.specs.Strings.{xor_into, xor_at}
use Rattle.bits.specs.StringLaws.{length-xor_into, length-xor_at, bytes-xor_into, bytes-xor_at}
use Rattle.scheme.specs.Machine.{Buffer}
use Rattle.s1p.specs.Cipher.{Cipher, LawfulCipher, encrypt, decrypt, perm}
use Rattle.s1p.specs.Paper.{iv, start, text_mark, short_mark, padded, last_data, cipher_block, last_text, required, closing_tweak}
use Rattle.s1p.proofs.Layouts.{length-padded, length-short_mark}

-- a block has at most 32 bytes
pub small_block : (t : List ℕ) → length (take 32 t) ≤ 32
small_block t = omega (arith, length-take 32 t)

-- a string in place of one that is as long
pub put_all : (xs s : List ℕ) → length xs ≡ length s → put xs s ≡ xs
unfolding put
put_all xs s h = ap (λ (u : List ℕ). xs ++ u) (drop_of_length-le s {i = length xs} (omega arith)) ∙ append-nil xs

-- ---- turns

module _ {n : ℕ} {r : ℕ → List ℕ → List ℕ} (q : Keeps n r) where
  pub length-turns : (k : ℕ) (s : List ℕ) → length s ≡ n → length (turns r k s) ≡ n
  unfolding turns
  length-turns zero s h = h
  length-turns (suc k) s h = q.long k (turns r k s) (length-turns k s h)

  pub bytes-turns : (k : ℕ) (s : List ℕ) → length s ≡ n → Bytes s → Bytes (turns r k s)
  unfolding turns
  bytes-turns zero s h b = b
  bytes-turns (suc k) s h b = q.bytes k (turns r k s) (length-turns k s h) (bytes-turns k s h b)

  -- turns of the first n bytes, and of a state that has no others
  pub turns-front : (k : ℕ) (s t : List ℕ) → length s ≡ n → turns (λ (i : ℕ). front n (r i)) k (s ++ t) ≡ turns r k s ++ t
  unfolding turns front
  turns-front zero s t h = refl
  turns-front (suc k) s t h =
      let u : List ℕ = turns r k s in
      let e = length-turns k s h in
      ap (front n (r k)) (turns-front k s t h) ∙ ap₂ (λ (a b : List ℕ). r k a ++ b) (take_at u t n e) (drop_at u t n e)

  pub turns_all : (k : ℕ) (s : List ℕ) → length s ≡ n → turns (λ (i : ℕ). front n (r i)) k s ≡ turns r k s
  turns_all k s h =
      ap (turns (λ (i : ℕ). front n (r i)) k) (sym (append-nil s)) ∙ turns-front k s [] h ∙ append-nil (turns r k s)

-- ---- what is done to a state keeps its length

pub length-last_data : (a s : List ℕ) → length a ≤ 32 → 32 ≤ length s → length (last_data a s) ≡ length s
unfolding last_data
length-last_data a s h room = go (ltb (length a) 32) refl
  where
    go : (b : Bool) → ltb (length a) 32 ≡ b → length (pick b (xor_into (padded a) (short_mark s)) (xor_into a s)) ≡ length s
    go true e =
        length-xor_into (padded a) (short_mark s) (omega (arith, length-padded a (ltb-true (length a) 32 e), length-short_mark s)) ∙ length-short_mark s
    go false e = length-xor_into a s (omega arith)

pub length-last_text : (c s : List ℕ) → length c ≤ length s → length (last_text c s) ≡ length s
unfolding last_text
length-last_text c s h = go (ltb (length c) 32)
  where
    go : (b : Bool) → length (pick b (put c (xor_at (length c) 1 (short_mark s))) (put c s)) ≡ length s
    go true =
        let e = length-xor_at (length c) 1 (short_mark s) ∙ length-short_mark s in
        length-put c (xor_at (length c) 1 (short_mark s)) (omega arith) ∙ e
    go false = length-put c s h

-- a block that comes out is as long as the one that goes in
pub length_out : (m s : List ℕ) → length m ≤ length s → length (xors s m) ≡ length m
length_out m s h = length-xors s m ∙ omega arith

pub length-cipher_block : (b : Bool) (m s : List ℕ) → length m ≤ length s → length (cipher_block b m s) ≡ length m
unfolding cipher_block
length-cipher_block true m s h = length_out m s h
length-cipher_block false m s h = refl

pub length_iv : (nonce : List ℕ) → length nonce ≡ 16 → length (iv nonce) ≡ 48
unfolding iv
length_iv nonce h = simp (length-append, length-replicate) (omega arith)

-- U and V ‖ 1
pub length-required : (s : List ℕ) → 16 ≤ length s → length (required s) ≡ 16
unfolding required
length-required s h = length-take-le 16 s h

pub length-closing_tweak : (s : List ℕ) → 32 ≤ length s → length (closing_tweak s) ≡ 16
unfolding closing_tweak
length-closing_tweak s h =
    let fifteen : length (take 15 (drop 16 s)) ≡ 15 = length-take-le 15 (drop 16 s) (omega (arith, length-drop 16 s)) in
    rw (length-append, fifteen) refl

-- the text's mark stands behind the first 32 bytes
xors-set : (i v : ℕ) (s m : List ℕ) → length m ≤ i → xors (set s i v) m ≡ xors s m
unfolding xors
xors-set i v [] m h = refl
xors-set zero v (x ∷ s) [] h = refl
xors-set zero v (x ∷ s) (y ∷ m) h = absurd (omega arith)
xors-set (suc i) v (x ∷ s) [] h = refl
xors-set (suc i) v (x ∷ s) (y ∷ m) h = ap (λ (l : List ℕ). bit_xor x y ∷ l) (xors-set i v s m (omega arith))

pub xors-mark : (s m : List ℕ) → length m ≤ 32 → xors (text_mark s) m ≡ xors s m
unfolding text_mark xor_at
xors-mark s m h = xors-set 32 _ s m h

-- ---- bytes stay bytes

pub bytes-text_mark : (s : List ℕ) → Bytes s → Bytes (text_mark s)
unfolding text_mark
bytes-text_mark s h = bytes-xor_at 32 1 s (lit< tt) h

bytes-short_mark : (s : List ℕ) → Bytes s → Bytes (short_mark s)
unfolding short_mark
bytes-short_mark s h = bytes-xor_at 32 2 s (lit< tt) h

bytes-padded : (a : List ℕ) → Bytes a → Bytes (padded a)
unfolding padded
bytes-padded a h = bytes-append h (cons_bytes (lit< tt) (bytes-zeros (31 - length a)))

pub bytes-last_data : (a s : List ℕ) → Bytes a → Bytes s → Bytes (last_data a s)
unfolding last_data
bytes-last_data a s k h = go (ltb (length a) 32)
  where
    go : (b : Bool) → Bytes (pick b (xor_into (padded a) (short_mark s)) (xor_into a s))
    go true = bytes-xor_into (padded a) (short_mark s) (bytes-padded a k) (bytes-short_mark s h)
    go false = bytes-xor_into a s k h

pub bytes-last_text : (c s : List ℕ) → Bytes c → Bytes s → Bytes (last_text c s)
unfolding last_text
bytes-last_text c s k h = go (ltb (length c) 32)
  where
    go : (b : Bool) → Bytes (pick b (put c (xor_at (length c) 1 (short_mark s))) (put c s))
    go true = bytes-put c (xor_at (length c) 1 (short_mark s)) k (bytes-xor_at (length c) 1 (short_mark s) (lit< tt) (bytes-short_mark s h))
    go false = bytes-put c s k h

pub bytes-cipher_block : (b : Bool) (m s : List ℕ) → Bytes m → Bytes s → Bytes (cipher_block b m s)
unfolding cipher_block
bytes-cipher_block true m s k h = bytes-xors s m h k
bytes-cipher_block false m s k h = k

pub bytes_iv : (nonce : List ℕ) → Bytes nonce → Bytes (iv nonce)
unfolding iv
bytes_iv nonce h = bytes-append (bytes-zeros 16) (bytes-append h (bytes-zeros 16))

pub required_is : (s : List ℕ) → Buffer 64 s → Buffer 16 (required s)
unfolding required
required_is s h = record { long = length-take-le 16 s (omega (arith, h.long)); bytes = bytes_take 16 h.bytes }

pub closing_tweak_is : (s : List ℕ) → Buffer 64 s → Buffer 16 (closing_tweak s)
unfolding closing_tweak
closing_tweak_is s h =
    let top : get_or s 31 0 % 128 < 128 = mod-lt (get_or s 31 0) (lit< tt) in
    record {
      long = length-closing_tweak s (omega (arith, h.long));
      bytes = bytes-append (bytes_take 15 (bytes_drop 16 h.bytes)) (cons_bytes (omega arith) no_bytes);
    }

-- ---- the calls

module _ (p : Cipher) (l : LawfulCipher p) where
  pub length-encrypt : (k t s : List ℕ) → length s ≡ 16 → length (encrypt p k t s) ≡ 16
  unfolding encrypt
  length-encrypt k t s h = length-turns (l.forward k t) 12 s h

  pub length-decrypt : (k t s : List ℕ) → length s ≡ 16 → length (decrypt p k t s) ≡ 16
  unfolding decrypt
  length-decrypt k t s h = length-turns (l.backward k t) 12 s h

  pub length-perm : (s : List ℕ) → length s ≡ 64 → length (perm p s) ≡ 64
  unfolding perm
  length-perm s h = length-turns l.round 12 s h

  pub bytes_perm : (s : List ℕ) → length s ≡ 64 → Bytes s → Bytes (perm p s)
  unfolding perm
  bytes_perm s h b = bytes-turns l.round 12 s h b

  module _ (key nonce : List ℕ) (h : length nonce ≡ 16) where
    -- what Shadow starts from
    pub length-first : length (iv nonce ++ encrypt p key (replicate 16 0) nonce) ≡ 64
    length-first =
        length-append (iv nonce) (encrypt p key (replicate 16 0) nonce)
        ∙ ap₂ (λ (i j : ℕ). i + j) (length_iv nonce h) (length-encrypt key (replicate 16 0) nonce h)

    pub length-start : length (start p key nonce) ≡ 64
    unfolding start
    length-start = length-perm (iv nonce ++ encrypt p key (replicate 16 0) nonce) length-first

    pub bytes-start : Bytes nonce → Bytes (start p key nonce)
    unfolding start encrypt
    bytes-start b =
        bytes_perm (iv nonce ++ encrypt p key (replicate 16 0) nonce) length-first
        (bytes-append (bytes_iv nonce b) (bytes-turns (l.forward key (replicate 16 0)) 12 nonce h b))
