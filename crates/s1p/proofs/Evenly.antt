-- All blocks by one rule: the test whether a block is short may be made of every block, as only the last can be. And what this is good for:
-- lengths, bytes, and that opening undoes sealing and sealing undoes opening.
-- Assumes nothing.
use Rattle.std.specs.Prelude.{◌≡◌, Bool, not}
use Rattle.std.proofs.Math.Path.{refl, sym, ap, ap₂, subst}
use Rattle.std.proofs.Common.{◌∙◌, le-ltb, length-take-le, take_at}
use Rattle.std.proofs.Math.Bool.{true, false}
use mathlib.Core.List.{List, [], ◌∷◌, ◌++◌, append-nil}
use Prim.Native.Nat.{ℕ, zero, suc, ◌+◌, ◌*◌, ◌≤◌, ◌<◌, min}
use Rattle.std.proofs.Math.Decide.{dec_lt}
use native.Mathlib.Omega.{arith}
use Rattle.std.proofs.Math.ListN.{length, take, drop, length-append, length-take, length-drop, drop_of_length-le, take-append-drop}
use Rattle.std.proofs.Math.Seq.{drop_at, take_all}
use Rattle.bits.specs.Bytes.{Bytes, bytes_take, bytes_drop}
use Rattle.bits.specs.Put.{put}
use Rattle.bits.specs.Xors.{xors, xors_none, xors_twice}
use Rattle.bits.specs.Strings.{xor_into, cut}
use Rattle.scheme.specs.Machine.{Buffer}
use Rattle.s1p.specs.Cipher.{Cipher, LawfulCipher, perm}
use Rattle.s1p.specs.Paper.{blocks, parsed, start, last_data, absorb, cipher_block, last_text, ends, outs, marked, ready, text_out, last_state}
use Rattle.s1p.specs.Counts.{blocks_are}
use Rattle.s1p.proofs.Layouts.{length-text_mark}
use Rattle.s1p.proofs.Laws.{small_block, length-last_data, length-last_text, length_out, length-cipher_block, length-perm, length-start, bytes-text_mark, bytes-last_data, bytes-last_text, bytes-cipher_block, bytes_perm, bytes-start}
use Rattle.s1p.specs.Evenly.{absorb_all, taken, ends_all, outs_all, behind}

pub full_data : (a s : List ℕ) → length a ≡ 32 → last_data a s ≡ xor_into a s
unfolding last_data
full_data a s e = rw (le-ltb (length a) 32 (omega arith))

pub full_text : (c s : List ℕ) → length c ≡ 32 → last_text c s ≡ put c s
unfolding last_text
full_text c s e = rw (le-ltb (length c) 32 (omega arith))

-- k blocks of t: as many as it takes
more : (k : ℕ) (t : List ℕ) → suc (suc k) * 32 < length t + 32 → length (take 32 t) ≡ 32
more k t h = length-take-le 32 t (omega arith)

fits : (t s : List ℕ) → length s ≡ 64 → length (take 32 t) ≤ length s
fits t s h = omega (arith, small_block t)

module _ (p : Cipher) (l : LawfulCipher p) where
  -- ---- lengths and bytes

  length-given : (a s : List ℕ) → length a ≤ 32 → length s ≡ 64 → length (perm p (last_data a s)) ≡ 64
  length-given a s k h = length-perm p l (last_data a s) (length-last_data a s k (omega arith) ∙ h)

  length-put_in : (b : Bool) (m s : List ℕ) → length m ≤ 32 → length s ≡ 64 → length (last_text (cipher_block b m s) s) ≡ 64
  length-put_in b m s k h =
      length-last_text (cipher_block b m s) s (omega (arith, length-cipher_block b m s (omega arith))) ∙ h

  pub length_taken : (b : Bool) (m s : List ℕ) → length m ≤ 32 → length s ≡ 64 → length (taken p b m s) ≡ 64
  unfolding taken
  length_taken b m s k h = length-perm p l (last_text (cipher_block b m s) s) (length-put_in b m s k h)

  bytes-taken : (b : Bool) (m s : List ℕ) → length m ≤ 32 → length s ≡ 64 → Bytes m → Bytes s → Bytes (taken p b m s)
  unfolding taken
  bytes-taken b m s k h x y =
      bytes_perm p l (last_text (cipher_block b m s) s) (length-put_in b m s k h) (bytes-last_text (cipher_block b m s) s (bytes-cipher_block b m s x y) y)

  length-absorb_all : (k : ℕ) (t s : List ℕ) → length s ≡ 64 → length (absorb_all p (cut 32 k t) s) ≡ 64
  unfolding absorb_all cut
  length-absorb_all zero t s h = h
  length-absorb_all (suc k) t s h = length-absorb_all k (drop 32 t) (perm p (last_data (take 32 t) s)) (length-given (take 32 t) s (small_block t) h)

  bytes-absorb_all : (k : ℕ) (t s : List ℕ) → length s ≡ 64 → Bytes t → Bytes s → Bytes (absorb_all p (cut 32 k t) s)
  unfolding absorb_all cut
  bytes-absorb_all zero t s h x y = y
  bytes-absorb_all (suc k) t s h x y =
      let e = length-last_data (take 32 t) s (small_block t) (omega arith) ∙ h in
      bytes-absorb_all k (drop 32 t) (perm p (last_data (take 32 t) s)) (length-given (take 32 t) s (small_block t) h) (bytes_drop 32 x)
      (bytes_perm p l (last_data (take 32 t) s) e (bytes-last_data (take 32 t) s (bytes_take 32 x) y))

  length-ends_all : (b : Bool) (k : ℕ) (t s : List ℕ) → length s ≡ 64 → length (ends_all p b (cut 32 k t) s) ≡ 64
  unfolding ends_all cut
  length-ends_all b zero t s h = h
  length-ends_all b (suc k) t s h = length-ends_all b k (drop 32 t) (taken p b (take 32 t) s) (length_taken b (take 32 t) s (small_block t) h)

  bytes-ends_all : (b : Bool) (k : ℕ) (t s : List ℕ) → length s ≡ 64 → Bytes t → Bytes s → Bytes (ends_all p b (cut 32 k t) s)
  unfolding ends_all cut
  bytes-ends_all b zero t s h x y = y
  bytes-ends_all b (suc k) t s h x y =
      bytes-ends_all b k (drop 32 t) (taken p b (take 32 t) s) (length_taken b (take 32 t) s (small_block t) h) (bytes_drop 32 x)
      (bytes-taken b (take 32 t) s (small_block t) h (bytes_take 32 x) y)

  length-outs_all : (b : Bool) (k : ℕ) (t s : List ℕ) → length s ≡ 64 → length t ≤ k * 32 → length (outs_all p b (cut 32 k t) s) ≡ length t
  unfolding outs_all cut
  length-outs_all b zero t s h g = omega arith
  length-outs_all b (suc k) t s h g =
      let s₁ : List ℕ = taken p b (take 32 t) s in
      length-append (xors s (take 32 t)) (outs_all p b (cut 32 k (drop 32 t)) s₁)
      ∙ omega (
        arith,
        length_out (take 32 t) s (fits t s h),
        length-take 32 t,
        length-drop 32 t,
        length-outs_all b k (drop 32 t) s₁ (length_taken b (take 32 t) s (small_block t) h) (omega (arith, length-drop 32 t)),
      )

  length_marked : (ms : List (List ℕ)) (s : List ℕ) → length s ≡ 64 → length (marked ms s) ≡ 64
  unfolding marked
  length_marked [] s h = h
  length_marked (m ∷ ms) s h = length-text_mark s ∙ h

  bytes-marked : (ms : List (List ℕ)) (s : List ℕ) → Bytes s → Bytes (marked ms s)
  unfolding marked
  bytes-marked [] s h = h
  bytes-marked (m ∷ ms) s h = bytes-text_mark s h

  -- ---- the paper's loops by one rule

  absorb_even : (k : ℕ) (t s : List ℕ) → k * 32 < length t + 32 → absorb p (cut 32 k t) s ≡ absorb_all p (cut 32 k t) s
  unfolding absorb absorb_all cut
  absorb_even zero t s h = refl
  absorb_even (suc zero) t s h = refl
  absorb_even (suc (suc k)) t s h =
      ap (λ (u : List ℕ). absorb p (cut 32 (suc k) (drop 32 t)) (perm p u)) (sym (full_data (take 32 t) s (more k t h)))
      ∙ absorb_even (suc k) (drop 32 t) (perm p (last_data (take 32 t) s)) (omega (arith, length-drop 32 t))

  full_taken : (b : Bool) (m s : List ℕ) → length s ≡ 64 → length m ≡ 32 → perm p (put (cipher_block b m s) s) ≡ taken p b m s
  unfolding taken
  full_taken b m s h e = ap (perm p) (sym (full_text (cipher_block b m s) s (length-cipher_block b m s (omega arith) ∙ e)))

  ends_even : (b : Bool) (k : ℕ) (t s : List ℕ) → length s ≡ 64 → k * 32 < length t + 32 → ends p b (cut 32 k t) s ≡ ends_all p b (cut 32 k t) s
  unfolding ends ends_all cut taken
  ends_even b zero t s h g = refl
  ends_even b (suc zero) t s h g = refl
  ends_even b (suc (suc k)) t s h g =
      ap (ends p b (cut 32 (suc k) (drop 32 t))) (full_taken b (take 32 t) s h (more k t g))
      ∙ ends_even b (suc k) (drop 32 t) (taken p b (take 32 t) s) (length_taken b (take 32 t) s (small_block t) h) (omega (arith, length-drop 32 t))

  outs_even : (b : Bool) (k : ℕ) (t s : List ℕ) → length s ≡ 64 → k * 32 < length t + 32 → outs p b (cut 32 k t) s ≡ outs_all p b (cut 32 k t) s
  unfolding outs outs_all cut
  outs_even b zero t s h g = refl
  outs_even b (suc zero) t s h g = sym (append-nil (xors s (take 32 t)))
  outs_even b (suc (suc k)) t s h g =
      ap (λ (u : List ℕ). xors s (take 32 t) ++ outs p b (cut 32 (suc k) (drop 32 t)) u) (full_taken b (take 32 t) s h (more k t g))
      ∙ ap (λ (u : List ℕ). xors s (take 32 t) ++ u)
      (outs_even b (suc k) (drop 32 t) (taken p b (take 32 t) s) (length_taken b (take 32 t) s (small_block t) h) (omega (arith, length-drop 32 t)))

  -- whether there is a block at all is a matter of the length
  marked_alike : (k : ℕ) (t u s : List ℕ) → marked (cut 32 k t) s ≡ marked (cut 32 k u) s
  unfolding marked cut
  marked_alike zero t u s = refl
  marked_alike (suc k) t u s = refl

  pub outs_all_none : (b : Bool) (k : ℕ) (s : List ℕ) → outs_all p b (cut 32 k []) s ≡ []
  unfolding outs_all cut
  outs_all_none b zero s = refl
  outs_all_none b (suc k) s = ap (λ (u : List ℕ). u ++ outs_all p b (cut 32 k []) (taken p b [] s)) (xors_none s) ∙ outs_all_none b k (taken p b [] s)

  -- one block more than there are adds nothing
  pub outs_all_past : (b : Bool) (k : ℕ) (t s : List ℕ) → length t ≤ k * 32 → outs_all p b (cut 32 (suc k) t) s ≡ outs_all p b (cut 32 k t) s
  unfolding outs_all cut
  outs_all_past b zero t s h =
      let e : t ≡ [] = sym (take_all 0 t (omega arith)) in
      ap (λ (u : List ℕ). outs_all p b (cut 32 1 u) s) e ∙ outs_all_none b 1 s
  outs_all_past b (suc k) t s h =
      ap (λ (u : List ℕ). xors s (take 32 t) ++ u) (outs_all_past b k (drop 32 t) (taken p b (take 32 t) s) (omega (arith, length-drop 32 t)))

  -- ---- each undoes the other: from the same state, what comes out gives back what went in and leads to the same state

  same_taken : (b : Bool) (m s : List ℕ) → length m ≤ length s → taken p (not b) (xors s m) s ≡ taken p b m s
  unfolding taken cipher_block
  same_taken true m s h = refl
  same_taken false m s h = ap (λ (c : List ℕ). perm p (last_text c s)) (xors_twice s m h)

  -- the first block of what comes out, and the others
  module _ (b : Bool) (k : ℕ) (t s : List ℕ) (h : length s ≡ 64) (g : length t ≤ suc k * 32) where
    rest : List ℕ
    rest = outs_all p b (cut 32 k (drop 32 t)) (taken p b (take 32 t) s)

    whole : List ℕ
    whole = xors s (take 32 t) ++ rest

    cut-whole : (take 32 whole ≡ xors s (take 32 t)) × (drop 32 whole ≡ rest)
    unfolding whole rest
    cut-whole =
        let c = xors s (take 32 t) in
        let s₁ : List ℕ = taken p b (take 32 t) s in
        let e : length c ≡ min 32 (length t) = length_out (take 32 t) s (fits t s h) ∙ length-take 32 t in
        elim (dec_lt (length t) 32) [
          | yes y ↦
              let none : drop 32 t ≡ [] = drop_of_length-le t {i = 32} (omega arith) in
              let z : rest ≡ [] = ap (λ (u : List ℕ). outs_all p b (cut 32 k u) s₁) none ∙ outs_all_none b k s₁ in
              let w : c ++ rest ≡ c = ap (λ (u : List ℕ). c ++ u) z ∙ append-nil c in
              (ap (take 32) w ∙ take_all 32 c (omega arith), ap (drop 32) w ∙ drop_of_length-le c {i = 32} (omega arith) ∙ sym z)
          | no f ↦ (take_at c rest 32 (omega arith), drop_at c rest 32 (omega arith))
        ]

  outs_back : (b : Bool) (k : ℕ) (t s : List ℕ) → length s ≡ 64 → length t ≤ k * 32
      → outs_all p (not b) (cut 32 k (outs_all p b (cut 32 k t) s)) s ≡ t
  unfolding outs_all cut whole rest
  outs_back b zero t s h g = take_all 0 t (omega arith)
  outs_back b (suc k) t s h g =
      let e = cut-whole b k t s h g in
      let m = take 32 t in
      let r = rest b k t s h g in
      ap₂ (λ (c d : List ℕ). xors s c ++ outs_all p (not b) (cut 32 k d) (taken p (not b) c s)) e.0 e.1
      ∙ ap₂ (λ (a v : List ℕ). a ++ outs_all p (not b) (cut 32 k r) v) (xors_twice s m (fits t s h)) (same_taken b m s (fits t s h))
      ∙ ap (λ (v : List ℕ). m ++ v)
      (outs_back b k (drop 32 t) (taken p b m s) (length_taken b m s (small_block t) h) (omega (arith, length-drop 32 t)))
      ∙ take-append-drop 32 t

  ends_back : (b : Bool) (k : ℕ) (t s : List ℕ) → length s ≡ 64 → length t ≤ k * 32
      → ends_all p (not b) (cut 32 k (outs_all p b (cut 32 k t) s)) s ≡ ends_all p b (cut 32 k t) s
  unfolding outs_all ends_all cut whole rest
  ends_back b zero t s h g = refl
  ends_back b (suc k) t s h g =
      let e = cut-whole b k t s h g in
      let m = take 32 t in
      ap₂ (λ (c d : List ℕ). ends_all p (not b) (cut 32 k d) (taken p (not b) c s)) e.0 e.1
      ∙ ap (ends_all p (not b) (cut 32 k (rest b k t s h g))) (same_taken b m s (fits t s h))
      ∙ ends_back b k (drop 32 t) (taken p b m s) (length_taken b m s (small_block t) h) (omega (arith, length-drop 32 t))

  -- ---- the whole

  module _ (key nonce a : List ℕ) (hn : length nonce ≡ 16) where
    pub length-behind : length (behind p key nonce a) ≡ 64
    unfolding behind parsed
    length-behind = length-absorb_all (blocks (length a)) a (start p key nonce) (length-start p l key nonce hn)

    -- the state before the text's blocks
    before : List ℕ → List ℕ
    before m = marked (parsed m) (behind p key nonce a)

    length_before : (m : List ℕ) → length (before m) ≡ 64
    unfolding before
    length_before m = length_marked (parsed m) (behind p key nonce a) length-behind

    pub behind_is : absorb p (parsed a) (start p key nonce) ≡ behind p key nonce a
    unfolding behind parsed
    behind_is = absorb_even (blocks (length a)) a (start p key nonce) (blocks_are (length a)).1

    ready_is : (m : List ℕ) → ready p key nonce a m ≡ before m
    unfolding ready before
    ready_is m = ap (marked (parsed m)) behind_is

    module _ (b : Bool) (m : List ℕ) where
      pub text_out_is : text_out p b key nonce a m ≡ outs_all p b (parsed m) (marked (parsed m) (behind p key nonce a))
      unfolding text_out parsed before
      text_out_is =
          ap (outs p b (parsed m)) (ready_is m) ∙ outs_even b (blocks (length m)) m (before m) (length_before m) (blocks_are (length m)).1

      pub last_state_is : last_state p b key nonce a m ≡ ends_all p b (parsed m) (marked (parsed m) (behind p key nonce a))
      unfolding last_state parsed before
      last_state_is =
          ap (ends p b (parsed m)) (ready_is m) ∙ ends_even b (blocks (length m)) m (before m) (length_before m) (blocks_are (length m)).1

      pub length-text_out : length (text_out p b key nonce a m) ≡ length m
      unfolding parsed before
      length-text_out = ap length text_out_is ∙ length-outs_all b (blocks (length m)) m (before m) (length_before m) (blocks_are (length m)).0

      pub length-last_state : length (last_state p b key nonce a m) ≡ 64
      unfolding parsed before
      length-last_state = ap length last_state_is ∙ length-ends_all b (blocks (length m)) m (before m) (length_before m)

      -- what comes out has as many blocks, and the state before them is the same
      blocks_alike : blocks (length (text_out p b key nonce a m)) ≡ blocks (length m)
      blocks_alike = ap blocks length-text_out

      before_alike : before (text_out p b key nonce a m) ≡ before m
      unfolding before parsed
      before_alike =
          let c = text_out p b key nonce a m in
          let s = behind p key nonce a in
          ap (λ (k : ℕ). marked (cut 32 k c) s) blocks_alike ∙ marked_alike (blocks (length m)) c m s

    -- the other direction gives the text back, and comes to the same state
    module _ (b : Bool) (m : List ℕ) where
      pub text_back : text_out p (not b) key nonce a (text_out p b key nonce a m) ≡ m
      unfolding parsed before
      text_back =
          let c = text_out p b key nonce a m in
          let n = blocks (length m) in
          text_out_is (not b) c
          ∙ ap₂ (λ (k : ℕ) (u : List ℕ). outs_all p (not b) (cut 32 k c) u) (blocks_alike b m) (before_alike b m)
          ∙ ap (λ (d : List ℕ). outs_all p (not b) (cut 32 n d) (before m)) (text_out_is b m)
          ∙ outs_back b n m (before m) (length_before m) (blocks_are (length m)).0

      pub state_back : last_state p (not b) key nonce a (text_out p b key nonce a m) ≡ last_state p b key nonce a m
      unfolding parsed before
      state_back =
          let c = text_out p b key nonce a m in
          let n = blocks (length m) in
          last_state_is (not b) c
          ∙ ap₂ (λ (k : ℕ) (u : List ℕ). ends_all p (not b) (cut 32 k c) u) (blocks_alike b m) (before_alike b m)
          ∙ ap (λ (d : List ℕ). ends_all p (not b) (cut 32 n d) (before m)) (text_out_is b m)
          ∙ ends_back b n m (before m) (length_before m) (blocks_are (length m)).0
          ∙ sym (last_state_is b m)

    -- of bytes, bytes
    module _ (bn : Bytes nonce) (ba : Bytes a) (b : Bool) (m : List ℕ) (bm : Bytes m) where
      bytes-before : Bytes (before m)
      unfolding before behind parsed
      bytes-before =
          bytes-marked (parsed m) (behind p key nonce a)
          (bytes-absorb_all (blocks (length a)) a (start p key nonce) (length-start p l key nonce hn) ba (bytes-start p l key nonce hn bn))

      pub last_state_kept : Buffer 64 (last_state p b key nonce a m)
      unfolding parsed before
      last_state_kept =
          record {
            long = length-last_state b m;
            bytes = subst Bytes (sym (last_state_is b m)) (bytes-ends_all b (blocks (length m)) m (before m) (length_before m) bm bytes-before);
          }
