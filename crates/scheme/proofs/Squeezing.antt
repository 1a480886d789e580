-- Squeezing is xoring with a keystream that does not depend on the text, and a longer one does the same to it. The three laws then are laws of
-- xors.
-- Assumes nothing.
use Rattle.std.proofs.Common.{◌≡◌, refl, sym, ap, ap₂, ◌∙◌, List, [], ◌∷◌, ◌++◌, ℕ, zero, suc, ◌+◌, ◌*◌, ◌≤◌, length, take, drop, zero-mul, arith, length-append, length-take, length-drop, length-take-le}
use Rattle.std.proofs.Math.Nat.{suc-mul}
use Rattle.bits.specs.Xors.{xors, length-xors, xors_none, xors-append, xors-take, take-xors, xors_common, xors_twice}
use Rattle.bits.specs.Strings.{cut}
use Rattle.scheme.specs.Squeezing.{squeezed, blocks_of, encrypted, keystream, blocks_hold, Squeezes}

module _ {n b : ℕ} {f : List ℕ → List ℕ} (q : Squeezes n b f) where
  -- ---- the keystream

  length-block : (s : List ℕ) → length s ≡ n → length (take b (f s)) ≡ b
  length-block s h = length-take-le b (f s) (omega (arith, q.keeps s h, q.fits))

  length-keystream : (t : ℕ) (s : List ℕ) → length s ≡ n → length (keystream f b t s) ≡ t * b
  unfolding keystream
  length-keystream zero s h = sym (zero-mul b)
  length-keystream (suc t) s h =
      length-append (take b (f s)) (keystream f b t (f s)) ∙ omega (arith, length-block s h, length-keystream t (f s) (q.keeps s h), suc-mul t b)

  -- its first block, and the rest, on a text
  xors-keystream : (t : ℕ) (s m : List ℕ) → length s ≡ n
      → xors (keystream f b (suc t) s) m ≡ xors (take b (f s)) m ++ xors (keystream f b t (f s)) (drop b m)
  unfolding keystream
  xors-keystream t s m h =
      xors-append (take b (f s)) (keystream f b t (f s)) m
      ∙ ap (λ (k : ℕ). xors (take b (f s)) m ++ xors (keystream f b t (f s)) (drop k m)) (length-block s h)

  -- squeezing is xoring with the keystream
  squeezed_is : (t : ℕ) (s m : List ℕ) → length s ≡ n → squeezed f s (cut b t m) ≡ xors (keystream f b t s) m
  unfolding squeezed cut
  squeezed_is zero s m h = unfold keystream xors in refl
  squeezed_is (suc t) s m h =
      ap₂ (λ (u v : List ℕ). u ++ v) (sym (take-xors b (f s) m)) (squeezed_is t (f s) (drop b m) (q.keeps s h)) ∙ sym (xors-keystream t s m h)

  no_text : (k m : List ℕ) → length m ≤ 0 * b → xors k m ≡ []
  no_text k [] l = xors_none k
  no_text k (a ∷ m) l = absurd (omega (arith, zero-mul b))

  -- two keystreams, each long enough for the text, do the same to it
  either_keystream : (t u : ℕ) (s m : List ℕ) → length s ≡ n → length m ≤ t * b → length m ≤ u * b → xors (keystream f b t s) m ≡ xors (keystream f b u s) m
  either_keystream zero u s m h v w = no_text (keystream f b 0 s) m v ∙ sym (no_text (keystream f b u s) m v)
  either_keystream (suc t) zero s m h v w = no_text (keystream f b (suc t) s) m w ∙ sym (no_text (keystream f b 0 s) m w)
  either_keystream (suc t) (suc u) s m h v w =
      let long = length-drop b m in
      let vs = suc-mul t b in
      let ws = suc-mul u b in
      xors-keystream t s m h
      ∙ ap (λ (r : List ℕ). xors (take b (f s)) m ++ r) (either_keystream t u (f s) (drop b m) (q.keeps s h) (omega arith) (omega arith))
      ∙ sym (xors-keystream u s m h)

  -- ---- a text encrypted from a state

  module _ (s : List ℕ) (h : length s ≡ n) where
    -- with any keystream that is long enough
    by_keystream : (t : ℕ) (m : List ℕ) → length m ≤ t * b → encrypted f b s m ≡ xors (keystream f b t s) m
    unfolding encrypted
    by_keystream t m l =
        squeezed_is (blocks_of b (length m)) s m h ∙ either_keystream (blocks_of b (length m)) t s m h (blocks_hold b q.some (length m)).0 l

    pub encrypted_long : (m : List ℕ) → length (encrypted f b s m) ≡ length m
    encrypted_long m =
        let t = blocks_of b (length m) in
        ap length (by_keystream t m (blocks_hold b q.some (length m)).0) ∙ length-xors (keystream f b t s) m
        ∙ omega (arith, length-keystream t s h, (blocks_hold b q.some (length m)).0)

    -- applied twice it gives the text back
    pub twice : (m : List ℕ) → encrypted f b s (encrypted f b s m) ≡ m
    twice m =
        let t = blocks_of b (length m) in
        let l = (blocks_hold b q.some (length m)).0 in
        by_keystream t (encrypted f b s m) (omega (arith, l, encrypted_long m)) ∙ ap (xors (keystream f b t s)) (by_keystream t m l)
        ∙ xors_twice (keystream f b t s) m (omega (arith, l, length-keystream t s h))

    -- the xor of two ciphertexts is the xor of their texts; of two lengths, as far as the shorter goes
    pub common : (m m' : List ℕ) → xors (encrypted f b s m) (encrypted f b s m') ≡ xors m m'
    common m m' =
        let t = blocks_of b (length m + length m') in
        let l = (blocks_hold b q.some (length m + length m')).0 in
        let k = length-keystream t s h in
        ap₂ xors (by_keystream t m (omega (arith, l))) (by_keystream t m' (omega (arith, l)))
        ∙ xors_common (keystream f b t s) m m' (omega (arith, l, k)) (omega (arith, l, k))

    -- the ciphertext of a text's first k bytes is the first k bytes of its ciphertext
    pub first_part : (k : ℕ) (m : List ℕ) → encrypted f b s (take k m) ≡ take k (encrypted f b s m)
    first_part k m =
        let t = blocks_of b (length m) in
        let l = (blocks_hold b q.some (length m)).0 in
        by_keystream t (take k m) (omega (arith, l, length-take k m)) ∙ xors-take k (keystream f b t s) m ∙ ap (take k) (sym (by_keystream t m l))
