-- What each call of the row does as a whole: its part of the paper's algorithms. A state is written s ++ t, with s the n bytes that
-- count and t what lies beyond; so are the session bytes, u ++ v.
-- Assumes nothing.
use Rattle.std.specs.Prelude.{◌≡◌, refl, Bool, ℕ, zero, suc, ◌+◌, ◌-◌, ◌*◌, ◌≤◌, replicate}
use Rattle.std.proofs.Math.Path.{sym, ap, ap₂}
use Rattle.std.proofs.Common.{◌∙◌, add_assoc, length-append, length-drop, take_at, drop_at}
use mathlib.Core.List.{List, ◌++◌, append_assoc}
use native.Mathlib.Omega.{arith}
use Rattle.std.proofs.Math.ListN.{length, take, drop}
use Rattle.std.proofs.lemmas.List.{length-replicate, take-append-le}
use Rattle.std.proofs.Math.Seq.{length-take-le}
use Rattle.bits.specs.Run.{turns, rounds, front, run}
use Rattle.bits.proofs.Run.{run-front}
use Rattle.bits.specs.Xors.{xors, xors-front}
use Rattle.stopping.specs.Stopped.{whole}
use Rattle.stopping.specs.Parts.{call_of}
use Rattle.bits.specs.Put.{put, put_at, put_front}
use Rattle.bits.specs.Strings.{xor_into, xor_at, block}
use Rattle.mode.specs.Strings.{padded, bit_at, xor_bit}
use Rattle.bits.specs.StringLaws.{length-xor_into, length-xor_at, length-block, xor_into-front, xor_at-front}
use Rattle.mode.specs.StringLaws.{length-xor_bit, xor_bit-front}
use Rattle.mode.specs.Params.{Params, LawfulParams, perm, iv}
use Rattle.mode.specs.PaperLaws.{perm_long, length-start}
use Rattle.scheme.specs.Machine.{Machine, Input, machine, on_state, first, cipher_of}
use Rattle.mode.specs.Parts.{tag_of, part, key_start, key_bits, key_end, written, texts, mac_start, assocs, ciphers, set_aside, mac_key_start, mac_key_bits, mac_key_end, take_back, tagged, mac_end}

-- ---- the rounds of a call

turns-on_state : (f : ℕ → List ℕ → List ℕ) (k : ℕ) (m : Machine) → turns (λ (j : ℕ). on_state (f j)) k m ≡ on_state (turns f k) m
unfolding turns
turns-on_state f zero m = refl
turns-on_state f (suc k) m = ap (on_state (f k)) (turns-on_state f k m)

module _ (p : Params) where
  -- k rounds of a call of r rounds are a run on the state
  pub turns-run : (r k : ℕ) (m : Machine)
      → turns (λ (j : ℕ). on_state (front p.n (p.round (p.most - r + j)))) k m ≡ on_state (run p.n p.round (p.most - r) k) m
  unfolding run rounds
  turns-run r k m = turns-on_state (λ (j : ℕ). front p.n (p.round (p.most - r + j))) k m

  -- the same from its round j on
  pub turns-run_from : (r j k : ℕ) (m : Machine)
      → turns (λ (i : ℕ). on_state (front p.n (p.round (p.most - r + (j + i))))) k m ≡ on_state (run p.n p.round (p.most - r + j) k) m
  unfolding run rounds
  turns-run_from r j k m =
      turns-on_state (λ (i : ℕ). front p.n (p.round (p.most - r + (j + i)))) k m
      ∙ (λ h. on_state (turns (λ (i : ℕ). front p.n (p.round (sym (add_assoc (p.most - r) j i) h))) k) m)

module _ (p : Params) (l : LawfulParams p) (x : Input) where
  run_state : (r k : ℕ) (s t : List ℕ) → length s ≡ p.n → run p.n p.round (p.most - r) k (s ++ t) ≡ rounds p.round (p.most - r) k s ++ t
  run_state r k s t h =
      run-front l.keeps (p.most - r) k (s ++ t) (omega (arith, length-append s t))
      ∙ ap₂ (λ (u v : List ℕ). rounds p.round (p.most - r) k u ++ v) (take_at s t p.n h) (drop_at s t p.n h)

  -- a whole call, from the state with which its rounds begin
  whole_is : (count r : ℕ) (enter leave : ℕ → Machine → Machine) (i : ℕ) (m : Machine) (s t ss o g : List ℕ) → length s ≡ p.n
      → enter i m ≡ machine (s ++ t) ss o g
      → whole (call_of (part p x count r enter leave) i) m ≡ leave i (machine (perm p r s ++ t) ss o g)
  unfolding whole call_of part perm
  whole_is count r enter leave i m s t ss o g h e =
      ap (leave i)
      (turns-run p r r (enter i m)
      ∙ ap (on_state (run p.n p.round (p.most - r) r)) e
      ∙ ap (λ (u : List ℕ). machine u ss o g) (run_state r r s t h))

  -- ---- what is done with the first call of a part alone

  first-front : (i : ℕ) (f f' : List ℕ → List ℕ) (s t : List ℕ) → f (s ++ t) ≡ f' s ++ t → first i f (s ++ t) ≡ first i f' s ++ t
  first-front zero f f' s t h = h
  first-front (suc i) f f' s t h = refl

  first_long : (i : ℕ) (f : List ℕ → List ℕ) (s : List ℕ) → length (f s) ≡ p.n → length s ≡ p.n → length (first i f s) ≡ p.n
  first_long zero f s h k = h
  first_long (suc i) f s h k = k

  short : (i : ℕ) (str s : List ℕ) → length s ≡ p.n → length (block p.b i str) ≤ length s
  short i str s h = omega (arith, length-block p.b i str, l.block_fits)

  module _ (hk : length x.key ≡ 16) (hn : length x.nonce ≡ 16) where
    -- ---- encryption

    pub w_key_start : (i : ℕ) (s t ss o g : List ℕ) → length s ≡ p.n
        → whole (call_of (key_start p x) i) (machine (s ++ t) ss o g) ≡ machine (perm p p.s_k (x.key ++ iv p 3) ++ t) ss o g
    unfolding key_start
    w_key_start i s t ss o g h =
        let long = length-start p l x.key 3 hk in
        whole_is _ p.s_k _ _ i (machine (s ++ t) ss o g) (x.key ++ iv p 3) t ss o g long
        (ap (λ (u : List ℕ). machine u ss o g) (put_front (x.key ++ iv p 3) s t (long ∙ sym h)))

    pub w_key_bits : (i : ℕ) (s t ss o g : List ℕ) → length s ≡ p.n
        → whole (call_of (key_bits p x) i) (machine (s ++ t) ss o g) ≡ machine (perm p p.s_b (xor_bit (bit_at x.nonce i) s) ++ t) ss o g
    unfolding key_bits
    w_key_bits i s t ss o g h =
        let y = bit_at x.nonce i in
        whole_is _ p.s_b _ _ i (machine (s ++ t) ss o g) (xor_bit y s) t ss o g (length-xor_bit y s ∙ h)
        (ap (λ (u : List ℕ). machine u ss o g) (xor_bit-front y s t (omega (arith, l.room))))

    pub w_key_end : (i : ℕ) (s t ss o g : List ℕ) → length s ≡ p.n
        → whole (call_of (key_end p x) i) (machine (s ++ t) ss o g) ≡ machine (perm p p.s_k (xor_bit (bit_at x.nonce 127) s) ++ t) ss o g
    unfolding key_end
    w_key_end i s t ss o g h =
        let y = bit_at x.nonce 127 in
        whole_is _ p.s_k _ _ i (machine (s ++ t) ss o g) (xor_bit y s) t ss o g (length-xor_bit y s ∙ h)
        (ap (λ (u : List ℕ). machine u ss o g) (xor_bit-front y s t (omega (arith, l.room))))

    -- the session key is in place, and the nonce comes after it
    unfoldable pub nonce_put : List ℕ → List ℕ
    nonce_put s = take (p.n - 16) s ++ x.nonce

    nonce_front : (s t : List ℕ) → length s ≡ p.n → put_at (p.n - 16) x.nonce (s ++ t) ≡ nonce_put s ++ t
    unfolding put_at nonce_put
    nonce_front s t h =
        let r = l.room in
        let e : p.n - 16 + length x.nonce ≡ p.n = omega arith in
        ap₂ (λ (u : List ℕ) (k : ℕ). u ++ (x.nonce ++ drop k (s ++ t))) (take-append-le (p.n - 16) s t (omega arith)) e
        ∙ ap (λ (u : List ℕ). take (p.n - 16) s ++ (x.nonce ++ u)) (drop_at s t p.n h)
        ∙ sym (append_assoc (take (p.n - 16) s) x.nonce t)

    pub nonce_long_lem : (s : List ℕ) → length s ≡ p.n → length (nonce_put s) ≡ p.n
    unfolding nonce_put
    nonce_long_lem s h = rw (length-append, length-take-le (p.n - 16) s (omega (arith, l.room)), hn) (omega (arith, l.room))

    pub w_texts : (i : ℕ) (s t ss o g : List ℕ) → length s ≡ p.n
        → whole (call_of (texts p x) i) (machine (s ++ t) ss o g)
        ≡ machine (perm p p.s_e (first i nonce_put s) ++ t) ss
        (put_at (i * p.b) (xors (perm p p.s_e (first i nonce_put s)) (block p.b i x.text)) o) g
    unfolding texts written
    w_texts i s t ss o g h =
        let u = first i nonce_put s in
        let long = first_long i nonce_put s (nonce_long_lem s h) h in
        whole_is _ p.s_e _ (written p x) i (machine (s ++ t) ss o g) u t ss o g long
        (ap (λ (v : List ℕ). machine v ss o g) (first-front i (put_at (p.n - 16) x.nonce) nonce_put s t (nonce_front s t h)))
        ∙ ap (λ (v : List ℕ). machine (perm p p.s_e u ++ t) ss (put_at (i * p.b) v o) g)
        (xors-front (perm p p.s_e u) t (block p.b i x.text) (short i x.text (perm p p.s_e u) (perm_long p l p.s_e u long)))

    -- ---- MAC

    pub w_mac_start : (i : ℕ) (s t ss o g : List ℕ) → length s ≡ p.n
        → whole (call_of (mac_start p x) i) (machine (s ++ t) ss o g) ≡ machine (perm p p.s_h (x.nonce ++ iv p 1) ++ t) ss o g
    unfolding mac_start
    w_mac_start i s t ss o g h =
        let long = length-start p l x.nonce 1 hn in
        whole_is _ p.s_h _ _ i (machine (s ++ t) ss o g) (x.nonce ++ iv p 1) t ss o g long
        (ap (λ (u : List ℕ). machine u ss o g) (put_front (x.nonce ++ iv p 1) s t (long ∙ sym h)))

    pub w_assocs : (i : ℕ) (s t ss o g : List ℕ) → length s ≡ p.n
        → whole (call_of (assocs p x) i) (machine (s ++ t) ss o g)
        ≡ machine (perm p p.s_h (xor_into (block p.b i (padded p.b x.assoc)) s) ++ t) ss o g
    unfolding assocs
    w_assocs i s t ss o g h =
        let str = padded p.b x.assoc in
        let y = block p.b i str in
        let fits = short i str s h in
        whole_is _ p.s_h _ _ i (machine (s ++ t) ss o g) (xor_into y s) t ss o g (length-xor_into y s fits ∙ h)
        (ap (λ (u : List ℕ). machine u ss o g) (xor_into-front y s t fits))

    pub w_ciphers : (i : ℕ) (s t ss o g : List ℕ) → length s ≡ p.n
        → whole (call_of (ciphers p x) i) (machine (s ++ t) ss o g)
        ≡ machine (perm p p.s_h (xor_into (block p.b i (padded p.b (cipher_of x o))) (first i (xor_at (p.n - 1) 1) s)) ++ t) ss o g
    unfolding ciphers
    w_ciphers i s t ss o g h =
        let flip = xor_at (p.n - 1) 1 in
        let str = padded p.b (cipher_of x o) in
        let y = block p.b i str in
        let u = first i flip s in
        let long : length u ≡ p.n = first_long i flip s (length-xor_at (p.n - 1) 1 s ∙ h) h in
        let fits = short i str u long in
        whole_is _ p.s_h _ _ i (machine (s ++ t) ss o g) (xor_into y u) t ss o g (length-xor_into y u fits ∙ long)
        (ap (λ (v : List ℕ). machine v ss o g)
        (ap (xor_into y) (first-front i flip flip s t (xor_at-front (p.n - 1) 1 s t (omega (arith, l.room)))) ∙ xor_into-front y u t fits))

    pub w_mac_key_start : (i : ℕ) (s t u v o g : List ℕ) → length s ≡ p.n → length u ≡ p.n
        → whole (call_of (mac_key_start p x) i) (machine (s ++ t) (u ++ v) o g) ≡ machine (perm p p.s_k (x.key ++ iv p 2) ++ t) (s ++ v) o g
    unfolding mac_key_start set_aside
    w_mac_key_start i s t u v o g h k =
        let long = length-start p l x.key 2 hk in
        whole_is _ p.s_k (set_aside p x) _ i (machine (s ++ t) (u ++ v) o g) (x.key ++ iv p 2) t (s ++ v) o g long
        (ap₂ (λ (a b : List ℕ). machine a b o g) (put_front (x.key ++ iv p 2) s t (long ∙ sym h))
        (ap (λ (w : List ℕ). put w (u ++ v)) (take_at s t p.n h) ∙ put_front s u v (h ∙ sym k)))

    -- the re-keying string is the first 16 of the bytes set aside
    aside_bit : (u v : List ℕ) (i : ℕ) → length u ≡ p.n → bit_at (take 16 (u ++ v)) i ≡ bit_at (take 16 u) i
    aside_bit u v i k = ap (λ (y : List ℕ). bit_at y i) (take-append-le 16 u v (omega (arith, l.room)))

    pub w_mac_key_bits : (i : ℕ) (s t u v o g : List ℕ) → length s ≡ p.n → length u ≡ p.n
        → whole (call_of (mac_key_bits p x) i) (machine (s ++ t) (u ++ v) o g) ≡ machine (perm p p.s_b (xor_bit (bit_at (take 16 u) i) s) ++ t) (u ++ v) o g
    unfolding mac_key_bits
    w_mac_key_bits i s t u v o g h k =
        let y = bit_at (take 16 u) i in
        whole_is _ p.s_b _ _ i (machine (s ++ t) (u ++ v) o g) (xor_bit y s) t (u ++ v) o g (length-xor_bit y s ∙ h)
        (ap (λ (w : List ℕ). machine w (u ++ v) o g)
        (ap (λ (b : Bool). xor_bit b (s ++ t)) (aside_bit u v i k) ∙ xor_bit-front y s t (omega (arith, l.room))))

    pub w_mac_key_end : (i : ℕ) (s t u v o g : List ℕ) → length s ≡ p.n → length u ≡ p.n
        → whole (call_of (mac_key_end p x) i) (machine (s ++ t) (u ++ v) o g) ≡ machine (perm p p.s_k (xor_bit (bit_at (take 16 u) 127) s) ++ t) (u ++ v) o g
    unfolding mac_key_end
    w_mac_key_end i s t u v o g h k =
        let y = bit_at (take 16 u) 127 in
        whole_is _ p.s_k _ _ i (machine (s ++ t) (u ++ v) o g) (xor_bit y s) t (u ++ v) o g (length-xor_bit y s ∙ h)
        (ap (λ (w : List ℕ). machine w (u ++ v) o g)
        (ap (λ (b : Bool). xor_bit b (s ++ t)) (aside_bit u v 127 k) ∙ xor_bit-front y s t (omega (arith, l.room))))

    -- the session key comes before what was set aside
    pub w_mac_end : (i : ℕ) (s t u v o g : List ℕ) → length s ≡ p.n → length u ≡ p.n
        → whole (call_of (mac_end p x) i) (machine (s ++ t) (u ++ v) o g)
        ≡ machine (perm p p.s_h (take 16 s ++ drop 16 u) ++ t) (replicate p.n 0 ++ v) o (tag_of x (perm p p.s_h (take 16 s ++ drop 16 u) ++ t) g)
    unfolding mac_end take_back tagged
    w_mac_end i s t u v o g h k =
        let r = l.room in
        let y = take 16 s ++ drop 16 u in
        let long : length y ≡ p.n = rw (length-append, length-take-le 16 s (omega arith), length-drop) (omega arith) in
        whole_is _ p.s_h (take_back p x) (tagged p x) i (machine (s ++ t) (u ++ v) o g) y t (replicate p.n 0 ++ v) o g long
        (ap₂ (λ (a b : List ℕ). machine a b o g)
        (ap₂ (λ (a b : List ℕ). put (a ++ drop 16 b) (s ++ t)) (take-append-le 16 s t (omega arith)) (take_at u v p.n k) ∙ put_front y s t (long ∙ sym h))
        (put_front (replicate p.n 0) u v (length-replicate p.n 0 ∙ sym k)))
