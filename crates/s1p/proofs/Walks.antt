-- A walk done whole, on a state and session bytes of 64 bytes each: the seed, Shadow's start, the data and the text leave what the paper's
-- loops leave, and a walk that writes leaves the text that comes out.
-- Assumes nothing.
use Rattle.std.specs.Prelude.{◌≡◌, Bool, take, drop, replicate}
use Rattle.std.proofs.Math.Path.{refl, sym, ap, ap₂}
use Rattle.std.proofs.Common.{◌∙◌, zero-add, add-zero, zero-mul, eq-eqb, length-append, drop_of_length-le, take_at}
use Rattle.std.proofs.Math.Bool.{true, false}
use mathlib.Core.List.{List, [], ◌∷◌, ◌++◌, append-nil}
use Prim.Native.Nat.{ℕ, zero, suc, ◌+◌, ◌-◌, ◌*◌, ◌≤◌, ◌<◌, min}
use native.Mathlib.Omega.{arith}
use Rattle.std.proofs.Math.ListN.{length}
use Rattle.std.proofs.lemmas.List.{length-replicate}
use Rattle.bits.specs.Pick.{pick}
use Rattle.bits.specs.Run.{turns, front}
use Rattle.bits.specs.Put.{put, put_at, length-put_at}
use Rattle.bits.specs.Xors.{xors}
use Rattle.bits.specs.Strings.{cut, block}
use Rattle.bits.specs.StringLaws.{length-block, drop-next}
use Rattle.stopping.specs.Stopped.{whole}
use Rattle.stopping.specs.Rows.{run, calls}
use Rattle.stopping.specs.Parts.{Part, call_of, part_row, row}
use Rattle.scheme.specs.Machine.{Machine, Input, machine, first, cipher_of, Exact}
use Rattle.s1p.specs.Cipher.{Cipher, LawfulCipher, encrypt, perm}
use Rattle.s1p.specs.Paper.{blocks, parsed, iv, start, text_mark, last_data, cipher_block, last_text, marked, text_out, last_state}
use Rattle.s1p.specs.Parts.{written, due, next, seeded, seed, begin, assocs, texts}
use Rattle.s1p.proofs.Laws.{small_block, put_all, turns-front, turns_all, length-last_data, length-last_text, length_out, length-encrypt, length-perm, length-first, length-start}
use Rattle.s1p.specs.Evenly.{absorb_all, taken, ends_all, outs_all, behind}
use Rattle.s1p.proofs.Evenly.{length_taken, outs_all_none, length-behind, text_out_is, last_state_is, length-text_out}
use Rattle.s1p.proofs.Calls.{block-put_at, put_both, whole_is, not_due, and_then, first_none, first_some, length-first-mark, xors-first-mark}
use Rattle.s1p.specs.Walks.{clyde_state, zero64}

pub length-clyde_state : (s : List ℕ) → length s ≡ 16 → length (clyde_state s) ≡ 64
unfolding clyde_state
length-clyde_state s h = length-append s (replicate 48 0) ∙ rw (length-replicate) (omega arith)

pub clyde_state-front : (s : List ℕ) → length s ≡ 16 → take 16 (clyde_state s) ≡ s
unfolding clyde_state
clyde_state-front s h = take_at s (replicate 48 0) 16 h

module _ (p : Cipher) (l : LawfulCipher p) (x : Input) (hn : length x.nonce ≡ 16) where
  abbrev pub u : ℕ
  u = blocks (length x.assoc)

  abbrev pub v : ℕ
  v = blocks (length x.text)

  -- a Shadow call's rounds
  shadow-call : (s : List ℕ) → length s ≡ 64 → turns (λ (k : ℕ). front 64 (p.round k)) 12 s ≡ perm p s
  unfolding perm
  shadow-call s h = turns_all l.round 12 s h

  -- ---- the seed and Shadow's start

  -- B
  abbrev pub seed_of : List ℕ
  seed_of = encrypt p x.key (replicate 16 0) x.nonce

  length-seed_of : length seed_of ≡ 16
  length-seed_of = length-encrypt p l x.key (replicate 16 0) x.nonce hn

  pub r_seed : (m : Machine) → Exact 64 m → run (part_row (seed p x 1)) m ≡ machine (clyde_state seed_of) zero64 m.out m.tag
  unfolding part_row run calls seed seeded encrypt clyde_state
  r_seed m h =
      let t : ℕ → List ℕ → List ℕ = λ k. front 16 (p.forward x.key (replicate 16 0) k) in
      whole_is 1 _ _ _ 0 m
      ∙ ap₂ (λ (s ss : List ℕ). machine (turns t 12 s) ss m.out m.tag)
      (put_all (clyde_state x.nonce) m.state (length-clyde_state x.nonce hn ∙ sym h.state))
      (put_all zero64 m.session (length-replicate {A = ℕ} 64 0 ∙ sym h.session))
      ∙ ap (λ (s : List ℕ). machine s zero64 m.out m.tag) (turns-front (l.forward x.key (replicate 16 0)) 12 x.nonce (replicate 48 0) hn)

  pub r_begin : (w : Bool) (ss o g : List ℕ) → run (part_row (begin p x w 1)) (machine (clyde_state seed_of) ss o g)
      ≡ due p x w 0 (machine (start p x.key x.nonce) ss o g)
  unfolding part_row run calls begin start
  r_begin w ss o g =
      let c = clyde_state seed_of in
      let f = iv x.nonce ++ seed_of in
      let e : length f ≡ 64 = length-first p l x.key x.nonce hn in
      whole_is 1 _ _ _ 0 (machine c ss o g)
      ∙ ap (λ (s : List ℕ). due p x w 0 (machine (turns (λ (k : ℕ). front 64 (p.round k)) 12 s) ss o g))
      (ap (λ (b : List ℕ). put (iv x.nonce ++ b) c) (clyde_state-front seed_of length-seed_of) ∙ put_all f c (e ∙ sym (length-clyde_state seed_of length-seed_of)))
      ∙ ap (λ (s : List ℕ). due p x w 0 (machine s ss o g)) (shadow-call f e)

  -- ---- the data: the first text block is due behind the last of it

  -- a block of data
  data_block : ℕ → List ℕ
  data_block i = take 32 (drop (i * 32) x.assoc)

  length_data_call : (i : ℕ) (s : List ℕ) → length s ≡ 64 → length (last_data (data_block i) s) ≡ 64
  unfolding data_block
  length_data_call i s h = length-last_data (data_block i) s (small_block (drop (i * 32) x.assoc)) (omega arith) ∙ h

  data_call : (w : Bool) (d i : ℕ) (s ss o g : List ℕ) → length s ≡ 64
      → whole (call_of (assocs p x w d) i) (machine s ss o g) ≡ due p x w (suc i) (machine (perm p (last_data (data_block i) s)) ss o g)
  unfolding assocs block data_block
  data_call w d i s ss o g h =
      whole_is d _ _ _ i (machine s ss o g)
      ∙ ap (λ (t : List ℕ). due p x w (suc i) (machine t ss o g)) (shadow-call (last_data (data_block i) s) (length_data_call i s h))

  data_run : (w : Bool) (d k i : ℕ) (s ss o g : List ℕ) → length s ≡ 64 → i + k ≡ u
      → run (calls (call_of (assocs p x w d)) i k) (due p x w i (machine s ss o g))
      ≡ due p x w u (machine (absorb_all p (cut 32 k (drop (i * 32) x.assoc)) s) ss o g)
  unfolding run calls absorb_all cut data_block
  data_run w d zero i s ss o g h e = ap (λ (j : ℕ). due p x w j (machine s ss o g)) (sym (add-zero i) ∙ e)
  data_run w d (suc k) i s ss o g h e =
      let s₁ = perm p (last_data (data_block i) s) in
      let rest = run (calls (call_of (assocs p x w d)) (suc i) k) in
      ap (λ (m : Machine). rest (whole (call_of (assocs p x w d) i) m)) (not_due p x w i (machine s ss o g) (omega arith))
      ∙ ap rest (data_call w d i s ss o g h)
      ∙ data_run w d k (suc i) s₁ ss o g (length-perm p l (last_data (data_block i) s) (length_data_call i s h)) (omega arith)
      ∙ ap (λ (t : List ℕ). due p x w u (machine (absorb_all p (cut 32 k t) s₁) ss o g)) (sym (drop-next 32 i x.assoc))

  -- the two together: behind the data
  abbrev pub behind_data : List ℕ
  behind_data = behind p x.key x.nonce x.assoc

  pub r_data : (w : Bool) (ss o g : List ℕ)
      → run (part_row (assocs p x w u)) (due p x w 0 (machine (start p x.key x.nonce) ss o g)) ≡ due p x w u (machine behind_data ss o g)
  unfolding part_row assocs behind parsed
  r_data w ss o g =
      let s = start p x.key x.nonce in
      data_run w u u 0 s ss o g (length-start p l x.key x.nonce hn) (zero-add u)
      ∙ ap (λ (i : ℕ). due p x w u (machine (absorb_all p (cut 32 u (drop i x.assoc)) s) ss o g)) (zero-mul 32)

  due-writes : (m : Machine) → due p x true u m ≡ written p x 0 m
  unfolding due
  due-writes m = ap (λ (b : Bool). pick b (written p x 0 m) m) (eq-eqb u u refl)

  due-quiet : (m : Machine) → due p x false u m ≡ m
  unfolding due
  due-quiet m = refl

  -- ---- the text

  -- the state after a text block, of the ciphertext's block that it takes
  text_call : (w : Bool) (d i : ℕ) (s ss o g : List ℕ) → length s ≡ 64
      → whole (call_of (texts p x w d) i) (machine s ss o g)
      ≡ next p x w i (machine (perm p (last_text (block 32 i (cipher_of x o)) (first i text_mark s))) ss o g)
  unfolding texts
  text_call w d i s ss o g h =
      let c = block 32 i (cipher_of x o) in
      let s' = first i text_mark s in
      let e : length s' ≡ 64 = length-first-mark i s ∙ h in
      whole_is d _ _ _ i (machine s ss o g)
      ∙ ap (λ (t : List ℕ). next p x w i (machine t ss o g))
      (shadow-call (last_text c s') (length-last_text c s' (omega (arith, length-block 32 i (cipher_of x o))) ∙ e))

  -- the blocks from the i-th on, k of them
  abbrev from : ℕ → ℕ → List (List ℕ)
  from i k = cut 32 k (drop (i * 32) x.text)

  from_next : (i k : ℕ) → from (suc i) k ≡ cut 32 k (drop 32 (drop (i * 32) x.text))
  from_next i k = ap (cut 32 k) (sym (drop-next 32 i x.text))

  -- block i of the text, and the state that takes it
  abbrev text_block : ℕ → List ℕ
  text_block i = take 32 (drop (i * 32) x.text)

  length-next : (b : Bool) (i : ℕ) (s : List ℕ) → length s ≡ 64 → length (taken p b (text_block i) (first i text_mark s)) ≡ 64
  length-next b i s h = length_taken p l b (text_block i) (first i text_mark s) (small_block (drop (i * 32) x.text)) (length-first-mark i s ∙ h)

  -- without writing, of a ciphertext that is given
  quiet_call : (d i : ℕ) (s ss o g : List ℕ) → length s ≡ 64 → x.sealing ≡ false
      → whole (call_of (texts p x false d) i) (machine s ss o g) ≡ machine (taken p false (text_block i) (first i text_mark s)) ss o g
  unfolding next taken cipher_block cipher_of block
  quiet_call d i s ss o g h e =
      text_call false d i s ss o g h
      ∙ ap (λ (b : Bool). machine (perm p (last_text (take 32 (drop (i * 32) (pick b o x.text))) (first i text_mark s))) ss o g) e

  quiet-run : (d k i : ℕ) (s ss o g : List ℕ) → length s ≡ 64 → x.sealing ≡ false
      → run (calls (call_of (texts p x false d)) i k) (machine s ss o g)
      ≡ machine (ends_all p false (from i k) (first i (marked (from i k)) s)) ss o g
  unfolding run calls ends_all cut
  quiet-run d zero i s ss o g h e = ap (λ (t : List ℕ). machine t ss o g) (sym (first_none i s))
  quiet-run d (suc k) i s ss o g h e =
      let m = text_block i in
      let rest = cut 32 k (drop 32 (drop (i * 32) x.text)) in
      let s₁ = taken p false m (first i text_mark s) in
      ap (run (calls (call_of (texts p x false d)) (suc i) k)) (quiet_call d i s ss o g h e)
      ∙ quiet-run d k (suc i) s₁ ss o g (length-next false i s h) e
      ∙ ap (λ (b : List (List ℕ)). machine (ends_all p false b s₁) ss o g) (from_next i k)
      ∙ ap (λ (t : List ℕ). machine (ends_all p false rest (taken p false m t)) ss o g) (sym (first_some i m rest s))

  -- with writing: block i is in its place when call i begins
  module _ (d i : ℕ) (s ss o g : List ℕ) (h : length s ≡ 64) (ho : length o ≡ length x.text) (hi : i * 32 ≤ length x.text) where
    abbrev m : List ℕ
    m = text_block i

    abbrev c : List ℕ
    c = xors s m

    length_c : length c ≡ min 32 (length x.text - i * 32)
    unfolding block
    length_c = length_out m s (omega (arith, small_block (drop (i * 32) x.text))) ∙ length-block 32 i x.text

    -- the machine with block i written
    abbrev o₁ : List ℕ
    o₁ = put_at (i * 32) c o

    o₁_long : length o₁ ≡ length x.text
    o₁_long = length-put_at (i * 32) c o (omega (arith, length_c)) ∙ ho

    written_is : written p x i (machine s ss o g) ≡ machine s ss o₁ g
    unfolding written block
    written_is = refl

    -- the block that the state takes
    c_is : block 32 i (cipher_of x o₁) ≡ cipher_block x.sealing m (first i text_mark s)
    unfolding cipher_of cipher_block block
    c_is = go x.sealing
      where
        go : (b : Bool) → block 32 i (pick b (put_at (i * 32) c o) x.text) ≡ pick b (xors (first i text_mark s) m) m
        go true =
            block-put_at i c o (omega arith) (length_c ∙ ap (λ (n : ℕ). min 32 (n - i * 32)) (sym ho))
            ∙ sym (xors-first-mark i s m (small_block (drop (i * 32) x.text)))
        go false = refl

    one_text : whole (call_of (texts p x true d) i) (written p x i (machine s ss o g))
        ≡ written p x (suc i) (machine (taken p x.sealing m (first i text_mark s)) ss o₁ g)
    unfolding next taken
    one_text =
        ap (whole (call_of (texts p x true d) i)) written_is
        ∙ text_call true d i s ss o₁ g h
        ∙ ap (λ (b : List ℕ). written p x (suc i) (machine (perm p (last_text b (first i text_mark s))) ss o₁ g)) c_is

  write_none : (i : ℕ) (s ss o g : List ℕ)
      → written p x i (machine s ss o g)
      ≡ machine (first i (marked []) s) ss (put_at (i * 32) (xors (first i text_mark s) (text_block i) ++ []) o) g
  unfolding written block
  write_none i s ss o g =
      let b = text_block i in
      ap₂ (λ (t c : List ℕ). machine t ss (put_at (i * 32) c o) g) (sym (first_none i s))
      (sym (append-nil (xors (first i text_mark s) b) ∙ xors-first-mark i s b (small_block (drop (i * 32) x.text))))

  write_run : (d k i : ℕ) (s ss o g : List ℕ) → length s ≡ 64 → length o ≡ length x.text → (i + k) * 32 < length x.text + 32
      → run (calls (call_of (texts p x true d)) i k) (written p x i (machine s ss o g))
      ≡ machine (ends_all p x.sealing (from i k) (first i (marked (from i k)) s)) ss
      (put_at (i * 32) (outs_all p x.sealing (from i (suc k)) (first i text_mark s)) o) g
  unfolding run calls ends_all outs_all cut
  write_run d zero i s ss o g h ho hi = write_none i s ss o g
  write_run d (suc k) i s ss o g h ho hi =
      let b = x.sealing in
      let i≤ : i * 32 ≤ length x.text = omega arith in
      let mm : List ℕ = text_block i in
      let s' : List ℕ = first i text_mark s in
      let t₁ : List ℕ = taken p b mm s' in
      let q₁ : List ℕ = put_at (i * 32) (xors s mm) o in
      let ys : List ℕ = outs_all p b (from (suc i) (suc k)) t₁ in
      let lc : length (xors s mm) ≡ min 32 (length x.text - i * 32) = length_c d i s ss o g h ho i≤ in
      let long : length q₁ ≡ length x.text = o₁_long d i s ss o g h ho i≤ in
      let rest = cut 32 k (drop 32 (drop (i * 32) x.text)) in
      let none : length x.text < suc i * 32 → ys ≡ [] =
      λ y. ap (λ (t : List ℕ). outs_all p b (cut 32 (suc k) t) t₁) (drop_of_length-le x.text {i = suc i * 32} (omega arith)) ∙ outs_all_none p l b (suc k) t₁ in
      ap (run (calls (call_of (texts p x true d)) (suc i) k)) (one_text d i s ss o g h ho i≤)
      ∙ write_run d k (suc i) t₁ ss q₁ g (length-next b i s h) long (omega arith)
      ∙ ap (λ (w : List ℕ). machine (ends_all p b (from (suc i) k) t₁) ss w g) (put_both i (length x.text) (xors s mm) ys o ho i≤ lc none)
      ∙ ap (λ (w : List ℕ). machine (ends_all p b (from (suc i) k) t₁) ss (put_at (i * 32) (w ++ ys) o) g)
      (sym (xors-first-mark i s mm (small_block (drop (i * 32) x.text))))
      ∙ ap₂ (λ (e f : List (List ℕ)). machine (ends_all p b e t₁) ss (put_at (i * 32) (xors s' mm ++ outs_all p b f t₁) o) g) (from_next i k) (from_next i (suc k))
      ∙ ap (λ (t : List ℕ). machine (ends_all p b rest (taken p b mm t)) ss (put_at (i * 32) (xors s' mm ++ outs_all p b (cut 32 (suc k) (drop 32 (drop (i * 32) x.text))) t₁) o) g)
      (sym (first_some i mm rest s))

  -- ---- a walk, and what comes after it

  pub write_then : (t : ℕ) (cs : List (Part Machine)) (m : Machine) → Exact 64 m → length m.out ≡ length x.text → t * 32 < length x.text + 32
      → run (row (seed p x 1 ∷ begin p x true 1 ∷ assocs p x true u ∷ texts p x true t ∷ cs)) m
      ≡ run (row cs)
      (machine (ends_all p x.sealing (cut 32 t x.text) (marked (cut 32 t x.text) behind_data)) zero64
      (put_at 0 (outs_all p x.sealing (cut 32 (suc t) x.text) (text_mark behind_data)) m.out) m.tag)
  unfolding part_row texts
  write_then t cs m e ho h =
      and_then (seed p x 1) (begin p x true 1 ∷ assocs p x true u ∷ texts p x true t ∷ cs) m (r_seed m e)
      (and_then (begin p x true 1) (assocs p x true u ∷ texts p x true t ∷ cs) _ (r_begin true zero64 m.out m.tag)
      (and_then (assocs p x true u) (texts p x true t ∷ cs) _ (r_data true zero64 m.out m.tag ∙ due-writes (machine behind_data zero64 m.out m.tag))
      (and_then (texts p x true t) cs _
      (write_run t t 0 behind_data zero64 m.out m.tag (length-behind p l x.key x.nonce x.assoc hn) ho (omega arith))
      refl)))

  pub quiet_then : (cs : List (Part Machine)) (m : Machine) → Exact 64 m → x.sealing ≡ false
      → run (row (seed p x 1 ∷ begin p x false 1 ∷ assocs p x false u ∷ texts p x false v ∷ cs)) m
      ≡ run (row cs) (machine (last_state p false x.key x.nonce x.assoc x.text) zero64 m.out m.tag)
  unfolding part_row texts parsed
  quiet_then cs m e d =
      and_then (seed p x 1) (begin p x false 1 ∷ assocs p x false u ∷ texts p x false v ∷ cs) m (r_seed m e)
      (and_then (begin p x false 1) (assocs p x false u ∷ texts p x false v ∷ cs) _ (r_begin false zero64 m.out m.tag)
      (and_then (assocs p x false u) (texts p x false v ∷ cs) _ (r_data false zero64 m.out m.tag ∙ due-quiet (machine behind_data zero64 m.out m.tag))
      (and_then (texts p x false v) cs _
      (quiet-run v v 0 behind_data zero64 m.out m.tag (length-behind p l x.key x.nonce x.assoc hn) d
      ∙ ap (λ (s : List ℕ). machine s zero64 m.out m.tag) (sym (last_state_is p l x.key x.nonce x.assoc hn false x.text)))
      refl)))

  -- all of the text, from the start of the output
  marked-outs : (b : Bool) (k : ℕ) (t s : List ℕ) → outs_all p b (cut 32 k t) (text_mark s) ≡ outs_all p b (cut 32 k t) (marked (cut 32 k t) s)
  unfolding outs_all cut marked
  marked-outs b zero t s = refl
  marked-outs b (suc k) t s = refl

  all_put : (c o : List ℕ) → length c ≡ length o → put_at 0 c o ≡ c
  unfolding put_at
  all_put c o e = ap (λ (r : List ℕ). c ++ r) (drop_of_length-le o {i = 0 + length c} (omega arith)) ∙ append-nil c

  pub all_out : (b : Bool) (o : List ℕ) → length o ≡ length x.text
      → put_at 0 (outs_all p b (cut 32 v x.text) (text_mark behind_data)) o ≡ text_out p b x.key x.nonce x.assoc x.text
  unfolding parsed
  all_out b o e =
      let w = text_out p b x.key x.nonce x.assoc x.text in
      ap (λ (c : List ℕ). put_at 0 c o) (marked-outs b v x.text behind_data ∙ sym (text_out_is p l x.key x.nonce x.assoc hn b x.text))
      ∙ all_put w o (length-text_out p l x.key x.nonce x.assoc hn b x.text ∙ sym e)
