-- The output of a job stopped after any number of rounds: the blocks that are written by then are the paper's, and the others are as they
-- were. The last Shadow call before the text and the text's own are calls of one part that writes block i with the last round of call i, and
-- no other part touches the output.
-- Assumes nothing.
use Rattle.std.specs.Prelude.{◌≡◌, Bool}
use Rattle.std.proofs.Math.Path.{refl, sym, ap, ap₂}
use Rattle.std.proofs.Common.{◌∙◌, zero-add, add-one, eq-eqb, lit<, drop_of_length-le, take_all}
use Rattle.std.proofs.Math.Bool.{true, false}
use mathlib.Core.List.{List, [], ◌∷◌, ◌++◌, append_assoc, append-nil}
use Prim.Native.Nat.{ℕ, zero, suc, ◌+◌, ◌-◌, ◌*◌, ◌/◌, ◌≤◌, ◌<◌, min}
use Rattle.std.proofs.Math.Decide.{dec_lt}
use native.Mathlib.Omega.{arith}
use Rattle.std.proofs.Math.ListN.{length, take, drop}
use Rattle.bits.specs.Pick.{pick}
use Rattle.bits.specs.Run.{front}
use Rattle.bits.specs.Put.{put, put_at, take-put_at-before, drop-put_at-behind, put_at_none}
use Rattle.bits.specs.Xors.{xors, length-xors}
use Rattle.bits.specs.Strings.{block}
use Rattle.bits.specs.StringLaws.{length-block, length_put_block}
use Rattle.stopping.specs.Stopped.{Call, stopped}
use Rattle.stopping.specs.Rows.{run, calls, run-append}
use Rattle.stopping.specs.Parts.{Part, rounds_in, EachSome, call_of, part_row, row, shapes, row-append, shapes-append, rounds_in-append}
use Rattle.stopping.specs.Kept.{KeepsParts, keeps-parts}
use Rattle.stopping.specs.Course.{parts, accepted, halted}
use Rattle.stopping.specs.Since.{calls-add, halted-going}
use Rattle.scheme.specs.Machine.{Machine, Input, on_state, first, cipher_of}
use Rattle.scheme.specs.Lawful.{Ready, finished, out_long_lem, untouched_before}
use Rattle.scheme.specs.Blocks.{Writes, calls_done, out_after}
use Rattle.s1p.specs.Cipher.{Cipher, LawfulCipher}
use Rattle.s1p.specs.Paper.{blocks, iv, text_mark, last_data, last_text, text_out, seal}
use Rattle.s1p.specs.Parts.{written, due, next, seed, begin, assocs, texts, walk, tagging, seal_parts, verify_parts, open_parts, sealing_course, opening_course, course}
use Rattle.s1p.specs.Counts.{verify_rounds, shape, blocks_are, blocks_some, unless_some}
use Rattle.s1p.proofs.Counts.{front-rounds, lawful}
use Rattle.s1p.specs.Scheme.{s1p_scheme}
use Rattle.s1p.proofs.Evenly.{length-text_out}
use Rattle.s1p.proofs.Calls.{empty, not_due}
use Rattle.s1p.proofs.Kept.{seed_out, begin_out, assocs_out, tagging_out, no_writes, verify_out}
use Rattle.s1p.proofs.Theorems.{sealing_accepted, sealing_finished, opening_finished}
use Rattle.s1p.proofs.Lawful.{lawful_s1p}
use Rattle.s1p.specs.Between.{blocks_written}
use Rattle.s1p.proofs.Sessions.{opening_parts, opening_rounds}

-- ---- the calls that write, as one part

module _ (p : Cipher) (x : Input) where
  -- what goes with the first round of call i: of the last call before the text, with u blocks of data, and of the text's
  unfoldable enters : (u i : ℕ) → Machine → Machine
  enters zero zero = on_state (λ s. put (iv x.nonce ++ take 16 s) s)
  enters (suc j) zero = on_state (last_data (block 32 j x.assoc))
  enters u (suc i) = λ m. on_state (λ s. last_text (block 32 i (cipher_of x m.out)) (first i text_mark s)) m

  unfoldable writer : (u t : ℕ) → Part Machine
  writer u t = record { shape = shape (suc t); enter = enters u; turn = λ k. on_state (front 64 (p.round k)); leave = written p x }

  -- the calls before them
  unfoldable quiet : ℕ → List (Part Machine)
  quiet zero = seed p x 1 ∷ []
  quiet (suc j) = seed p x 1 ∷ begin p x false 1 ∷ assocs p x false j ∷ []

  quiet-rounds : (u : ℕ) → rounds_in (shapes (quiet u)) ≡ 12 * (1 + u)
  unfolding quiet rounds_in shapes seed begin assocs
  quiet-rounds zero = refl
  quiet-rounds (suc j) = omega arith

  -- the text's calls
  texts-calls : (u t d n i : ℕ) → calls (call_of (texts p x true d)) i n ≡ calls (call_of (writer u t)) (suc i) n
  unfolding calls call_of texts writer enters next
  texts-calls u t d zero i = refl
  texts-calls u t d (suc n) i = ap (λ (cs : List (Call Machine)). call_of (writer u t) (suc i) ∷ cs) (texts-calls u t d n (suc i))

  is_due : (u : ℕ) → blocks (length x.assoc) ≡ u → (m : Machine) → due p x true u m ≡ written p x 0 m
  unfolding due
  is_due u e m = ap (λ (b : Bool). pick b (written p x 0 m) m) (eq-eqb u (blocks (length x.assoc)) (sym e))

  -- a call by what goes with its last round
  shadow-call : (enter : Machine → Machine) (leave leave' : Machine → Machine) → ((m : Machine) → leave m ≡ leave' m)
      → ◌≡◌ {A = Call Machine} (record { rounds = 12; enter = enter; turn = λ k. on_state (front 64 (p.round k)); leave = leave })
      (record { rounds = 12; enter = enter; turn = λ k. on_state (front 64 (p.round k)); leave = leave' })
  shadow-call enter leave leave' e = λ q. record { rounds = 12; enter = enter; turn = λ k. on_state (front 64 (p.round k)); leave = λ m. e m q }

  module _ (u : ℕ) (e : blocks (length x.assoc) ≡ u) where
    data_call : (d d' i : ℕ) → suc i < u → call_of (assocs p x true d) i ≡ call_of (assocs p x false d') i
    unfolding call_of assocs due
    data_call d d' i h = shadow-call (on_state (last_data (block 32 i x.assoc))) (due p x true (suc i)) (λ m. m) (λ m. not_due p x true (suc i) m (omega arith))

    data_calls : (d d' n i : ℕ) → i + n < u → calls (call_of (assocs p x true d)) i n ≡ calls (call_of (assocs p x false d')) i n
    unfolding calls
    data_calls d d' zero i h = refl
    data_calls d d' (suc n) i h =
        ap₂ (λ (c : Call Machine) (cs : List (Call Machine)). c ∷ cs) (data_call d d' i (omega arith)) (data_calls d d' n (suc i) (omega arith))

  -- the walk's row is theirs
  row_is : (u : ℕ) → blocks (length x.assoc) ≡ u → (t : ℕ) (cs : List (Part Machine))
      → row (seed p x 1 ∷ begin p x true 1 ∷ assocs p x true u ∷ texts p x true t ∷ cs) ≡ row (quiet u ++ writer u t ∷ cs)
  unfolding row quiet part_row calls begin assocs texts writer
  row_is zero e t cs =
      let c : call_of (begin p x true 1) 0 ≡ call_of (writer 0 t) 0 =
      unfold call_of begin writer enters in shadow-call (enters 0 0) (due p x true 0) (written p x 0) (is_due 0 e) in
      ap₂ (λ (c : Call Machine) (ds : List (Call Machine)). part_row (seed p x 1) ++ (c ∷ (ds ++ row cs))) c (texts-calls 0 t t t 0)
  row_is (suc j) e t cs =
      let u = suc j in
      let b : call_of (begin p x true 1) 0 ≡ call_of (begin p x false 1) 0 =
      unfold call_of begin due in shadow-call _ (due p x true 0) (λ m. m) (λ m. not_due p x true 0 m (omega arith)) in
      let c : call_of (assocs p x true u) j ≡ call_of (writer u t) 0 =
      unfold call_of assocs writer enters in shadow-call (enters u 0) (due p x true u) (written p x 0) (is_due u e) in
      let f : ℕ → Call Machine = call_of (assocs p x true u) in
      let a : calls f 0 u ≡ calls (call_of (assocs p x false j)) 0 j ++ call_of (writer u t) 0 ∷ [] =
      ap (calls f 0) (sym (add-one j)) ∙ calls-add f j 1 0
      ∙ ap₂ (λ (ds : List (Call Machine)) (c : Call Machine). ds ++ c ∷ []) (data_calls u e u j j 0 (omega arith)) (ap f (zero-add j) ∙ c) in
      let rest = calls (call_of (writer u t)) 1 t ++ row cs in
      ap₂ (λ (c : Call Machine) (ds : List (Call Machine)). part_row (seed p x 1) ++ (c ∷ (ds ++ (calls (call_of (texts p x true t)) 0 t ++ row cs)))) b a
      ∙ ap (λ (ds : List (Call Machine)). part_row (seed p x 1) ++ (call_of (begin p x false 1) 0 ∷ ((calls (call_of (assocs p x false j)) 0 j ++ call_of (writer u t) 0 ∷ []) ++ (ds ++ row cs)))) (texts-calls u t t t 0)
      ∙ ap (λ (ds : List (Call Machine)). part_row (seed p x 1) ++ (call_of (begin p x false 1) 0 ∷ ds))
      (append_assoc (calls (call_of (assocs p x false j)) 0 j) (call_of (writer u t) 0 ∷ []) rest)

  -- ---- what they write

  -- block i at its place, and nothing else; past the last block nothing
  module _ (i : ℕ) (s o : List ℕ) (h : length o ≡ length x.text) where
    abbrev y : List ℕ
    y = xors s (block 32 i x.text)

    -- it is at most a block, and there is none past the end
    size : length y ≤ min 32 (length x.text - i * 32)
    size = omega (arith, length-xors s (block 32 i x.text), length-block 32 i x.text)

    absent : length x.text < i * 32 → put_at (i * 32) y o ≡ o
    absent k = ap (λ (z : List ℕ). put_at (i * 32) z o) (empty y (omega (arith, size))) ∙ put_at_none (i * 32) o

    writes-before : take (i * 32) (put_at (i * 32) y o) ≡ take (i * 32) o
    writes-before =
        elim (dec_lt (length x.text) (i * 32)) [
          | yes k ↦ ap (take (i * 32)) (absent k)
          | no f ↦ take-put_at-before (i * 32) y o (omega arith)
        ]

    writes-behind : drop (suc i * 32) (put_at (i * 32) y o) ≡ drop (suc i * 32) o
    writes-behind =
        elim (dec_lt (length x.text) (i * 32)) [
          | yes k ↦ ap (drop (suc i * 32)) (absent k)
          | no f ↦ drop-put_at-behind (i * 32) (suc i * 32) y o (omega (arith, size)) (omega (arith, size))
        ]

  writer_enters : (u i : ℕ) (m : Machine) → (enters u i m).out ≡ m.out
  unfolding enters
  writer_enters zero zero m = refl
  writer_enters (suc j) zero m = refl
  writer_enters zero (suc i) m = refl
  writer_enters (suc j) (suc i) m = refl

  writer_writes : (u t : ℕ) → Writes 32 (length x.text) (writer u t)
  unfolding writer written
  writer_writes u t =
      record {
        enter = writer_enters u;
        turn = λ k m. refl;
        before = λ i m h e. writes-before i m.state m.out e;
        behind = λ i m h e. writes-behind i m.state m.out e;
        stays = λ i m h e. length_put_block 32 i m.state x.text m.out e;
      }

  quiet_keeps : (u : ℕ) (o : List ℕ) → KeepsParts (λ (m : Machine). m.out ≡ o) (quiet u)
  unfolding quiet KeepsParts
  quiet_keeps zero o = (seed_out p x (λ z. z ≡ o) 1, tt)
  quiet_keeps (suc j) o =
      let Q : List ℕ → Type 0 = λ z. z ≡ o in
      (seed_out p x Q 1, (begin_out p x Q false (no_writes p x Q) 1, (assocs_out p x Q false (no_writes p x Q) j, tt)))

  -- ---- a row with a walk that writes, between parts that leave the output alone

  module _ (cs ds : List (Part Machine)) (still : (o : List ℕ) → KeepsParts (λ (m : Machine). m.out ≡ o) cs)
      (still' : (o : List ℕ) → KeepsParts (λ (m : Machine). m.out ≡ o) ds) (some : EachSome (shapes ds)) (t : ℕ) where
    abbrev u : ℕ
    u = blocks (length x.assoc)

    abbrev all : List (Part Machine)
    all = cs ++ seed p x 1 ∷ begin p x true 1 ∷ assocs p x true u ∷ texts p x true t ∷ ds

    all_is : row all ≡ row ((cs ++ quiet u) ++ writer u t ∷ ds)
    all_is =
        row-append cs (seed p x 1 ∷ begin p x true 1 ∷ assocs p x true u ∷ texts p x true t ∷ ds)
        ∙ ap (λ (r : List (Call Machine)). row cs ++ r) (row_is u refl t ds)
        ∙ sym (row-append cs (quiet u ++ writer u t ∷ ds))
        ∙ ap row (sym (append_assoc cs (quiet u) (writer u t ∷ ds)))

    -- how many blocks are written k rounds behind the parts before it
    abbrev count : ℕ → ℕ
    count k = min (suc t) ((k - 12 * (1 + u)) / 12)

    done_is_lem : (n k : ℕ) → n ≡ rounds_in (shapes cs) + k → calls_done (cs ++ quiet u) (writer u t) n ≡ count k
    unfolding calls_done writer
    done_is_lem n k e =
        let rounds = ap rounds_in (shapes-append cs (quiet u)) ∙ rounds_in-append (shapes cs) (shapes (quiet u)) in
        let since : n - rounds_in (shapes (cs ++ quiet u)) ≡ k - 12 * (1 + u) = omega (arith, quiet-rounds u) in
        ap (λ (i : ℕ). min (suc t) (i / 12)) since

    row_out : (m : Machine) → length m.out ≡ length x.text → (n k : ℕ) → n ≡ rounds_in (shapes cs) + k
        → (stopped (row all) n m).out ≡ take (count k * 32) (run (row all) m).out ++ drop (count k * 32) m.out
    unfolding EachSome shapes writer
    row_out m fits n k e =
        let at : ℕ → List (Call Machine) → List ℕ = λ i r. take (i * 32) (run r m).out ++ drop (i * 32) m.out in
        ap (λ (r : List (Call Machine)). (stopped r n m).out) all_is
        ∙ out_after 32 (length x.text) (writer u t) (writer_writes u t) (cs ++ quiet u) ds
        (λ o. keeps-parts (λ (m : Machine). m.out ≡ o) cs (quiet u) (still o) (quiet_keeps u o)) still' m fits (lit< tt, some) n
        ∙ ap₂ at (done_is_lem n k e) (sym all_is)

-- one block more than there are changes nothing
past_last : (v q : ℕ) (e o : List ℕ) → length e ≡ length o → length o ≤ v * 32
    → take (min (suc v) q * 32) e ++ drop (min (suc v) q * 32) o ≡ take (min v q * 32) e ++ drop (min v q * 32) o
past_last v q e o h room =
    elim (dec_lt v q) [
      | yes k ↦
          let a : min (suc v) q ≡ suc v = omega arith in
          let b : min v q ≡ v = omega arith in
          ap (λ (i : ℕ). take (i * 32) e ++ drop (i * 32) o) a ∙ all (suc v) (omega arith)
          ∙ sym (ap (λ (i : ℕ). take (i * 32) e ++ drop (i * 32) o) b ∙ all v room)
      | no f ↦
          let same : min (suc v) q ≡ min v q = omega arith in
          ap (λ (i : ℕ). take (i * 32) e ++ drop (i * 32) o) same
    ]
  where
    all : (i : ℕ) → length o ≤ i * 32 → take (i * 32) e ++ drop (i * 32) o ≡ e
    all i k = ap₂ (λ (a b : List ℕ). a ++ b) (take_all (i * 32) e (omega arith)) (drop_of_length-le o {i = i * 32} k) ∙ append-nil e

-- ---- jobs

module _ (p : Cipher) (l : LawfulCipher p) (x : Input) (hn : length x.nonce ≡ 16) (m : Machine) (ready : Ready (s1p_scheme p) x m) where
  abbrev t : ℕ
  t = length x.text

  -- a sealing: after n rounds the first blocks of the ciphertext are written
  pub sealing_out_at : x.sealing ≡ true → (n : ℕ)
      → let w = blocks_written (length x.assoc) (length x.text) n in
      (halted (course p x) n m).out ≡ take (w * 32) (seal p x.key x.nonce x.assoc x.text).cipher ++ drop (w * 32) m.out
  unfolding course sealing_course KeepsParts EachSome shapes rounds_in run row blocks_written seal tagging
  sealing_out_at d n =
      let cipher = (seal p x.key x.nonce x.assoc x.text).cipher in
      let q = (n - 12 * (1 + blocks (length x.assoc))) / 12 in
      let end : (run (row (seal_parts p x)) m).out ≡ cipher =
      ap (λ (b : Bool). (finished (pick b (sealing_course p x) (opening_course p x)) m).out) (sym d) ∙ ap Machine.out (sealing_finished p l x hn m ready d) in
      let long : length cipher ≡ length m.out = length-text_out p l x.key x.nonce x.assoc hn true x.text ∙ sym ready.out in
      ap Machine.out (halted-going (course p x) (lawful p x) m (sealing_accepted p l x hn m ready d) n)
      ∙ ap (λ (b : Bool). (stopped (row (parts (pick b (sealing_course p x) (opening_course p x)))) n m).out) d
      ∙ row_out p x [] (tagging p x ∷ []) (λ o. tt) (λ o. (tagging_out p x (λ z. z ≡ o), tt)) (lit< tt, tt) (blocks t) m ready.out n n (sym (zero-add n))
      ∙ ap (λ (o : List ℕ). take (min (suc (blocks t)) q * 32) o ++ drop (min (suc (blocks t)) q * 32) m.out) end
      ∙ past_last (blocks t) q cipher m.out long (omega (arith, (blocks_are t).0, ready.out))

  -- an opening that accepts: k rounds behind the decision the first blocks of the plaintext are
  pub opening_out_after : x.sealing ≡ false → length m.tag ≡ 16 → accepted (course p x) m ≡ true → 0 < length x.text → (k : ℕ)
      → let w = blocks_written (length x.assoc) (length x.text) k in
      (halted (course p x) (verify_rounds (length x.assoc) (length x.text) + k) m).out
      ≡ take (w * 32) (text_out p false x.key x.nonce x.assoc x.text) ++ drop (w * 32) m.out
  unfolding course opening_course KeepsParts EachSome shapes blocks_written
  opening_out_after d hg e some k =
      let plain = text_out p false x.key x.nonce x.assoc x.text in
      let a = blocks (length x.assoc) in
      let n = verify_rounds (length x.assoc) t + k in
      let f = verify_parts p x in
      let v = blocks t - 1 in
      let all : suc v ≡ blocks t = omega (arith, blocks_some t some) in
      let second : f ++ open_parts p x ≡ f ++ walk p x true 1 a v = two in
      let whole : finished (course p x) m ≡ run (row (f ++ walk p x true 1 a v)) m =
      ap (λ (b : Bool). finished (pick b (sealing_course p x) (opening_course p x)) m) d
      ∙ sym (ap (λ (r : List (Call Machine)). run r m) (row-append f (open_parts p x)) ∙ run-append (row f) (row (open_parts p x)) m)
      ∙ ap (λ (cs : List (Part Machine)). run (row cs) m) second in
      let at : ℕ → List ℕ → List ℕ = λ i o. take (min i ((k - 12 * (1 + a)) / 12) * 32) o ++ drop (min i ((k - 12 * (1 + a)) / 12) * 32) m.out in
      ap Machine.out (halted-going (course p x) (lawful p x) m e n)
      ∙ ap (λ (cs : List (Part Machine)). (stopped (row cs) n m).out) (opening_parts p l x hn m ready d ∙ second)
      ∙ row_out p x f [] (λ o. verify_out p x (λ z. z ≡ o)) (λ o. tt) tt v m ready.out n k
      (ap (λ (i : ℕ). i + k) (sym (opening_rounds p l x hn m ready d)))
      ∙ ap₂ at all (ap Machine.out (sym whole) ∙ opening_finished p l x hn m ready d hg)
    where
      two : verify_parts p x ++ open_parts p x ≡ verify_parts p x ++ walk p x true 1 (blocks (length x.assoc)) (blocks (length x.text) - 1)
      two =
          let a = blocks (length x.assoc) in
          let v = blocks (length x.text) - 1 in
          let o = unless_some t 1 some in
          let p₁ = unless_some t a some in
          let p₂ = unless_some t v some in
          λ i. verify_parts p x ++ walk p x true (o i) (p₁ i) (p₂ i)

  -- so after n rounds: those written since V, none of them before, and none at all of an empty text
  pub opening_out_at : x.sealing ≡ false → length m.tag ≡ 16 → accepted (course p x) m ≡ true → (n : ℕ)
      → let w = blocks_written (length x.assoc) (length x.text) (n - verify_rounds (length x.assoc) (length x.text)) in
      (halted (course p x) n m).out ≡ take (w * 32) (text_out p false x.key x.nonce x.assoc x.text) ++ drop (w * 32) m.out
  unfolding s1p_scheme blocks_written
  opening_out_at d hg e n =
      let s = s1p_scheme p in
      let laws = lawful_s1p p l in
      let a = length x.assoc in
      let all = verify_rounds a t in
      let plain = text_out p false x.key x.nonce x.assoc x.text in
      let at : ℕ → List ℕ = λ w. take (w * 32) plain ++ drop (w * 32) m.out in
      elim (dec_lt all n) [
        | yes y ↦
            elim (dec_lt 0 t) [
              | yes some ↦
                  let since : n ≡ all + (n - all) = omega arith in
                  ap (λ (i : ℕ). (halted (course p x) i m).out) since ∙ opening_out_after d hg e some (n - all)
              | no none ↦
                  let w : 0 ≡ blocks_written a t (n - all) = omega (arith, (blocks_are t).1) in
                  empty (halted (course p x) n m).out (out_long_lem s laws x n m ready.out ∙ omega arith)
                  ∙ sym (empty m.out (ready.out ∙ omega arith)) ∙ ap at w
            ]
        | no f ↦
            let w : 0 ≡ blocks_written a t (n - all) = omega arith in
            untouched_before s laws x d m n (omega (arith, front-rounds p x)) ∙ ap at w
      ]
