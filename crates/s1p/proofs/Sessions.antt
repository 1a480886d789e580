-- The session bytes, the tag and the state within a Clyde call, of a job stopped after any number of rounds. From the closing call's first
-- round to its last the session bytes are Shadow's last state; they stay in a job that ends there, and are zero before it and with the
-- round after it. Within a Clyde call the state is Clyde's 16 bytes, then 48 zeros. A sealing's tag is made with its last round.
-- Assumes nothing.
use Rattle.std.specs.Prelude.{◌≡◌, Bool, ℕ, zero, suc, ◌-◌, ◌≤◌, ◌<◌, eqb, take}
use Rattle.std.proofs.Math.Path.{refl, sym, ap}
use Rattle.std.proofs.Common.{◌∙◌, take_at}
use Rattle.std.proofs.Math.Bool.{true, false}
use mathlib.Core.List.{List, [], ◌∷◌, ◌++◌}
use native.Mathlib.Omega.{arith}
use Rattle.std.proofs.Math.ListN.{length, drop, replicate, length-replicate}
use Rattle.bits.specs.Pick.{pick}
use Rattle.bits.specs.Put.{put, put_front}
use Rattle.stopping.specs.Stopped.{stopped}
use Rattle.stopping.specs.Rows.{run}
use Rattle.stopping.specs.Parts.{Part, rounds_in, EachSome, row, shapes}
use Rattle.stopping.specs.Kept.{KeepsPart, KeepsParts, keeps-parts}
use Rattle.stopping.specs.Course.{parts, accepted, lasts, halted, front_rounds}
use Rattle.stopping.specs.Halts.{halted-front, halted_decided, keeps-halted}
use Rattle.stopping.specs.Since.{since_first, until_last, until_parts, halted-going}
use Rattle.scheme.specs.Machine.{Machine, Input, machine, with_tails}
use Rattle.scheme.specs.Blind.{blind-run}
use Rattle.scheme.specs.Lawful.{Ready}
use Rattle.s1p.specs.Cipher.{Cipher, LawfulCipher}
use Rattle.s1p.specs.Paper.{blocks, text_out, last_state}
use Rattle.s1p.specs.Parts.{unless_empty, written, due, next, seeded, seed, begin, assocs, texts, walk, set_aside, tagged, tagging, verifying, verify_parts, sealing_course, opening_course, course}
use Rattle.s1p.specs.Counts.{verify_rounds, unless_some}
use Rattle.s1p.proofs.Counts.{front-rounds, lawful}
use Rattle.s1p.specs.Scheme.{s1p_scheme}
use Rattle.s1p.proofs.Evenly.{length-last_state}
use Rattle.s1p.proofs.Ends.{seal-walk, verify_walk}
use Rattle.s1p.proofs.Tails.{walk-blind}
use Rattle.s1p.proofs.Theorems.{fore, fore-exact, split}
use Rattle.s1p.specs.Between.{close_after, close_last}

-- ---- what each part touches besides state and output

module _ (p : Cipher) (x : Input) where
  -- all of a walk but the seed
  abbrev pub unseeded : (w : Bool) (n d t : ℕ) → List (Part Machine)
  unseeded w n d t = begin p x w n ∷ assocs p x w d ∷ texts p x w t ∷ []

  -- what is written leaves session bytes and tag
  module _ (P : (session tag : List ℕ) → Type 0) where
    abbrev Q : Machine → Type 0
    Q m = P m.session m.tag

    due-quiet : (w : Bool) (j : ℕ) (m : Machine) → Q m → Q (due p x w j m)
    unfolding due written
    due-quiet w j m q = go w (eqb j (blocks (length x.assoc)))
      where
        go : (w b : Bool) → Q (pick w (pick b (written p x 0 m) m) m)
        go true true = q
        go true false = q
        go false b = q

    next-quiet : (w : Bool) (i : ℕ) (m : Machine) → Q m → Q (next p x w i m)
    unfolding next written
    next-quiet true i m q = q
    next-quiet false i m q = q

    begin-quiet : (w : Bool) (n : ℕ) → KeepsPart Q (begin p x w n)
    unfolding begin
    begin-quiet w n = record { enter = λ i m q. q; turn = λ k m q. q; leave = λ i m q. due-quiet w 0 m q }

    assocs-quiet : (w : Bool) (n : ℕ) → KeepsPart Q (assocs p x w n)
    unfolding assocs
    assocs-quiet w n = record { enter = λ i m q. q; turn = λ k m q. q; leave = λ i m q. due-quiet w (suc i) m q }

    texts-quiet : (w : Bool) (n : ℕ) → KeepsPart Q (texts p x w n)
    unfolding texts
    texts-quiet w n = record { enter = λ i m q. q; turn = λ k m q. q; leave = λ i m q. next-quiet w i m q }

    unseeded-quiet : (w : Bool) (n d t : ℕ) → KeepsParts Q (unseeded w n d t)
    unfolding KeepsParts
    unseeded-quiet w n d t = (begin-quiet w n, (assocs-quiet w d, (texts-quiet w t, tt)))

    -- and the seed clears the session bytes
    walk-quiet : (w : Bool) (n d t : ℕ) → ((session tag : List ℕ) → P session tag → P (put (replicate 64 0) session) tag) → KeepsParts Q (walk p x w n d t)
    unfolding KeepsParts seed seeded
    walk-quiet w n d t clears =
        (record { enter = λ i m q. clears m.session m.tag q; turn = λ k m q. q; leave = λ i m q. q }, unseeded-quiet w n d t)

  -- ---- the rounds before the decision: a walk, and the closing call

  abbrev pub u : ℕ
  u = blocks (length x.assoc)

  abbrev pub v : ℕ
  v = blocks (length x.text)

  abbrev pub before : List (Part Machine)
  before = walk p x x.sealing 1 u v

  unfoldable pub closing : Bool → Part Machine
  closing sealing = pick sealing (tagging p x) (verifying p x)

  pub front_is_lem : (course p x).front ≡ walk p x x.sealing 1 u v ++ closing x.sealing ∷ []
  unfolding course sealing_course opening_course closing
  front_is_lem = go x.sealing
    where
      go : (b : Bool) → (pick b (sealing_course p x) (opening_course p x)).front ≡ walk p x b 1 u v ++ pick b (tagging p x) (verifying p x) ∷ []
      go true = refl
      go false = refl

  pub before-rounds : rounds_in (shapes before) ≡ close_after (length x.assoc) (length x.text)
  unfolding rounds_in shapes seed begin assocs texts close_after
  before-rounds = omega arith

  pub closing_one : (b : Bool) → (closing b).shape.count ≡ 1
  unfolding closing tagging verifying
  closing_one true = refl
  closing_one false = refl

  pub closing_some : (b : Bool) → (closing b).shape.rounds ≡ 12
  unfolding closing tagging verifying
  closing_some true = refl
  closing_some false = refl

  -- it begins with U, or with the received tag
  pub closing_enter : (b : Bool) (m : Machine) → (closing b).enter 0 m ≡ set_aside p x (take 16 (pick b m.state m.tag)) m
  unfolding closing tagging verifying
  closing_enter true m = refl
  closing_enter false m = refl

  closing_turn : (b : Bool) (k : ℕ) (m : Machine) → ((closing b).turn k m).session ≡ m.session
  unfolding closing tagging verifying
  closing_turn true k m = refl
  closing_turn false k m = refl

  closing_leave : (b : Bool) (m : Machine) → ((closing b).leave 0 m).session ≡ m.session
  unfolding closing tagging tagged verifying
  closing_leave true m = refl
  closing_leave false m = refl

  -- a job up to the decision
  pub early : (m : Machine) (n : ℕ) → n ≤ verify_rounds (length x.assoc) (length x.text)
      → halted (course p x) n m ≡ stopped (row (before ++ closing x.sealing ∷ [])) n m
  early m n h =
      halted-front (course p x) (lawful p x) m n (omega (arith, front-rounds p x))
      ∙ ap (λ (cs : List (Part Machine)). stopped (row cs) n m) front_is_lem

-- ---- the tag

module _ (p : Cipher) (x : Input) (m : Machine) where
  abbrev Kept : Machine → Type 0
  Kept q = q.tag ≡ m.tag

  closing_tag : (b : Bool) (q : Machine) → ((closing p x b).enter 0 q).tag ≡ q.tag
  unfolding closing tagging verifying set_aside
  closing_tag true q = refl
  closing_tag false q = refl

  closing_turn_tag : (b : Bool) (k : ℕ) (q : Machine) → ((closing p x b).turn k q).tag ≡ q.tag
  unfolding closing tagging verifying
  closing_turn_tag true k q = refl
  closing_turn_tag false k q = refl

  -- before the round of the decision it is as it was
  pub tag_before : (n : ℕ) → n < verify_rounds (length x.assoc) (length x.text) → (halted (course p x) n m).tag ≡ m.tag
  unfolding EachSome shapes
  tag_before n h =
      let b = x.sealing in
      let twelve = closing_some p x b in
      let some : 0 < (closing p x b).shape.rounds = omega arith in
      ap Machine.tag (early p x m n (omega arith))
      ∙ until_last Kept (before p x) (closing p x b) [] (closing_one p x b) (some, tt)
      (walk-quiet p x (λ (s g : List ℕ). g ≡ m.tag) b 1 (u p x) (v p x) (λ s g q. q))
      (λ q e. closing_tag b q ∙ e) (λ k q e. closing_turn_tag b k q ∙ e) m refl n
      (omega (arith, before-rounds p x, close_last (length x.assoc) (length x.text)))

  -- an opening leaves it
  pub tag_opening : x.sealing ≡ false → (n : ℕ) → (halted (course p x) n m).tag ≡ m.tag
  unfolding course opening_course KeepsParts verifying set_aside
  tag_opening d n =
      ap (λ (b : Bool). (halted (pick b (sealing_course p x) (opening_course p x)) n m).tag) d
      ∙ keeps-halted Kept (opening_course p x)
      (keeps-parts Kept (walk p x false 1 (u p x) (v p x)) (verifying p x ∷ [])
      (walk-quiet p x (λ (s g : List ℕ). g ≡ m.tag) false 1 (u p x) (v p x) (λ s g q. q))
      (record { enter = λ i q e. e; turn = λ k q e. e; leave = λ i q e. e }, tt))
      (walk-quiet p x (λ (s g : List ℕ). g ≡ m.tag) true _ _ _ (λ s g q. q)) n m refl

-- ---- zeros stay zeros

alike : (z i j : ℕ) → i ≤ j → replicate i z ++ drop i (replicate j z) ≡ replicate j z
alike z zero j h = refl
alike z (suc i) zero h = absurd (omega arith)
alike z (suc i) (suc j) h = ap (λ (s : List ℕ). z ∷ s) (alike z i j (omega arith))

cleared : (k : ℕ) → 64 ≤ k → put (replicate 64 0) (replicate k 0) ≡ replicate k 0
unfolding put
cleared k h = ap (λ (i : ℕ). replicate 64 0 ++ drop i (replicate k 0)) (length-replicate {A = ℕ} 64 0) ∙ alike 0 64 k h

module _ (p : Cipher) (l : LawfulCipher p) (x : Input) (hn : length x.nonce ≡ 16) (m : Machine) (ready : Ready (s1p_scheme p) x m) where
  -- ---- the record before the closing call

  -- Shadow's last state
  abbrev last : List ℕ
  last = last_state p x.sealing x.key x.nonce x.assoc x.text

  length_last : length last ≡ 64
  length_last = length-last_state p l x.key x.nonce x.assoc hn x.sealing x.text

  abbrev foremost : Machine
  foremost = fore p l x hn m ready

  -- the output by then
  abbrev written_by : List ℕ
  written_by = pick x.sealing (text_out p true x.key x.nonce x.assoc x.text) m.out

  walked : (b : Bool) → x.sealing ≡ b
      → run (row (walk p x b 1 (u p x) (v p x))) foremost
      ≡ machine (last_state p b x.key x.nonce x.assoc x.text) (replicate 64 0)
      (pick b (text_out p true x.key x.nonce x.assoc x.text) m.out) m.tag
  walked true d = seal-walk p l x hn foremost (fore-exact p l x hn m ready) d ready.out
  walked false d = verify_walk p l x hn foremost (fore-exact p l x hn m ready) d

  abbrev pub walked_to : Machine
  walked_to = machine (last ++ drop 64 m.state) (replicate 64 0 ++ drop 64 m.session) written_by m.tag

  pub reached : run (row (before p x)) m ≡ walked_to
  reached =
      ap (run (row (before p x))) (split p l x hn m ready)
      ∙ (blind-run 64 (before p x) (walk-blind p l x hn x.sealing 1 (u p x) (v p x))).apart (drop 64 m.state) (drop 64 m.session) foremost (fore-exact p l x hn m ready)
      ∙ ap (with_tails (drop 64 m.state) (drop 64 m.session)) (walked x.sealing refl)

  -- what its first round meets
  pub entered : (closing p x x.sealing).enter 0 (run (row (before p x)) m)
      ≡ set_aside p x (take 16 (pick x.sealing (last ++ drop 64 m.state) m.tag)) walked_to
  entered = ap ((closing p x x.sealing).enter 0) reached ∙ closing_enter p x x.sealing walked_to

  pub entered_session : ((closing p x x.sealing).enter 0 (run (row (before p x)) m)).session ≡ last ++ drop 64 m.session
  unfolding set_aside
  entered_session =
      ap Machine.session entered
      ∙ ap (λ (s : List ℕ). put s (replicate 64 0 ++ drop 64 m.session)) (take_at last (drop 64 m.state) 64 length_last)
      ∙ put_front last (replicate 64 0) (drop 64 m.session) (length_last ∙ sym (length-replicate {A = ℕ} 64 0))

  -- ---- the session bytes

  abbrev close : ℕ
  close = close_after (length x.assoc) (length x.text)

  abbrev all : ℕ
  all = verify_rounds (length x.assoc) (length x.text)

  -- before the closing call
  pub session_before : (k : ℕ) → m.session ≡ replicate k 0 → (n : ℕ) → n ≤ close_after (length x.assoc) (length x.text)
      → (halted (course p x) n m).session ≡ replicate k 0
  unfolding EachSome shapes s1p_scheme
  session_before k e n h =
      let c = closing p x x.sealing in
      let some : 0 < c.shape.rounds = omega (arith, closing_some p x x.sealing) in
      let room : 64 ≤ k = omega (arith, ready.session, ap length e ∙ length-replicate k 0) in
      ap Machine.session (early p x m n (omega (arith, close_last (length x.assoc) (length x.text))))
      ∙ until_parts (λ (q : Machine). q.session ≡ replicate k 0) (before p x) (c ∷ []) (some, tt)
      (walk-quiet p x (λ (s g : List ℕ). s ≡ replicate k 0) x.sealing 1 (u p x) (v p x) (λ s g q. ap (put (replicate 64 0)) q ∙ cleared k room))
      m e n (omega (arith, before-rounds p x))

  -- from its first round through its last
  pub session_closing : (n : ℕ) → close_after (length x.assoc) (length x.text) < n → n ≤ verify_rounds (length x.assoc) (length x.text)
      → (halted (course p x) n m).session ≡ last_state p x.sealing x.key x.nonce x.assoc x.text ++ drop 64 m.session
  unfolding KeepsParts
  session_closing n f h =
      let b = x.sealing in
      ap Machine.session (early p x m n h)
      ∙ since_first (λ (q : Machine). q.session ≡ last ++ drop 64 m.session) (before p x) (closing p x b) [] (closing_one p x b)
      (λ k q e. closing_turn p x b k q ∙ e) (λ q e. closing_leave p x b q ∙ e) tt m entered_session n (omega (arith, before-rounds p x))

  -- they stay in a job that ends there
  pub session_ended : lasts (course p x) m ≡ verify_rounds (length x.assoc) (length x.text)
      → (n : ℕ) → verify_rounds (length x.assoc) (length x.text) ≤ n
      → (halted (course p x) n m).session ≡ last_state p x.sealing x.key x.nonce x.assoc x.text ++ drop 64 m.session
  unfolding halted
  session_ended e n h =
      ap (λ (k : ℕ). (stopped (row (parts (course p x))) k m).session) (omega arith)
      ∙ session_closing all (omega (arith, close_last (length x.assoc) (length x.text))) (omega arith)

  -- ---- and behind the decision

  module _ (d : x.sealing ≡ false) where
    abbrev some_of : ℕ → ℕ
    some_of k = unless_empty (length x.text) k

    -- the second walk
    abbrev second : List (Part Machine)
    second = seed p x (some_of 1) ∷ unseeded p x true (some_of 1) (some_of (u p x)) (some_of (v p x - 1))

    pub opening_front : (course p x).front ≡ verify_parts p x
    unfolding course opening_course
    opening_front = ap (λ (b : Bool). (pick b (sealing_course p x) (opening_course p x)).front) d

    pub opening_parts : parts (course p x) ≡ verify_parts p x ++ second
    unfolding course opening_course
    opening_parts = ap (λ (b : Bool). parts (pick b (sealing_course p x) (opening_course p x))) d

    pub opening_rounds : rounds_in (shapes (verify_parts p x)) ≡ all
    unfolding front_rounds
    opening_rounds = ap (λ (cs : List (Part Machine)). rounds_in (shapes cs)) (sym opening_front) ∙ front-rounds p x

    decided_session : (run (row (verify_parts p x)) m).session ≡ last ++ drop 64 m.session
    decided_session =
        ap (λ (cs : List (Part Machine)). (run (row cs) m).session) (sym opening_front)
        ∙ ap Machine.session (sym (halted_decided (course p x) (lawful p x) m))
        ∙ ap (λ (n : ℕ). (halted (course p x) n m).session) (front-rounds p x)
        ∙ session_closing all (omega (arith, close_last (length x.assoc) (length x.text))) (omega arith)

    module _ (e : accepted (course p x) m ≡ true) (some : 0 < length x.text) where
      one_seed : some_of 1 ≡ 1
      one_seed = unless_some (length x.text) 1 some

      -- the session bytes are zero again with the round after it
      pub session_after : (n : ℕ) → verify_rounds (length x.assoc) (length x.text) < n
          → (halted (course p x) n m).session ≡ replicate 64 0 ++ drop 64 m.session
      unfolding seed seeded
      session_after n h =
          ap Machine.session
          (halted-going (course p x) (lawful p x) m e n ∙ ap (λ (cs : List (Part Machine)). stopped (row cs) n m) opening_parts)
          ∙ since_first (λ (q : Machine). q.session ≡ replicate 64 0 ++ drop 64 m.session) (verify_parts p x) (seed p x (some_of 1))
          (unseeded p x true (some_of 1) (some_of (u p x)) (some_of (v p x - 1))) one_seed (λ k q f. f) (λ q f. f)
          (unseeded-quiet p x (λ (s g : List ℕ). s ≡ replicate 64 0 ++ drop 64 m.session) true (some_of 1) (some_of (u p x)) (some_of (v p x - 1)))
          m (ap (put (replicate 64 0)) decided_session ∙ put_front (replicate 64 0) last (drop 64 m.session) (length-replicate {A = ℕ} 64 0 ∙ sym length_last))
          n (omega (arith, opening_rounds))
