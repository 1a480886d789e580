-- The states that Algorithms 3 and 4 name: S_0 behind Shadow's start, S_λ behind the data, S_{λ+ℓ} behind the text. A job stopped with the
-- last round of the call that gives one of them has that state, and nothing of the next call in it: marks, padding, blocks and the closing
-- call go with the round after. An opening's second walk comes by the first two again.
-- Assumes nothing.
use Rattle.std.specs.Prelude.{◌≡◌, Bool, ℕ, ◌+◌, ◌-◌, ◌*◌, ◌≤◌, ◌<◌, eqb, length, drop}
use Rattle.std.proofs.Math.Path.{refl, sym, ap}
use Rattle.std.proofs.Common.{ap₂, ◌∙◌, arith, lit<}
use Rattle.std.proofs.Math.Bool.{true, false}
use mathlib.Core.List.{List, [], ◌∷◌, ◌++◌}
use Rattle.bits.specs.Pick.{pick}
use Rattle.stopping.specs.Stopped.{stopped}
use Rattle.stopping.specs.Rows.{run, stopped-back}
use Rattle.stopping.specs.Parts.{Part, rounds_in, EachSome, row, shapes, row-append, total-row}
use Rattle.stopping.specs.Course.{accepted, halted}
use Rattle.stopping.specs.Since.{stopped_over, stopped-parts, halted-going}
use Rattle.scheme.specs.Machine.{Machine, Input, machine, with_tails, Exact}
use Rattle.scheme.specs.Blind.{BlindParts, blind-run}
use Rattle.scheme.specs.Lawful.{Ready}
use Rattle.s1p.specs.Cipher.{Cipher, LawfulCipher, decrypt}
use Rattle.s1p.specs.Paper.{blocks, parsed, start, absorb, last_state, closing_tweak}
use Rattle.s1p.specs.Parts.{written, due, seed, begin, assocs, texts, walk, verify_parts, course}
use Rattle.s1p.specs.Counts.{verify_rounds, unless_some}
use Rattle.s1p.proofs.Counts.{lawful}
use Rattle.s1p.specs.Scheme.{s1p_scheme}
use Rattle.s1p.proofs.Laws.{length-decrypt}
use Rattle.s1p.proofs.Evenly.{behind_is, length-last_state}
use Rattle.s1p.proofs.Calls.{and_then, done}
use Rattle.s1p.specs.Walks.{zero64, clyde_state}
use Rattle.s1p.proofs.Walks.{length-clyde_state, r_seed, r_begin, r_data}
use Rattle.s1p.proofs.Tails.{walk-blind}
use Rattle.s1p.proofs.Theorems.{fore, fore-exact, split, opening_verified}
use Rattle.s1p.specs.Between.{close_after, close_last}
use Rattle.s1p.proofs.Sessions.{u, v, before, closing, closing_some, early, before-rounds, reached, opening_front, opening_parts, opening_rounds}

-- where the first parts end
at_parts : (bs ds : List (Part Machine)) → EachSome (shapes ds) → (n : ℕ) → n ≡ rounds_in (shapes bs) → (m : Machine)
    → stopped (row (bs ++ ds)) n m ≡ run (row bs) m
at_parts bs ds some n e m = stopped-parts bs ds some n m (omega arith) ∙ stopped_over (row bs) n m (omega (arith, total-row bs))

-- the same behind other parts
behind-parts : (cs bs ds : List (Part Machine)) → EachSome (shapes ds) → (k : ℕ) → k ≡ rounds_in (shapes bs) → (m : Machine)
    → stopped (row (cs ++ (bs ++ ds))) (rounds_in (shapes cs) + k) m ≡ run (row bs) (run (row cs) m)
behind-parts cs bs ds some k e m =
    ap₂ (λ calls n. stopped calls (n + k) m) (row-append cs (bs ++ ds)) (sym (total-row cs))
    ∙ stopped-back (row cs) (row (bs ++ ds)) k m ∙ at_parts bs ds some k e (run (row cs) m)

module _ (p : Cipher) (l : LawfulCipher p) (x : Input) (hn : length x.nonce ≡ 16) where
  abbrev S0 : List ℕ
  S0 = start p x.key x.nonce

  abbrev Sλ : List ℕ
  Sλ = absorb p (parsed x.assoc) (start p x.key x.nonce)

  due_state : (w : Bool) (j : ℕ) (m : Machine) → (due p x w j m).state ≡ m.state
  unfolding due written
  due_state w j m = go w (eqb j (blocks (length x.assoc)))
    where
      go : (w b : Bool) → (pick w (pick b (written p x 0 m) m) m).state ≡ m.state
      go true true = refl
      go true false = refl
      go false b = refl

  -- ---- the first parts of a walk, of so many rounds, and the state that they leave

  record First (parts : Bool → List (Part Machine)) (n : ℕ) (s : List ℕ) : Type 0 where
    blind : (w : Bool) → BlindParts 64 (parts w)
    long : (w : Bool) → n ≡ rounds_in (shapes (parts w))
    leaves : (w : Bool) (m : Machine) → Exact 64 m → (run (row (parts w)) m).state ≡ s

  abbrev starting : Bool → List (Part Machine)
  starting w = seed p x 1 ∷ begin p x w 1 ∷ []

  abbrev absorbing : Bool → List (Part Machine)
  absorbing w = seed p x 1 ∷ begin p x w 1 ∷ assocs p x w (u p x) ∷ []

  first_starting : First starting 24 S0
  unfolding BlindParts rounds_in shapes seed begin
  first_starting =
      record {
        blind = λ w. let b = walk-blind p l x hn w 1 (u p x) (v p x) in (b.0, (b.1.0, tt));
        long = λ w. refl;
        leaves = λ w m e.
            ap Machine.state
            (and_then (seed p x 1) (begin p x w 1 ∷ []) m (r_seed p l x hn m e)
            (and_then (begin p x w 1) [] _ (r_begin p l x hn w zero64 m.out m.tag) (done _)))
            ∙ due_state w 0 _;
      }

  first_absorbing : First absorbing (24 + 12 * u p x) Sλ
  unfolding BlindParts rounds_in shapes seed begin assocs
  first_absorbing =
      record {
        blind = λ w. let b = walk-blind p l x hn w 1 (u p x) (v p x) in (b.0, (b.1.0, (b.1.1.0, tt)));
        long = λ w. omega arith;
        leaves = λ w m e.
            ap Machine.state
            (and_then (seed p x 1) (begin p x w 1 ∷ assocs p x w (u p x) ∷ []) m (r_seed p l x hn m e)
            (and_then (begin p x w 1) (assocs p x w (u p x) ∷ []) _ (r_begin p l x hn w zero64 m.out m.tag)
            (and_then (assocs p x w (u p x)) [] _ (r_data p l x hn w zero64 m.out m.tag) (done _))))
            ∙ due_state w (u p x) _ ∙ sym (behind_is p l x.key x.nonce x.assoc hn);
      }

  -- with what lies beyond the 64 bytes
  tails_left : {bs : Bool → List (Part Machine)} {n : ℕ} {s : List ℕ} → First bs n s → (w : Bool) (t r : List ℕ) (m : Machine) → Exact 64 m
      → (run (row (bs w)) (with_tails t r m)).state ≡ s ++ t
  tails_left {bs} f w t r m e =
      ap Machine.state ((blind-run 64 (bs w) (f.blind w)).apart t r m e) ∙ ap (λ (s : List ℕ). s ++ t) (f.leaves w m e)

  module _ (m : Machine) (ready : Ready (s1p_scheme p) x m) where
    abbrev t : List ℕ
    t = drop 64 m.state

    abbrev r : List ℕ
    r = drop 64 m.session

    -- ---- the first walk, of either direction

    closing_each : EachSome (shapes (closing p x x.sealing ∷ []))
    unfolding EachSome shapes
    closing_each = (omega (arith, closing_some p x x.sealing), tt)

    -- first parts, and the others after them
    at_first : {bs : Bool → List (Part Machine)} {n : ℕ} {s : List ℕ} → First bs n s → (ds : List (Part Machine)) → EachSome (shapes ds)
        → before p x ++ closing p x x.sealing ∷ [] ≡ bs x.sealing ++ ds → n ≤ verify_rounds (length x.assoc) (length x.text)
        → (halted (course p x) n m).state ≡ s ++ t
    at_first {bs} {n} f ds some is h =
        let b = x.sealing in
        ap Machine.state
        (early p x m n h
        ∙ ap (λ (cs : List (Part Machine)). stopped (row cs) n m) is
        ∙ at_parts (bs b) ds some n (f.long b) m
        ∙ ap (run (row (bs b))) (split p l x hn m ready))
        ∙ tails_left f b t r (fore p l x hn m ready) (fore-exact p l x hn m ready)

    -- after 24 rounds
    pub state_started : (halted (course p x) 24 m).state ≡ start p x.key x.nonce ++ drop 64 m.state
    unfolding EachSome shapes assocs texts verify_rounds
    state_started =
        let b = x.sealing in
        at_first first_starting (assocs p x b (u p x) ∷ texts p x b (v p x) ∷ closing p x b ∷ []) (lit< tt, (lit< tt, closing_each)) refl (omega arith)

    -- after 24 + 12 u
    pub state_absorbed : (halted (course p x) (24 + 12 * blocks (length x.assoc)) m).state
        ≡ absorb p (parsed x.assoc) (start p x.key x.nonce) ++ drop 64 m.state
    unfolding EachSome shapes texts verify_rounds
    state_absorbed =
        let b = x.sealing in
        at_first first_absorbing (texts p x b (v p x) ∷ closing p x b ∷ []) (lit< tt, closing_each) refl (omega arith)

    -- before the closing call
    pub state_walked : (halted (course p x) (close_after (length x.assoc) (length x.text)) m).state
        ≡ last_state p x.sealing x.key x.nonce x.assoc x.text ++ drop 64 m.state
    state_walked =
        let n = close_after (length x.assoc) (length x.text) in
        ap Machine.state
        (early p x m n (omega (arith, close_last (length x.assoc) (length x.text)))
        ∙ at_parts (before p x) (closing p x x.sealing ∷ []) closing_each n (sym (before-rounds p x)) m
        ∙ reached p l x hn m ready)

    -- ---- an opening's second walk

    module _ (d : x.sealing ≡ false) (hg : length m.tag ≡ 16) (e : accepted (course p x) m ≡ true) (some : 0 < length x.text) where
      abbrev inverse : List ℕ
      inverse = decrypt p x.key (closing_tweak (last_state p false x.key x.nonce x.assoc x.text)) m.tag

      -- the record at the decision
      decided : Machine
      decided = machine (clyde_state inverse) (last_state p false x.key x.nonce x.assoc x.text) m.out m.tag

      decided_exact : Exact 64 decided
      unfolding decided
      decided_exact =
          record {
            state = length-clyde_state inverse (length-decrypt p l x.key _ m.tag hg);
            session = length-last_state p l x.key x.nonce x.assoc hn false x.text;
          }

      verified : run (row (verify_parts p x)) m ≡ with_tails t r decided
      unfolding decided
      verified =
          ap (λ (cs : List (Part Machine)). run (row cs) m) (sym (opening_front p l x hn m ready d))
          ∙ opening_verified p l x hn m ready d hg

      -- of a text there is all of the second walk
      again : {bs : Bool → List (Part Machine)} {n : ℕ} {s : List ℕ} → First bs n s → (ds : List (Part Machine)) → EachSome (shapes ds)
          → walk p x true 1 (u p x) (v p x - 1) ≡ bs true ++ ds
          → (halted (course p x) (verify_rounds (length x.assoc) (length x.text) + n) m).state ≡ s ++ t
      again {bs} {n} f ds each is =
          let w = length x.text in
          let e1 = unless_some w 1 some in
          let eu = unless_some w (u p x) some in
          let ev = unless_some w (v p x - 1) some in
          let at : verify_rounds (length x.assoc) w + n ≡ rounds_in (shapes (verify_parts p x)) + n = omega (arith, opening_rounds p l x hn m ready d) in
          ap Machine.state
          (halted-going (course p x) (lawful p x) m e _
          ∙ ap₂ (λ cs i. stopped (row cs) i m) (opening_parts p l x hn m ready d) at
          ∙ (λ i. stopped (row (verify_parts p x ++ walk p x true (e1 i) (eu i) (ev i))) (rounds_in (shapes (verify_parts p x)) + n) m)
          ∙ ap (λ (cs : List (Part Machine)). stopped (row (verify_parts p x ++ cs)) (rounds_in (shapes (verify_parts p x)) + n) m) is
          ∙ behind-parts (verify_parts p x) (bs true) ds each n (f.long true) m
          ∙ ap (run (row (bs true))) verified)
          ∙ tails_left f true t r decided decided_exact

      pub state_started_again : (halted (course p x) (verify_rounds (length x.assoc) (length x.text) + 24) m).state
          ≡ start p x.key x.nonce ++ drop 64 m.state
      unfolding EachSome shapes assocs texts
      state_started_again =
          again first_starting (assocs p x true (u p x) ∷ texts p x true (v p x - 1) ∷ []) (lit< tt, (lit< tt, tt)) refl

      pub state_absorbed_again : (halted (course p x) (verify_rounds (length x.assoc) (length x.text) + (24 + 12 * blocks (length x.assoc))) m).state
          ≡ absorb p (parsed x.assoc) (start p x.key x.nonce) ++ drop 64 m.state
      unfolding EachSome shapes texts
      state_absorbed_again = again first_absorbing (texts p x true (v p x - 1) ∷ []) (lit< tt, tt) refl
