-- The state within a Clyde call, of a job stopped after any number of its rounds: Clyde's 16 bytes, then 48 zeros; of the seed, in either
-- walk, and of the closing call.
-- Assumes nothing.
use Rattle.std.specs.Prelude.{◌≡◌, replicate}
use Rattle.std.proofs.Math.Path.{refl, sym, ap, ap₂}
use Rattle.std.proofs.Common.{◌∙◌, zero-add, lit<, take_all}
use Rattle.std.proofs.Math.Bool.{Bool, true, false}
use mathlib.Core.List.{List, [], ◌∷◌, ◌++◌, append_assoc}
use Prim.Native.Nat.{ℕ, suc, ◌+◌, ◌-◌, ◌≤◌, ◌<◌}
use Rattle.std.proofs.Math.Decide.{dec_lt}
use native.Mathlib.Omega.{arith}
use Rattle.std.proofs.Math.ListN.{length, take, drop}
use Rattle.std.proofs.Math.Seq.{drop_at, take-append-le, length-take-le}
use Rattle.bits.specs.Pick.{pick}
use Rattle.bits.specs.Run.{turns, front, Keeps}
use Rattle.bits.specs.Put.{put, put_front}
use Rattle.stopping.specs.Stopped.{Call, stopped, broken, whole, stopped-short, stopped_past, stopped_zero}
use Rattle.stopping.specs.Rows.{run, calls, stopped-back}
use Rattle.stopping.specs.Parts.{Part, rounds_in, EachSome, call_of, part_row, row, shapes, row-append, total-row, some_row}
use Rattle.stopping.specs.Course.{accepted, halted}
use Rattle.stopping.specs.Since.{halted-going}
use Rattle.scheme.specs.Machine.{Machine, Input}
use Rattle.scheme.specs.Lawful.{Ready}
use Rattle.s1p.specs.Cipher.{Cipher, LawfulCipher, decrypt}
use Rattle.s1p.specs.Paper.{last_state, required, closing_tweak}
use Rattle.s1p.specs.Parts.{unless_empty, seeded, seed, begin, assocs, texts, set_aside, tagged, tagging, verifying, verify_parts, opening_course, course}
use Rattle.s1p.specs.Counts.{verify_rounds, unless_some}
use Rattle.s1p.proofs.Counts.{lawful}
use Rattle.s1p.specs.Scheme.{s1p_scheme}
use Rattle.s1p.proofs.Laws.{turns-front, length-decrypt}
use Rattle.s1p.proofs.Evenly.{length-last_state}
use Rattle.s1p.proofs.Calls.{turns_on}
use Rattle.s1p.specs.Walks.{clyde_state}
use Rattle.s1p.proofs.Walks.{length-clyde_state}
use Rattle.s1p.proofs.Tails.{closing_tweak-within}
use Rattle.s1p.proofs.Theorems.{opening_verified}
use Rattle.s1p.specs.Between.{close_after, close_last}
use Rattle.s1p.proofs.Sessions.{unseeded, u, v, before, closing, closing_one, closing_some, early, before-rounds, walked_to, entered, entered_session, opening_front, opening_parts, opening_rounds}

-- ---- a part of one call, behind the parts bs: its state after some of its rounds, or all

module _ (bs : List (Part Machine)) (c : Part Machine) (ds : List (Part Machine)) (single : c.shape.count ≡ 1) (some : EachSome (shapes ds))
    (still : (q : Machine) → (c.leave 0 q).state ≡ q.state) (m : Machine) where
  call_state : (k : ℕ) → suc k ≤ c.shape.rounds → (q : Machine)
      → (stopped (call_of c 0 ∷ row ds) (suc k) q).state ≡ (turns c.turn (suc k) (c.enter 0 q)).state
  unfolding call_of broken whole
  call_state k h q =
      elim (dec_lt (suc k) c.shape.rounds) [
        | yes y ↦ ap Machine.state (stopped-short (call_of c 0) (row ds) (suc k) q y)
        | no f ↦
            let last : c.shape.rounds ≡ suc k = omega arith in
            ap Machine.state
            (stopped_past (call_of c 0) (row ds) (suc k) q (omega arith)
            ∙ ap (λ (n : ℕ). stopped (row ds) n (whole (call_of c 0) q)) (omega arith)
            ∙ stopped_zero (row ds) (whole (call_of c 0) q) (some_row ds some))
            ∙ still (turns c.turn c.shape.rounds (c.enter 0 q))
            ∙ ap (λ (n : ℕ). (turns c.turn n (c.enter 0 q)).state) last
      ]

  within : (k : ℕ) → suc k ≤ c.shape.rounds
      → (stopped (row (bs ++ c ∷ ds)) (rounds_in (shapes bs) + suc k) m).state ≡ (turns c.turn (suc k) (c.enter 0 (run (row bs) m))).state
  unfolding row part_row calls
  within k h =
      let cut : row (bs ++ c ∷ ds) ≡ row bs ++ (call_of c 0 ∷ row ds) =
      row-append bs (c ∷ ds) ∙ ap (λ (n : ℕ). row bs ++ (calls (call_of c) 0 n ++ row ds)) single in
      ap₂ (λ (cs : List (Call Machine)) (n : ℕ). (stopped cs (n + suc k) m).state) cut (sym (total-row bs))
      ∙ ap Machine.state (stopped-back (row bs) (call_of c 0 ∷ row ds) (suc k) m)
      ∙ call_state k h (run (row bs) m)

-- rounds of 16 bytes with 48 zeros behind them, in a buffer that may be longer
clyde-turns : {r : ℕ → List ℕ → List ℕ} → Keeps 16 r → (k : ℕ) (s t : List ℕ) → length s ≡ 16
    → turns (λ (i : ℕ). front 16 (r i)) k (clyde_state s ++ t) ≡ clyde_state (turns r k s) ++ t
unfolding clyde_state
clyde-turns {r} q k s t h =
    let z : List ℕ = replicate 48 0 in
    ap (turns (λ (i : ℕ). front 16 (r i)) k) (append_assoc s z t) ∙ turns-front q k s (z ++ t) h ∙ sym (append_assoc (turns r k s) z t)

module _ (p : Cipher) (l : LawfulCipher p) (x : Input) (hn : length x.nonce ≡ 16) where
  -- ---- the seed

  seed-turns : (n k : ℕ) (q : Machine)
      → (turns (seed p x n).turn k (seeded p x q)).state
      ≡ clyde_state (turns (p.forward x.key (replicate 16 0)) k x.nonce) ++ drop 64 q.state
  unfolding seed seeded put clyde_state
  seed-turns n k q =
      let long = length-clyde_state x.nonce hn in
      ap Machine.state (turns_on (λ ss k. front 16 (p.forward x.key (replicate 16 0) k)) k (seeded p x q))
      ∙ ap (λ (i : ℕ). turns (λ (k : ℕ). front 16 (p.forward x.key (replicate 16 0) k)) k (clyde_state x.nonce ++ drop i q.state)) long
      ∙ clyde-turns (l.forward x.key (replicate 16 0)) k x.nonce (drop 64 q.state) hn

  walk_some : (w : Bool) (n d t : ℕ) (ds : List (Part Machine)) → EachSome (shapes ds) → EachSome (shapes (unseeded p x w n d t ++ ds))
  unfolding EachSome shapes begin assocs texts
  walk_some w n d t ds some = (lit< tt, (lit< tt, (lit< tt, some)))

  closing_each : (b : Bool) → EachSome (shapes (closing p x b ∷ []))
  unfolding EachSome shapes
  closing_each b = (omega (arith, closing_some p x b), tt)

  pub seed_state : (m : Machine) (k : ℕ) → k < 12
      → (halted (course p x) (suc k) m).state
      ≡ clyde_state (turns (p.forward x.key (replicate 16 0)) (suc k) x.nonce) ++ drop 64 m.state
  unfolding row run rounds_in shapes seed verify_rounds
  seed_state m k h =
      let b = x.sealing in
      let ds = unseeded p x b 1 (u p x) (v p x) ++ closing p x b ∷ [] in
      ap Machine.state (early p x m (suc k) (omega arith))
      ∙ ap (λ (n : ℕ). (stopped (row (before p x ++ closing p x b ∷ [])) n m).state) (sym (zero-add (suc k)))
      ∙ within [] (seed p x 1) ds refl (walk_some b 1 (u p x) (v p x) (closing p x b ∷ []) (closing_each b)) (λ q. refl) m k (omega arith)
      ∙ seed-turns 1 (suc k) m

  -- ---- the closing call

  abbrev direction : Bool → (key tweak : List ℕ) → ℕ → List ℕ → List ℕ
  direction b = pick b p.forward p.backward

  direction_keeps : (b : Bool) (k t : List ℕ) → Keeps 16 (direction b k t)
  direction_keeps true k t = l.forward k t
  direction_keeps false k t = l.backward k t

  closing_turns : (b : Bool) (k : ℕ) (q : Machine)
      → (turns (closing p x b).turn k q).state ≡ turns (λ (i : ℕ). front 16 (direction b x.key (closing_tweak q.session) i)) k q.state
  unfolding closing tagging verifying
  closing_turns true k q = ap Machine.state (turns_on (λ ss i. front 16 (p.forward x.key (closing_tweak ss) i)) k q)
  closing_turns false k q = ap Machine.state (turns_on (λ ss i. front 16 (p.backward x.key (closing_tweak ss) i)) k q)

  closing_still : (b : Bool) (q : Machine) → ((closing p x b).leave 0 q).state ≡ q.state
  unfolding closing tagging tagged verifying
  closing_still true q = refl
  closing_still false q = refl

  module _ (m : Machine) (ready : Ready (s1p_scheme p) x m) where
    abbrev last : List ℕ
    last = last_state p x.sealing x.key x.nonce x.assoc x.text

    length_last : length last ≡ 64
    length_last = length-last_state p l x.key x.nonce x.assoc hn x.sealing x.text

    abbrev t : List ℕ
    t = drop 64 m.state

    -- what its first round meets, with the bytes a
    aside_state : (a : List ℕ) → length a ≡ 16 → (set_aside p x a (walked_to p l x hn m ready)).state ≡ clyde_state a ++ t
    unfolding set_aside clyde_state
    aside_state a h = put_front (clyde_state a) last t (length-clyde_state a h ∙ sym length_last)

    abbrev met : Machine
    met = (closing p x x.sealing).enter 0 (run (row (before p x)) m)

    met_tweak : closing_tweak met.session ≡ closing_tweak last
    met_tweak = ap closing_tweak (entered_session p l x hn m ready) ∙ closing_tweak-within last (drop 64 m.session) (omega (arith, length_last))

    -- from the bytes a on
    closing_from : (a : List ℕ) → length a ≡ 16 → take 16 (pick x.sealing (last ++ t) m.tag) ≡ a → (k : ℕ) → k < 12
        → (halted (course p x) (close_after (length x.assoc) (length x.text) + suc k) m).state
        ≡ clyde_state (turns (direction x.sealing x.key (closing_tweak last)) (suc k) a) ++ t
    unfolding EachSome shapes
    closing_from a h e k f =
        let b = x.sealing in
        let n = close_after (length x.assoc) (length x.text) + suc k in
        let at : n ≡ rounds_in (shapes (before p x)) + suc k = omega (arith, before-rounds p x) in
        let is : met.state ≡ clyde_state a ++ t =
        ap Machine.state (entered p l x hn m ready) ∙ ap (λ (c : List ℕ). (set_aside p x c (walked_to p l x hn m ready)).state) e ∙ aside_state a h in
        ap Machine.state (early p x m n (omega (arith, close_last (length x.assoc) (length x.text))))
        ∙ ap (λ (i : ℕ). (stopped (row (before p x ++ closing p x b ∷ [])) i m).state) at
        ∙ within (before p x) (closing p x b) [] (closing_one p x b) tt (closing_still b) m k (omega (arith, closing_some p x b))
        ∙ closing_turns b (suc k) met
        ∙ ap₂ (λ (w s : List ℕ). turns (λ (i : ℕ). front 16 (direction b x.key w i)) (suc k) s) met_tweak is
        ∙ clyde-turns (direction_keeps b x.key (closing_tweak last)) (suc k) a t h

    -- a sealing's: Clyde of U
    pub sealing_closing_state : x.sealing ≡ true → (k : ℕ) → k < 12
        → let s = last_state p true x.key x.nonce x.assoc x.text in
        (halted (course p x) (close_after (length x.assoc) (length x.text) + suc k) m).state
        ≡ clyde_state (turns (p.forward x.key (closing_tweak s)) (suc k) (required s)) ++ drop 64 m.state
    unfolding required
    sealing_closing_state d k h =
        let s : Bool → List ℕ = λ b. last_state p b x.key x.nonce x.assoc x.text in
        let a = take 16 last in
        let long : length a ≡ 16 = length-take-le 16 last (omega (arith, length_last)) in
        let e = ap (λ (b : Bool). take 16 (pick b (last ++ t) m.tag)) d ∙ take-append-le 16 last t (omega (arith, length_last)) in
        closing_from a long e k h
        ∙ ap (λ (b : Bool). clyde_state (turns (direction b x.key (closing_tweak (s b))) (suc k) (take 16 (s b))) ++ t) d

    -- an opening's: inverse Clyde of the received tag
    pub opening_closing_state : x.sealing ≡ false → length m.tag ≡ 16 → (k : ℕ) → k < 12
        → let s = last_state p false x.key x.nonce x.assoc x.text in
        (halted (course p x) (close_after (length x.assoc) (length x.text) + suc k) m).state
        ≡ clyde_state (turns (p.backward x.key (closing_tweak s)) (suc k) m.tag) ++ drop 64 m.state
    opening_closing_state d hg k h =
        let s : Bool → List ℕ = λ b. last_state p b x.key x.nonce x.assoc x.text in
        let e = ap (λ (b : Bool). take 16 (pick b (last ++ t) m.tag)) d ∙ take_all 16 m.tag (omega arith) in
        closing_from m.tag hg e k h
        ∙ ap (λ (b : Bool). clyde_state (turns (direction b x.key (closing_tweak (s b))) (suc k) m.tag) ++ t) d

    -- the second walk's seed
    pub second_seed_state : x.sealing ≡ false → length m.tag ≡ 16 → accepted (course p x) m ≡ true → 0 < length x.text → (k : ℕ) → k < 12
        → (halted (course p x) (verify_rounds (length x.assoc) (length x.text) + suc k) m).state
        ≡ clyde_state (turns (p.forward x.key (replicate 16 0)) (suc k) x.nonce) ++ drop 64 m.state
    unfolding EachSome shapes begin assocs texts seed course opening_course
    second_seed_state d hg e some k h =
        let w : ℕ → ℕ = unless_empty (length x.text) in
        let ds = unseeded p x true (w 1) (w (u p x)) (w (v p x - 1)) in
        let n = verify_rounds (length x.assoc) (length x.text) + suc k in
        let at : n ≡ rounds_in (shapes (verify_parts p x)) + suc k = omega (arith, opening_rounds p l x hn m ready d) in
        let inverse = decrypt p x.key (closing_tweak (last_state p false x.key x.nonce x.assoc x.text)) m.tag in
        let long = length-clyde_state inverse (length-decrypt p l x.key _ m.tag hg) in
        let back : drop 64 (run (row (verify_parts p x)) m).state ≡ t =
        ap (λ (cs : List (Part Machine)). drop 64 (run (row cs) m).state) (sym (opening_front p l x hn m ready d))
        ∙ ap (λ (q : Machine). drop 64 q.state) (opening_verified p l x hn m ready d hg) ∙ drop_at (clyde_state inverse) t 64 long in
        ap Machine.state (halted-going (course p x) (lawful p x) m e n)
        ∙ ap₂ (λ (cs : List (Part Machine)) (i : ℕ). (stopped (row cs) i m).state) (opening_parts p l x hn m ready d) at
        ∙ within (verify_parts p x) (seed p x (w 1)) ds (unless_some (length x.text) 1 some) (lit< tt, (lit< tt, (lit< tt, tt))) (λ q. refl) m k (omega arith)
        ∙ seed-turns (w 1) (suc k) (run (row (verify_parts p x)) m)
        ∙ ap (λ (r : List ℕ). clyde_state (turns (p.forward x.key (replicate 16 0)) (suc k) x.nonce) ++ r) back
