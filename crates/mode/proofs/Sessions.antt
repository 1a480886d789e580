-- The session bytes and the tag of a job stopped after any number of rounds. From the first round of the MAC's re-keying to its last the
-- session bytes are the paper's MAC state, before and behind that they are zero; a sealing's tag is as it was before its last round.
-- Assumes nothing.
use Rattle.std.specs.Prelude.{◌≡◌, Bool, ◌⊎◌, ℕ, zero, suc, ◌+◌, ◌≤◌, ◌<◌, replicate}
use Rattle.std.proofs.Math.Path.{refl, ap, subst}
use Rattle.std.proofs.Common.{sym, ◌∙◌, inl, inr, arith, take-append-drop, length-take-le}
use Rattle.std.proofs.Math.Bool.{true, false}
use mathlib.Core.List.{List, [], ◌∷◌, ◌++◌}
use Rattle.std.proofs.Math.ListN.{length, take, drop}
use Rattle.std.proofs.lemmas.List.{length-replicate}
use Rattle.bits.specs.Pick.{pick}
use Rattle.stopping.specs.Stopped.{Call}
use Rattle.stopping.specs.Rows.{run, run-append}
use Rattle.stopping.specs.Parts.{rounds_in, EachSome, row, shapes, row-append}
use Rattle.stopping.specs.Kept.{KeepsParts}
use Rattle.stopping.specs.Course.{parts, halted}
use Rattle.mode.specs.Params.{Params, LawfulParams}
use Rattle.mode.specs.Paper.{isap_enc, hashed}
use Rattle.mode.specs.PaperLaws.{enc_length, hashed_long}
use Rattle.scheme.specs.Machine.{Machine, Input, cipher_of, machine}
use Rattle.mode.specs.Parts.{mac_end, enc_parts, sealing_course, opening_course, course}
use Rattle.mode.proofs.CountLaws.{rounds_enc, shapes_enc, back_some_lem, front-rounds}
use Rattle.mode.specs.Counts.{rekey_rounds, verify_rounds, encrypt_rounds, back_shapes, front_count}
use Rattle.mode.proofs.Ends.{enc_state, enc_state_long, enc_end, hashing_end}
use Rattle.mode.specs.Theorems.{Ready}
use Rattle.mode.specs.Between.{aside_after, mac_state}
use Rattle.mode.proofs.Touches.{hashing, mac_rekeying, enc_keeps}
use Rattle.mode.specs.Aside.{SessionOf}
use Rattle.mode.proofs.Aside.{tag_until, session_of}

module _ (p : Params) (l : LawfulParams p) (x : Input) where
  abbrev a : ℕ
  a = length x.assoc

  abbrev t : ℕ
  t = length x.text

  -- ---- what comes before the MAC and behind it, in either direction

  sealing_is : x.sealing ≡ true → parts (course p x) ≡ ((enc_parts p x ++ hashing p x) ++ mac_rekeying p x) ++ mac_end p x ∷ []
  unfolding course sealing_course
  sealing_is d = ap (λ (b : Bool). parts (pick b (sealing_course p x) (opening_course p x))) d

  opening_is : x.sealing ≡ false → parts (course p x) ≡ (([] ++ hashing p x) ++ mac_rekeying p x) ++ mac_end p x ∷ enc_parts p x
  unfolding course opening_course
  opening_is d = ap (λ (b : Bool). parts (pick b (sealing_course p x) (opening_course p x))) d

  sealing_count : x.sealing ≡ true → rounds_in (shapes (enc_parts p x)) ≡ pick x.sealing (encrypt_rounds p t) 0
  sealing_count d = ap rounds_in (shapes_enc p x) ∙ rounds_enc p a t ∙ ap (λ (b : Bool). pick b (encrypt_rounds p t) 0) (sym d)

  opening_count : x.sealing ≡ false → rounds_in (shapes {M = Machine} []) ≡ pick x.sealing (encrypt_rounds p t) 0
  unfolding rounds_in shapes
  opening_count d = ap (λ (b : Bool). pick b (encrypt_rounds p t) 0) (sym d)

  enc_some : EachSome (shapes (enc_parts p x))
  unfolding back_shapes
  enc_some = subst EachSome (sym (shapes_enc p x)) (back_some_lem p l false a t)

  -- before its last round a sealing's tag is as it was
  pub tag_before_the_end : x.sealing ≡ true → (m : Machine) (n : ℕ)
      → n < encrypt_rounds p (length x.text) + verify_rounds p (length x.assoc) (length x.text) → (halted (course p x) n m).tag ≡ m.tag
  unfolding front_count EachSome shapes
  tag_before_the_end d m n h =
      let front = front-rounds p x ∙ ap (λ (b : Bool). front_count p b a t) d in
      tag_until p l x (enc_parts p x) [] (sealing_is d) (sealing_count d) tt m (enc_keeps p x (λ s g. g ≡ m.tag)) n (omega arith)

  -- ---- the session bytes

  module _ (hk : length x.key ≡ 16) (hn : length x.nonce ≡ 16) (m : Machine) (ready : Ready p x m) where
    abbrev cipher : List ℕ
    cipher = isap_enc p x.key x.nonce x.text

    mac_long : length (mac_state p x) ≡ p.n
    unfolding mac_state
    mac_long = hashed_long p l x.nonce x.assoc (cipher_of x cipher) hn

    -- the state's n bytes and what lies beyond
    long : length (take p.n m.state) ≡ p.n
    long = length-take-le p.n m.state ready.state

    split : machine (take p.n m.state ++ drop p.n m.state) m.session m.out m.tag ≡ m
    split = ap (λ (s : List ℕ). machine s m.session m.out m.tag) (take-append-drop p.n m.state)

    -- the state at the re-keying
    sealing_reached : x.sealing ≡ true
        → run (row (enc_parts p x ++ hashing p x)) m ≡ machine (mac_state p x ++ drop p.n m.state) m.session cipher m.tag
    unfolding mac_state cipher_of
    sealing_reached d =
        let s = take p.n m.state in
        let r = drop p.n m.state in
        let own : length (pick x.sealing cipher x.text) ≡ t =
        ap (λ (b : Bool). length (pick b cipher x.text)) d ∙ enc_length p l x.key x.nonce hk hn x.text in
        ap (λ (cs : List (Call Machine)). run cs m) (row-append (enc_parts p x) (hashing p x))
        ∙ run-append (row (enc_parts p x)) (row (hashing p x)) m
        ∙ ap (λ (k : Machine). run (row (hashing p x)) (run (row (enc_parts p x)) k)) (sym split)
        ∙ ap (run (row (hashing p x))) (enc_end p l x hk hn s r m.session m.out m.tag long ready.out)
        ∙ hashing_end p l x hk hn (enc_state p l x hk hn) r m.session cipher m.tag (enc_state_long p l x hk hn) own

    opening_reached : x.sealing ≡ false
        → run (row (hashing p x)) m ≡ machine (mac_state p x ++ drop p.n m.state) m.session m.out m.tag
    unfolding mac_state cipher_of
    opening_reached d =
        let s = take p.n m.state in
        let r = drop p.n m.state in
        let lent : pick x.sealing m.out x.text ≡ pick x.sealing cipher x.text =
        ap (λ (b : Bool). pick b m.out x.text) d ∙ ap (λ (b : Bool). pick b cipher x.text) (sym d) in
        ap (run (row (hashing p x))) (sym split)
        ∙ hashing_end p l x hk hn s r m.session m.out m.tag long (ap (λ (b : Bool). length (pick b m.out x.text)) d)
        ∙ ap (λ (c : List ℕ). machine (hashed p x.nonce x.assoc c ++ r) m.session m.out m.tag) lent

    sessions : SessionOf p x m
    unfolding EachSome shapes KeepsParts
    sessions = go x.sealing refl
      where
        go : (b : Bool) → x.sealing ≡ b → SessionOf p x m
        go true d =
            session_of p l x (enc_parts p x) [] (sealing_is d) (sealing_count d) tt (λ u. enc_keeps p x (λ s g. s ≡ u)) (λ u. tt) m
            (drop p.n m.state) cipher m.tag mac_long (sealing_reached d)
        go false d =
            session_of p l x [] (enc_parts p x) (opening_is d) (opening_count d) enc_some (λ u. tt) (λ u. enc_keeps p x (λ s g. s ≡ u)) m
            (drop p.n m.state) m.out m.tag mac_long (opening_reached d)

    -- from the first round of the MAC's re-keying to its last
    pub session_in : (n : ℕ) → aside_after p x.sealing (length x.assoc) (length x.text) < n
        → n ≤ aside_after p x.sealing (length x.assoc) (length x.text) + rekey_rounds p
        → (halted (course p x) n m).session ≡ mac_state p x ++ drop p.n m.session
    session_in n f b = sessions.aside n f b

    -- before it and behind it
    pub session_outside : (k : ℕ) → m.session ≡ replicate k 0 → (n : ℕ)
        → (n ≤ aside_after p x.sealing (length x.assoc) (length x.text))
        ⊎ (aside_after p x.sealing (length x.assoc) (length x.text) + rekey_rounds p < n)
        → (halted (course p x) n m).session ≡ replicate k 0
    session_outside k e n (inl b) = sessions.before n b ∙ e
    session_outside k e n (inr b) =
        sessions.behind n b ∙ ap (λ (s : List ℕ). replicate p.n 0 ++ drop p.n s) e
        ∙ alike 0 p.n k (omega (arith, ready.session, ap length e ∙ length-replicate k 0))
      where
        alike : (z i j : ℕ) → i ≤ j → replicate i z ++ drop i (replicate j z) ≡ replicate j z
        alike z zero j h = refl
        alike z (suc i) zero h = absurd (omega arith)
        alike z (suc i) (suc j) h = ap (λ (s : List ℕ). z ∷ s) (alike z i j (omega arith))
