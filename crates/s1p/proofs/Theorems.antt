-- What a job of S1P comes to, for any cipher that is lawful: demands 2 and 3 of the rows. A sealing ends with the paper's ciphertext and
-- tag; an opening accepts exactly when the inverse gives the required value, and that is when the tags are equal; then it ends with the
-- paper's plaintext. Opening what was sealed gives the message back, and what opens was sealed so.
-- Assumes nothing.
use Rattle.std.proofs.Math.Path.{◌≡◌, refl, sym, ap, ap₂}
use Rattle.std.proofs.Common.{◌∙◌, arith, take-append-drop}
use Rattle.std.specs.Prelude.{Bool, ℕ, ◌≤◌, length, take, drop}
use Rattle.std.proofs.Math.Bool.{true, false}
use mathlib.Core.List.{List, ◌++◌}
use Rattle.std.proofs.Math.Seq.{length-take-le, take-append-le}
use Rattle.bits.specs.Pick.{pick}
use Rattle.bits.specs.Bytes.{Bytes}
use Rattle.bits.specs.Strings.{same}
use Rattle.bits.specs.StringLaws.{same_refl, same_true}
use Rattle.stopping.specs.Rows.{run}
use Rattle.stopping.specs.Parts.{row}
use Rattle.stopping.specs.Course.{Course, accepted, halted}
use Rattle.stopping.specs.Halts.{halted-accepted}
use Rattle.scheme.specs.Machine.{Machine, Input, Sealed, Opened.plaintext, Opened.refused, machine, Buffer, Exact, with_tails}
use Rattle.scheme.specs.Blind.{blind-run}
use Rattle.scheme.specs.Lawful.{Ready, finished}
use Rattle.s1p.specs.Cipher.{Cipher, LawfulCipher, encrypt, decrypt}
use Rattle.s1p.specs.Paper.{text_out, last_state, required, closing_tweak, tag_of, seal, agrees, unseal}
use Rattle.s1p.specs.Parts.{seal_parts, verify_parts, open_parts, sealing_course, opening_course, course}
use Rattle.s1p.specs.Counts.{verify_rounds, back_count}
use Rattle.s1p.proofs.Counts.{front-rounds, back-rounds, lawful}
use Rattle.s1p.specs.Scheme.{s1p_scheme}
use Rattle.s1p.proofs.Laws.{length-decrypt, required_is, closing_tweak_is}
use Rattle.s1p.proofs.Evenly.{length-last_state, last_state_kept, text_back, state_back}
use Rattle.s1p.specs.Walks.{clyde_state}
use Rattle.s1p.proofs.Walks.{length-clyde_state, clyde_state-front}
use Rattle.s1p.proofs.Ends.{seal_end, verify_end, open_end}
use Rattle.s1p.proofs.Tails.{seal-blind, verify_blind, walk-blind}

-- ---- the required value and the tag

module _ (p : Cipher) (l : LawfulCipher p) where
  module _ (key s : List ℕ) (hk : Buffer 16 key) (hs : Buffer 64 s) where
    -- the inverse of the tag is the required value
    agrees_own : agrees p key s (tag_of p key s) ≡ true
    unfolding agrees tag_of
    agrees_own =
        let u = required s in
        ap (λ (w : List ℕ). same w u) (l.undone key (closing_tweak s) u hk (closing_tweak_is s hs) (required_is s hs)) ∙ same_refl u

    -- the inverse gives the required value exactly when the tags are equal
    module _ (tag : List ℕ) (hg : Buffer 16 tag) where
      pub agrees_if : tag ≡ tag_of p key s → agrees p key s tag ≡ true
      agrees_if e = ap (agrees p key s) e ∙ agrees_own

      pub agrees_only_if : agrees p key s tag ≡ true → tag ≡ tag_of p key s
      unfolding agrees tag_of
      agrees_only_if e =
          let t = closing_tweak s in
          sym (l.undoes key t tag hk (closing_tweak_is s hs) hg)
          ∙ ap (encrypt p key t) (same_true (decrypt p key t tag) (required s) e)

      pub agrees_is : agrees p key s tag ≡ same tag (tag_of p key s)
      agrees_is = by (agrees p key s tag) refl (same tag (tag_of p key s)) refl
        where
          by : (a : Bool) → agrees p key s tag ≡ a → (b : Bool) → same tag (tag_of p key s) ≡ b → a ≡ b
          by true e true f = refl
          by false e false f = refl
          by true e false f = sym (same_refl tag) ∙ ap (same tag) (agrees_only_if e) ∙ f
          by false e true f = sym e ∙ agrees_if (same_true tag (tag_of p key s) f)

  -- ---- the paper's algorithms

  module _ (key nonce a : List ℕ) (hk : Buffer 16 key) (hn : Buffer 16 nonce) (ha : Bytes a) where
    -- the last state of either algorithm
    last_kept : (b : Bool) (m : List ℕ) → Bytes m → Buffer 64 (last_state p b key nonce a m)
    last_kept b m hm = last_state_kept p l key nonce a hn.long hn.bytes ha b m hm

    -- Algorithm 4 compares tags, in effect
    pub unseal_tags : (c tag : List ℕ) → Bytes c → Buffer 16 tag
        → unseal p key nonce a c tag
        ≡ pick (same tag (tag_of p key (last_state p false key nonce a c))) (plaintext (text_out p false key nonce a c)) refused
    unfolding unseal
    unseal_tags c tag hc hg =
        ap (λ (b : Bool). pick b (plaintext (text_out p false key nonce a c)) refused)
        (agrees_is key (last_state p false key nonce a c) hk (last_kept false c hc) tag hg)

    -- opening what was sealed gives the message back
    pub open_sealed_lem : (m : List ℕ) → Bytes m → unseal p key nonce a (seal p key nonce a m).cipher (seal p key nonce a m).tag ≡ plaintext m
    unfolding seal unseal
    open_sealed_lem m hm =
        let s = last_state p true key nonce a m in
        let z = tag_of p key s in
        ap₂ (λ (s' y : List ℕ). pick (agrees p key s' z) (plaintext y) refused)
        (state_back p l key nonce a hn.long true m) (text_back p l key nonce a hn.long true m)
        ∙ ap (λ (b : Bool). pick b (plaintext m) refused) (agrees_own key s hk (last_kept true m hm))

    -- what opens was sealed so
    pub sealed-back : (c tag m : List ℕ) → Bytes c → Buffer 16 tag → unseal p key nonce a c tag ≡ plaintext m
        → seal p key nonce a m ≡ record { cipher = c; tag = tag }
    unfolding seal unseal
    sealed-back c tag m hc hg e = go (agrees p key (last_state p false key nonce a c) tag) refl e
      where
        go : (b : Bool) → agrees p key (last_state p false key nonce a c) tag ≡ b → pick b (plaintext (text_out p false key nonce a c)) refused ≡ plaintext m
            → ◌≡◌ {A = Sealed} (record { cipher = text_out p true key nonce a m; tag = tag_of p key (last_state p true key nonce a m) }) (record { cipher = c; tag = tag })
        go true q f =
            let is : text_out p false key nonce a c ≡ m = cc in
            ap (λ (y : List ℕ). record { cipher = text_out p true key nonce a y; tag = tag_of p key (last_state p true key nonce a y) }) (sym is)
            ∙ ap₂ (λ (y s : List ℕ). record { cipher = y; tag = tag_of p key s }) (text_back p l key nonce a hn.long false c) (state_back p l key nonce a hn.long false c)
            ∙ ap (λ (g : List ℕ). record { cipher = c; tag = g })
            (sym (agrees_only_if key (last_state p false key nonce a c) hk (last_kept false c hc) tag hg q))
        go false q f = let z : ◌≡◌ {A = ℕ} 0 1 = cc in absurd (omega arith)

-- ---- jobs

module _ (p : Cipher) (l : LawfulCipher p) (x : Input) (hn : length x.nonce ≡ 16) (m : Machine) (ready : Ready (s1p_scheme p) x m) where
  -- the first 64 bytes of either buffer, and what lies beyond
  abbrev pub fore : Machine
  fore = machine (take 64 m.state) (take 64 m.session) m.out m.tag

  pub fore-exact : Exact 64 fore
  unfolding s1p_scheme
  fore-exact = record { state = length-take-le 64 m.state ready.state; session = length-take-le 64 m.session ready.session }

  abbrev t : List ℕ
  t = drop 64 m.state

  abbrev v : List ℕ
  v = drop 64 m.session

  pub split : m ≡ with_tails (drop 64 m.state) (drop 64 m.session) fore
  split =
      ap₂ (λ (a b : List ℕ). machine a b m.out m.tag) (sym (take-append-drop 64 m.state)) (sym (take-append-drop 64 m.session))

  -- Shadow's last state
  abbrev last : Bool → List ℕ
  last b = last_state p b x.key x.nonce x.assoc x.text

  length_last : (b : Bool) → length (last b) ≡ 64
  length_last b = length-last_state p l x.key x.nonce x.assoc hn b x.text

  -- ---- a sealing

  module _ (d : x.sealing ≡ true) where
    sealing_is : course p x ≡ sealing_course p x
    unfolding course
    sealing_is = ap (λ (b : Bool). pick b (sealing_course p x) (opening_course p x)) d

    pub sealing_accepted : accepted (course p x) m ≡ true
    unfolding accepted sealing_course
    sealing_accepted = ap (λ (c : Course Machine). c.accepts (run (row c.front) m)) sealing_is

    -- all of the job at its end: the session bytes still hold Shadow's last state
    pub sealing_finished : finished (course p x) m
        ≡ machine (clyde_state (tag_of p x.key (last_state p true x.key x.nonce x.assoc x.text)) ++ drop 64 m.state)
        (last_state p true x.key x.nonce x.assoc x.text ++ drop 64 m.session)
        (seal p x.key x.nonce x.assoc x.text).cipher (seal p x.key x.nonce x.assoc x.text).tag
    unfolding sealing_course run row seal
    sealing_finished =
        ap (λ (c : Course Machine). finished c m) sealing_is
        ∙ ap (run (row (seal_parts p x))) split
        ∙ (blind-run 64 (seal_parts p x) (seal-blind p l x hn)).apart t v fore fore-exact
        ∙ ap (with_tails t v) (seal_end p l x hn fore fore-exact d ready.out)

    pub sealing_ends : (n : ℕ) → verify_rounds (length x.assoc) (length x.text) ≤ n → halted (course p x) n m ≡ finished (course p x) m
    unfolding back_count
    sealing_ends n h =
        halted-accepted (course p x) (lawful p x) m sealing_accepted n
        (omega (arith, front-rounds p x, back-rounds p x, ap (λ (b : Bool). back_count b (length x.assoc) (length x.text)) d))

  -- ---- an opening

  module _ (d : x.sealing ≡ false) (hg : length m.tag ≡ 16) where
    opening_is : course p x ≡ opening_course p x
    unfolding course
    opening_is = ap (λ (b : Bool). pick b (sealing_course p x) (opening_course p x)) d

    -- E⁻¹ of the received tag
    abbrev inverse : List ℕ
    inverse = decrypt p x.key (closing_tweak (last false)) m.tag

    length_inverse : length inverse ≡ 16
    length_inverse = length-decrypt p l x.key (closing_tweak (last false)) m.tag hg

    -- the record at the decision
    abbrev decided : Machine
    decided = machine (clyde_state inverse) (last false) m.out m.tag

    decided_exact : Exact 64 decided
    decided_exact = record { state = length-clyde_state inverse length_inverse; session = length_last false }

    verified : run (row (verify_parts p x)) m ≡ with_tails t v decided
    verified =
        ap (run (row (verify_parts p x))) split
        ∙ (blind-run 64 (verify_parts p x) (verify_blind p l x hn)).apart t v fore fore-exact
        ∙ ap (with_tails t v) (verify_end p l x hn fore fore-exact d hg)

    -- after V rounds: inverse Clyde's value and 48 zeros, Shadow's last state in the session bytes, output and tag as they were
    pub opening_verified : run (row (course p x).front) m
        ≡ machine (clyde_state (decrypt p x.key (closing_tweak (last_state p false x.key x.nonce x.assoc x.text)) m.tag) ++ drop 64 m.state)
        (last_state p false x.key x.nonce x.assoc x.text ++ drop 64 m.session) m.out m.tag
    unfolding opening_course
    opening_verified = ap (λ (c : Course Machine). run (row c.front) m) opening_is ∙ verified

    -- the decision is Algorithm 4's: whether inverse Clyde gives the required value
    pub opening_accepts : accepted (course p x) m ≡ agrees p x.key (last_state p false x.key x.nonce x.assoc x.text) m.tag
    unfolding accepted opening_course agrees required
    opening_accepts =
        let front16 = take-append-le 16 (clyde_state inverse) t (omega (arith, decided_exact.state)) ∙ clyde_state-front inverse length_inverse in
        let session16 = take-append-le 16 (last false) v (omega (arith, length_last false)) in
        ap (λ (c : Course Machine). c.accepts (run (row c.front) m)) opening_is
        ∙ ap (λ (k : Machine). same (take 16 k.state) (take 16 k.session)) verified
        ∙ ap₂ same front16 session16

    -- run to its end, it leaves the paper's plaintext in the output
    pub opening_finished : (finished (course p x) m).out ≡ text_out p false x.key x.nonce x.assoc x.text
    unfolding opening_course
    opening_finished =
        ap (λ (c : Course Machine). (finished c m).out) opening_is
        ∙ ap (λ (k : Machine). (run (row (open_parts p x)) k).out) verified
        ∙ ap Machine.out ((blind-run 64 (open_parts p x) (walk-blind p l x hn _ _ _ _)).apart t v decided decided_exact)
        ∙ open_end p l x hn decided decided_exact d ready.out

    -- and that is what Algorithm 4 gives, if it accepts
    pub opening_is_paper : unseal p x.key x.nonce x.assoc x.text m.tag
        ≡ pick (accepted (course p x) m) (plaintext (finished (course p x) m).out) refused
    unfolding unseal
    opening_is_paper = ap₂ (λ (b : Bool) (o : List ℕ). pick b (plaintext o) refused) (sym opening_accepts) (sym opening_finished)
