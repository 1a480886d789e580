-- What a job of ISAP comes to, for any instance: demands 2 and 3 of the rows. A sealing ends with the paper's ciphertext and tag; an
-- opening accepts exactly when the received tag is the recomputed one, then ends with the paper's plaintext, and until then, or after a
-- refusal, has not touched the output.
-- Assumes nothing.
use Rattle.std.specs.Prelude.{◌≡◌, Bool, true, false, ℕ, ◌+◌, ◌≤◌, take, drop, replicate}
use Rattle.std.proofs.Common.{sym, ◌∙◌, arith, take-append-drop}
use Rattle.std.proofs.Math.Path.{ap, ap₂}
use mathlib.Core.List.{List, ◌++◌}
use Rattle.std.proofs.Math.ListN.{length}
use Rattle.std.proofs.Math.Seq.{length-take-le, take-append-le}
use Rattle.bits.specs.Pick.{pick}
use Rattle.stopping.specs.Rows.{run, run-append}
use Rattle.stopping.specs.Parts.{row, row-append}
use Rattle.stopping.specs.Course.{Course, accepted, halted}
use Rattle.stopping.specs.Halts.{halted-accepted}
use Rattle.bits.specs.Strings.{same}
use Rattle.bits.specs.StringLaws.{same_refl, same_true}
use Rattle.mode.specs.Params.{Params, LawfulParams}
use Rattle.scheme.specs.Machine.{Opened.plaintext, Opened.refused, Machine, Input, cipher_of, machine}
use Rattle.mode.specs.Paper.{isap_enc, hashed, finished, isap_mac, seal, unseal}
use Rattle.mode.specs.PaperLaws.{enc_length, hashed_long, finished_long}
use Rattle.mode.specs.Parts.{tag_of, enc_parts, mac_parts, sealing_course, opening_course, course}
use Rattle.mode.proofs.CountLaws.{front-rounds, back-rounds, lawful, all_count_lem}
use Rattle.mode.specs.Counts.{verify_rounds, encrypt_rounds}
use Rattle.mode.proofs.Ends.{enc_state, enc_state_long, mac_end_lem, enc_end}
use Rattle.mode.specs.Theorems.{Ready}

module _ (p : Params) (l : LawfulParams p) (x : Input) (hk : length x.key ≡ 16) (hn : length x.nonce ≡ 16) where
  -- the last state of the MAC over c
  last : List ℕ → List ℕ
  last c = finished p x.key (hashed p x.nonce x.assoc c)

  last_long : (c : List ℕ) → length (last c) ≡ p.n
  unfolding last
  last_long c = finished_long p l x.key (hashed p x.nonce x.assoc c) hk (hashed_long p l x.nonce x.assoc c hn)

  -- its first 16 bytes are the paper's tag
  tag_front : (c t : List ℕ) → take 16 (last c ++ t) ≡ isap_mac p x.key x.nonce x.assoc c
  unfolding isap_mac last
  tag_front c t = take-append-le 16 (last c) t (omega (arith, l.room, last_long c))

  module _ (m : Machine) (ready : Ready p x m) where
    -- the state's bytes and what lies beyond, and the session's
    s : List ℕ
    s = take p.n m.state

    t : List ℕ
    t = drop p.n m.state

    u : List ℕ
    u = take p.n m.session

    v : List ℕ
    v = drop p.n m.session

    long_s : length s ≡ p.n
    unfolding s
    long_s = length-take-le p.n m.state ready.state

    long_u : length u ≡ p.n
    unfolding u
    long_u = length-take-le p.n m.session ready.session

    split : machine (s ++ t) (u ++ v) m.out m.tag ≡ m
    unfolding s t u v
    split = ap₂ (λ (a b : List ℕ). machine a b m.out m.tag) (take-append-drop p.n m.state) (take-append-drop p.n m.session)

    -- ---- a sealing

    module _ (d : x.sealing ≡ true) where
      sealing_is : course p x ≡ sealing_course p x
      unfolding course
      sealing_is = ap (λ (b : Bool). pick b (sealing_course p x) (opening_course p x)) d

      cipher : List ℕ
      cipher = isap_enc p x.key x.nonce x.text

      sealed : run (row (sealing_course p x).front) m
          ≡ machine (last cipher ++ t) (replicate p.n 0 ++ v) cipher (take 16 (last cipher ++ t))
      unfolding sealing_course cipher cipher_of tag_of last
      sealed =
          let own : cipher_of x cipher ≡ cipher = ap (λ (b : Bool). pick b cipher x.text) d in
          ap (λ cs. run cs m) (row-append (enc_parts p x) (mac_parts p x))
          ∙ run-append (row (enc_parts p x)) (row (mac_parts p x)) m
          ∙ ap (λ (k : Machine). run (row (mac_parts p x)) (run (row (enc_parts p x)) k)) (sym split)
          ∙ ap (run (row (mac_parts p x))) (enc_end p l x hk hn s t (u ++ v) m.out m.tag long_s ready.out)
          ∙ mac_end_lem p l x hk hn (enc_state p l x hk hn) t u v cipher m.tag (enc_state_long p l x hk hn) long_u
          (ap length own ∙ enc_length p l x.key x.nonce hk hn x.text)
          ∙ ap₂ (λ (c : List ℕ) (b : Bool). machine (last c ++ t) (replicate p.n 0 ++ v) cipher (pick b (take 16 (last c ++ t)) m.tag)) own d

      -- a sealing is always accepted, so it takes E + V rounds
      pub sealing_accepted : accepted (course p x) m ≡ true
      unfolding accepted sealing_course
      sealing_accepted = ap (λ (c : Course Machine). c.accepts (run (row c.front) m)) sealing_is

      ended_sealing : (n : ℕ) → encrypt_rounds p (length x.text) + verify_rounds p (length x.assoc) (length x.text) ≤ n
          → halted (course p x) n m ≡ machine (last cipher ++ t) (replicate p.n 0 ++ v) cipher (take 16 (last cipher ++ t))
      unfolding sealing_course run row
      ended_sealing n h =
          halted-accepted (course p x) (lawful p l x) m sealing_accepted n
          (omega (arith, front-rounds p x, back-rounds p x, all_count_lem p x.sealing (length x.assoc) (length x.text)))
          ∙ ap (λ (c : Course Machine). run (row c.back) (run (row c.front) m)) sealing_is
          ∙ sealed

      -- after E + V rounds the output is the paper's ciphertext, and the tag the paper's tag
      pub sealing_out : (n : ℕ) → encrypt_rounds p (length x.text) + verify_rounds p (length x.assoc) (length x.text) ≤ n
          → (halted (course p x) n m).out ≡ (seal p x.key x.nonce x.assoc x.text).cipher
      unfolding seal cipher
      sealing_out n h = ap Machine.out (ended_sealing n h)

      pub sealing_tag : (n : ℕ) → encrypt_rounds p (length x.text) + verify_rounds p (length x.assoc) (length x.text) ≤ n
          → (halted (course p x) n m).tag ≡ (seal p x.key x.nonce x.assoc x.text).tag
      unfolding seal cipher
      sealing_tag n h = ap Machine.tag (ended_sealing n h) ∙ tag_front (isap_enc p x.key x.nonce x.text) t

    -- ---- an opening

    module _ (d : x.sealing ≡ false) where
      opening_is : course p x ≡ opening_course p x
      unfolding course
      opening_is = ap (λ (b : Bool). pick b (sealing_course p x) (opening_course p x)) d

      verified : run (row (mac_parts p x)) m ≡ machine (last x.text ++ t) (replicate p.n 0 ++ v) m.out m.tag
      unfolding cipher_of tag_of last
      verified =
          let lent : cipher_of x m.out ≡ x.text = ap (λ (b : Bool). pick b m.out x.text) d in
          ap (run (row (mac_parts p x))) (sym split)
          ∙ mac_end_lem p l x hk hn s t u v m.out m.tag long_s long_u (ap length lent)
          ∙ ap₂ (λ (c : List ℕ) (b : Bool). machine (last c ++ t) (replicate p.n 0 ++ v) m.out (pick b (take 16 (last c ++ t)) m.tag)) lent d

      -- after V rounds: the MAC's last state, the session bytes zero again, output and tag as they were
      pub opening_verified : run (row (mac_parts p x)) m
          ≡ machine (finished p x.key (hashed p x.nonce x.assoc x.text) ++ drop p.n m.state)
          (replicate p.n 0 ++ drop p.n m.session) m.out m.tag
      unfolding last t v
      opening_verified = verified

      -- so the first 16 state bytes are the paper's tag
      pub opening_tag : take 16 (run (row (mac_parts p x)) m).state ≡ isap_mac p x.key x.nonce x.assoc x.text
      opening_tag = ap (λ (k : Machine). take 16 k.state) verified ∙ tag_front x.text t

      -- the decision is the comparison of the received tag with the recomputed one
      pub opening_accepts : accepted (course p x) m ≡ same m.tag (isap_mac p x.key x.nonce x.assoc x.text)
      unfolding accepted opening_course
      opening_accepts =
          ap (λ (c : Course Machine). c.accepts (run (row c.front) m)) opening_is
          ∙ ap₂ same (ap Machine.tag verified) opening_tag

      -- it accepts exactly when the two are equal
      pub accepts_if : m.tag ≡ isap_mac p x.key x.nonce x.assoc x.text → accepted (course p x) m ≡ true
      accepts_if e =
          opening_accepts ∙ ap (λ (g : List ℕ). same g (isap_mac p x.key x.nonce x.assoc x.text)) e
          ∙ same_refl (isap_mac p x.key x.nonce x.assoc x.text)

      pub accepts_only_if : accepted (course p x) m ≡ true → m.tag ≡ isap_mac p x.key x.nonce x.assoc x.text
      accepts_only_if e = same_true m.tag (isap_mac p x.key x.nonce x.assoc x.text) (sym opening_accepts ∙ e)

      -- accepted, it ends after V + E rounds with the paper's plaintext in the output
      pub opening_out : accepted (course p x) m ≡ true
          → (n : ℕ) → encrypt_rounds p (length x.text) + verify_rounds p (length x.assoc) (length x.text) ≤ n
          → (halted (course p x) n m).out ≡ isap_enc p x.key x.nonce x.text
      unfolding opening_course
      opening_out e n h =
          ap Machine.out
          (halted-accepted (course p x) (lawful p l x) m e n
          (omega (arith, front-rounds p x, back-rounds p x, all_count_lem p x.sealing (length x.assoc) (length x.text)))
          ∙ ap (λ (c : Course Machine). run (row c.back) (run (row c.front) m)) opening_is
          ∙ ap (run (row (enc_parts p x))) verified
          ∙ enc_end p l x hk hn (last x.text) t (replicate p.n 0 ++ v) m.out m.tag (last_long x.text) ready.out)

      -- and that is what Algorithm 2 gives
      pub opening_is_paper : unseal p x.key x.nonce x.assoc x.text m.tag
          ≡ pick (accepted (course p x) m) (plaintext (isap_enc p x.key x.nonce x.text)) refused
      unfolding unseal
      opening_is_paper =
          ap (λ (b : Bool). pick b (plaintext (isap_enc p x.key x.nonce x.text)) refused) (sym opening_accepts)
