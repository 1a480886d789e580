-- The encryption's re-keying is done whatever the text: R rounds into the encryption the state is the one that Algorithm 4 leaves, the session
-- key at its front. A sealing has it after R rounds, an opening that is accepted after V + R; with an empty text that is all there is.
-- Assumes nothing.
use Rattle.std.specs.Prelude.{◌≡◌, Bool, true, ℕ, ◌+◌, length, take, replicate}
use Rattle.std.proofs.Common.{sym, ◌∙◌, take-append-drop, length-take-le}
use Rattle.std.proofs.Math.Path.{ap, ap₂, subst}
use Rattle.std.proofs.Math.Bool.{false}
use mathlib.Core.List.{List, [], ◌∷◌, ◌++◌}
use native.Mathlib.Omega.{arith}
use Rattle.std.proofs.Math.ListN.{drop}
use Rattle.bits.specs.Pick.{pick}
use Rattle.stopping.specs.Stopped.{Call, stopped}
use Rattle.stopping.specs.Rows.{stopped-back}
use Rattle.stopping.specs.Parts.{Part, rounds_in, EachSome, row, shapes, row-append, total-row}
use Rattle.stopping.specs.Course.{parts, accepted, halted}
use Rattle.stopping.specs.Since.{stopped_over, stopped-parts, halted-going}
use Rattle.scheme.specs.Machine.{Machine, Input, machine}
use Rattle.mode.specs.Params.{Params, LawfulParams}
use Rattle.mode.specs.Paper.{rekeyed, hashed, finished}
use Rattle.mode.specs.PaperLaws.{hashed_long, finished_long}
use Rattle.mode.specs.Parts.{part, key_start, key_bits, key_end, texts, enc_parts, mac_parts, sealing_course, opening_course, course}
use Rattle.mode.proofs.CountLaws.{rounds_mac, shapes_mac, front_some, lawful}
use Rattle.mode.specs.Counts.{rekey_rounds, verify_rounds, front_shapes}
use Rattle.mode.proofs.Ends.{rekeying_end}
use Rattle.mode.proofs.Touches.{rekeying}
use Rattle.mode.specs.Theorems.{Ready}
use Rattle.mode.proofs.Theorems.{sealing_accepted, opening_verified}

module _ (p : Params) (l : LawfulParams p) (x : Input) (hk : length x.key ≡ 16) (hn : length x.nonce ≡ 16) where
  count : rounds_in (shapes (rekeying p x)) ≡ rekey_rounds p
  unfolding rounds_in shapes rekey_rounds key_start key_bits key_end part
  count = omega arith

  -- R rounds of a row that begins with the re-keying
  row-rekeyed : (ds : List (Part Machine)) → EachSome (shapes ds) → (s r ss o g : List ℕ) → length s ≡ p.n
      → (stopped (row (rekeying p x ++ ds)) (rekey_rounds p) (machine (s ++ r) ss o g)).state ≡ rekeyed p 3 x.key x.nonce ++ r
  row-rekeyed ds some s r ss o g h =
      ap Machine.state
      (stopped-parts (rekeying p x) ds some (rekey_rounds p) (machine (s ++ r) ss o g) (omega (arith, count))
      ∙ stopped_over (row (rekeying p x)) (rekey_rounds p) (machine (s ++ r) ss o g) (omega (arith, total-row (rekeying p x), count))
      ∙ rekeying_end p l x hk hn s r ss o g h)

  texts_some : EachSome (shapes (texts p x ∷ []))
  unfolding EachSome shapes texts part
  texts_some = (l.some_e, tt)

  behind_some : EachSome (shapes (texts p x ∷ mac_parts p x))
  unfolding EachSome shapes texts part front_shapes
  behind_some = (l.some_e, subst EachSome (sym (shapes_mac p x)) (front_some p l false (length x.assoc) (length x.text)))

  module _ (m : Machine) (ready : Ready p x m) where
    abbrev s : List ℕ
    s = take p.n m.state

    abbrev r : List ℕ
    r = drop p.n m.state

    long_s : length s ≡ p.n
    long_s = length-take-le p.n m.state ready.state

    pub sealing_rekeyed : x.sealing ≡ true
        → (halted (course p x) (rekey_rounds p) m).state ≡ rekeyed p 3 x.key x.nonce ++ drop p.n m.state
    unfolding course sealing_course
    sealing_rekeyed d =
        let is : parts (course p x) ≡ rekeying p x ++ texts p x ∷ mac_parts p x =
        ap (λ (b : Bool). parts (pick b (sealing_course p x) (opening_course p x))) d in
        ap Machine.state (halted-going (course p x) (lawful p l x) m (sealing_accepted p l x hk hn m ready d) (rekey_rounds p))
        ∙ ap₂ (λ (ps : List (Part Machine)) (state : List ℕ). (stopped (row ps) (rekey_rounds p) (machine state m.session m.out m.tag)).state) is
        (sym (take-append-drop p.n m.state))
        ∙ row-rekeyed (texts p x ∷ mac_parts p x) behind_some s r m.session m.out m.tag long_s

    pub opening_rekeyed : x.sealing ≡ false → accepted (course p x) m ≡ true
        → (halted (course p x) (verify_rounds p (length x.assoc) (length x.text) + rekey_rounds p) m).state
        ≡ rekeyed p 3 x.key x.nonce ++ drop p.n m.state
    unfolding course opening_course
    opening_rekeyed d e =
        let v = verify_rounds p (length x.assoc) (length x.text) in
        let is : parts (course p x) ≡ mac_parts p x ++ enc_parts p x = ap (λ (b : Bool). parts (pick b (sealing_course p x) (opening_course p x))) d in
        let mac = total-row (mac_parts p x) ∙ ap rounds_in (shapes_mac p x) ∙ rounds_mac p (length x.assoc) (length x.text) in
        let last = finished p x.key (hashed p x.nonce x.assoc x.text) in
        let long = finished_long p l x.key (hashed p x.nonce x.assoc x.text) hk (hashed_long p l x.nonce x.assoc x.text hn) in
        ap Machine.state
        (halted-going (course p x) (lawful p l x) m e (v + rekey_rounds p)
        ∙ ap₂ (λ (cs : List (Call Machine)) (n : ℕ). stopped cs (n + rekey_rounds p) m) (ap row is ∙ row-append (mac_parts p x) (enc_parts p x)) (sym mac)
        ∙ stopped-back (row (mac_parts p x)) (row (enc_parts p x)) (rekey_rounds p) m
        ∙ ap (stopped (row (enc_parts p x)) (rekey_rounds p)) (opening_verified p l x hk hn m ready d))
        ∙ row-rekeyed (texts p x ∷ []) texts_some last r (replicate p.n 0 ++ drop p.n m.session) m.out m.tag long
