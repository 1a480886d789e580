-- The output of a job stopped after any number of rounds: the blocks that are written by then are the paper's, and the others are as they
-- were. `texts` writes them, each with the last round of its own call, and no other part touches the output.
-- Assumes nothing.
use Rattle.std.specs.Prelude.{◌≡◌, Bool, true, length}
use Rattle.std.proofs.Common.{sym, ◌∙◌}
use Rattle.std.proofs.Math.Path.{ap, subst}
use Rattle.std.proofs.Math.Bool.{false}
use mathlib.Core.List.{List, [], ◌∷◌, ◌++◌}
use Prim.Native.Nat.{ℕ, ◌+◌, ◌-◌, ◌*◌, ◌/◌, ◌≤◌, min}
use native.Mathlib.Omega.{arith}
use Rattle.std.proofs.Math.ListN.{take, drop}
use Rattle.bits.specs.Pick.{pick}
use Rattle.stopping.specs.Stopped.{stopped, total}
use Rattle.stopping.specs.Rows.{run}
use Rattle.stopping.specs.Parts.{Part, rounds_in, EachSome, row, shapes, shapes-append, rounds_in-append}
use Rattle.stopping.specs.Kept.{KeepsParts, keeps-parts}
use Rattle.stopping.specs.Course.{parts, accepted, halted}
use Rattle.stopping.specs.Since.{stopped_over, halted-going}
use Rattle.scheme.specs.Blocks.{calls_done, out_after}
use Rattle.mode.specs.Params.{Params, LawfulParams}
use Rattle.mode.specs.Paper.{blocks, isap_enc, seal}
use Rattle.scheme.specs.Machine.{Machine, Input}
use Rattle.mode.specs.Parts.{part, key_start, key_bits, key_end, texts, mac_parts, sealing_course, opening_course, course}
use Rattle.mode.proofs.CountLaws.{rounds_mac, shapes_mac, front_some, lawful}
use Rattle.mode.specs.Counts.{rekey_rounds, verify_rounds, encrypt_rounds, front_shapes}
use Rattle.mode.specs.Theorems.{Ready}
use Rattle.mode.proofs.Theorems.{sealing_accepted, sealing_out, opening_out}
use Rattle.mode.specs.Between.{blocks_written}
use Rattle.mode.proofs.Touches.{rekeying, rekeying-keeps, mac_keeps, texts_write}

module _ (p : Params) (l : LawfulParams p) (x : Input) where
  -- the calls of `texts` that are done in a row in which the parts cs and re-keying come first
  calls_done_lem : (cs : List (Part Machine)) (n : ℕ)
      → calls_done (cs ++ rekeying p x) (texts p x) n ≡ blocks_written p (length x.text) (n - rounds_in (shapes cs))
  unfolding calls_done blocks_written rekey_rounds shapes rounds_in key_start key_bits key_end texts part
  calls_done_lem cs n =
      let d = rounds_in (shapes cs) in
      let before = ap rounds_in (shapes-append cs (rekeying p x)) ∙ rounds_in-append (shapes cs) (shapes (rekeying p x)) in
      let since : n - (d + (1 * p.s_k + (127 * p.s_b + (1 * p.s_k + 0)))) ≡ n - d - (2 * p.s_k + 127 * p.s_b) = omega arith in
      ap (λ (k : ℕ). min (blocks p (length x.text)) ((n - k) / p.s_e)) before
      ∙ ap (λ (k : ℕ). min (blocks p (length x.text)) (k / p.s_e)) since

  -- the output of such a row
  row_out : (cs ds : List (Part Machine)) → ((o : List ℕ) → KeepsParts (λ (m : Machine). m.out ≡ o) cs)
      → ((o : List ℕ) → KeepsParts (λ (m : Machine). m.out ≡ o) ds) → EachSome (shapes ds)
      → (m : Machine) → length m.out ≡ length x.text → (n : ℕ)
      → let w = blocks_written p (length x.text) (n - rounds_in (shapes cs)) in
      (stopped (row ((cs ++ rekeying p x) ++ texts p x ∷ ds)) n m).out
      ≡ take (w * p.b) (run (row ((cs ++ rekeying p x) ++ texts p x ∷ ds)) m).out ++ drop (w * p.b) m.out
  unfolding EachSome shapes texts part
  row_out cs ds front back some m fits n =
      out_after p.b (length x.text) (texts p x) (texts_write p l x) (cs ++ rekeying p x) ds
      (λ o. keeps-parts (λ (m : Machine). m.out ≡ o) cs (rekeying p x) (front o) (rekeying-keeps p x (λ r. r.out ≡ o)))
      back m fits (l.some_e, some) n
      ∙ ap (λ (w : ℕ). take (w * p.b) (run (row ((cs ++ rekeying p x) ++ texts p x ∷ ds)) m).out ++ drop (w * p.b) m.out) (calls_done_lem cs n)

  -- every call of the MAC has a round
  mac_some : EachSome (shapes (mac_parts p x))
  unfolding front_shapes
  mac_some = subst EachSome (sym (shapes_mac p x)) (front_some p l false (length x.assoc) (length x.text))

  module _ (hk : length x.key ≡ 16) (hn : length x.nonce ≡ 16) (m : Machine) (ready : Ready p x m) where
    abbrev a : ℕ
    a = length x.assoc

    abbrev t : ℕ
    t = length x.text

    -- a job that is not refused, from what its output is at the end
    going_out : (cs ds : List (Part Machine)) → parts (course p x) ≡ (cs ++ rekeying p x) ++ texts p x ∷ ds
        → ((o : List ℕ) → KeepsParts (λ (u : Machine). u.out ≡ o) cs) → ((o : List ℕ) → KeepsParts (λ (u : Machine). u.out ≡ o) ds)
        → EachSome (shapes ds) → accepted (course p x) m ≡ true → (end : List ℕ)
        → ((n : ℕ) → encrypt_rounds p t + verify_rounds p a t ≤ n → (halted (course p x) n m).out ≡ end) → (n : ℕ)
        → let w = blocks_written p t (n - rounds_in (shapes cs)) in
        (halted (course p x) n m).out ≡ take (w * p.b) end ++ drop (w * p.b) m.out
    going_out cs ds is front back some e end ends n =
        let all = total (row (parts (course p x))) + (encrypt_rounds p t + verify_rounds p a t) in
        let w = blocks_written p t (n - rounds_in (shapes cs)) in
        let last : (run (row ((cs ++ rekeying p x) ++ texts p x ∷ ds)) m).out ≡ end =
        ap (λ (ps : List (Part Machine)). (run (row ps) m).out) (sym is)
        ∙ ap Machine.out (sym (halted-going (course p x) (lawful p l x) m e all ∙ stopped_over (row (parts (course p x))) all m (omega arith)))
        ∙ ends all (omega arith) in
        ap Machine.out (halted-going (course p x) (lawful p l x) m e n)
        ∙ ap (λ (ps : List (Part Machine)). (stopped (row ps) n m).out) is
        ∙ row_out cs ds front back some m ready.out n
        ∙ ap (λ (o : List ℕ). take (w * p.b) o ++ drop (w * p.b) m.out) last

    -- after n rounds of a sealing: the paper's ciphertext up to the blocks written by then, and beyond them the output as it was
    pub sealing_out_after : x.sealing ≡ true → (n : ℕ)
        → let w = blocks_written p (length x.text) n in
        (halted (course p x) n m).out ≡ take (w * p.b) (isap_enc p x.key x.nonce x.text) ++ drop (w * p.b) m.out
    unfolding course sealing_course shapes rounds_in KeepsParts seal
    sealing_out_after d n =
        let cipher = isap_enc p x.key x.nonce x.text in
        let none : n - 0 ≡ n = omega arith in
        going_out [] (mac_parts p x) (ap (λ (b : Bool). parts (pick b (sealing_course p x) (opening_course p x))) d) (λ o. tt)
        (λ o. mac_keeps p x (λ out. out ≡ o)) mac_some (sealing_accepted p l x hk hn m ready d) cipher (sealing_out p l x hk hn m ready d) n
        ∙ ap (λ (k : ℕ). take (blocks_written p t k * p.b) cipher ++ drop (blocks_written p t k * p.b) m.out) none

    -- after n rounds of an opening that is accepted: the paper's plaintext up to the blocks written since V, none of them before
    pub opening_out_at : x.sealing ≡ false → accepted (course p x) m ≡ true → (n : ℕ)
        → let w = blocks_written p (length x.text) (n - verify_rounds p (length x.assoc) (length x.text)) in
        (halted (course p x) n m).out ≡ take (w * p.b) (isap_enc p x.key x.nonce x.text) ++ drop (w * p.b) m.out
    unfolding course opening_course shapes EachSome KeepsParts
    opening_out_at d e n =
        let plain = isap_enc p x.key x.nonce x.text in
        let mac : rounds_in (shapes (mac_parts p x)) ≡ verify_rounds p a t = ap rounds_in (shapes_mac p x) ∙ rounds_mac p a t in
        going_out (mac_parts p x) [] (ap (λ (b : Bool). parts (pick b (sealing_course p x) (opening_course p x))) d)
        (λ o. mac_keeps p x (λ out. out ≡ o)) (λ o. tt) tt e plain (opening_out p l x hk hn m ready d e) n
        ∙ ap (λ (v : ℕ). take (blocks_written p t (n - v) * p.b) plain ++ drop (blocks_written p t (n - v) * p.b) m.out) mac

    -- so after V + k rounds: those written in k rounds of decryption
    pub opening_out_after : x.sealing ≡ false → accepted (course p x) m ≡ true → (k : ℕ)
        → let w = blocks_written p (length x.text) k in
        (halted (course p x) (verify_rounds p (length x.assoc) (length x.text) + k) m).out
        ≡ take (w * p.b) (isap_enc p x.key x.nonce x.text) ++ drop (w * p.b) m.out
    opening_out_after d e k =
        let plain = isap_enc p x.key x.nonce x.text in
        let past : verify_rounds p a t + k - verify_rounds p a t ≡ k = omega arith in
        opening_out_at d e (verify_rounds p a t + k)
        ∙ ap (λ (i : ℕ). take (blocks_written p t i * p.b) plain ++ drop (blocks_written p t i * p.b) m.out) past
