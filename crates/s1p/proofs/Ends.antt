-- The rows done whole, on a state and session bytes of 64 bytes each, give what the paper's algorithms give.
-- Assumes nothing.
use Rattle.std.specs.Prelude.{◌≡◌, refl, Bool, replicate}
use Rattle.std.proofs.Math.Path.{sym, ap, ap₂}
use Rattle.std.proofs.Common.{◌∙◌}
use Rattle.std.proofs.Math.Bool.{true, false}
use mathlib.Core.List.{List, [], ◌∷◌}
use Prim.Native.Nat.{ℕ, zero, suc, ◌-◌}
use native.Mathlib.Omega.{arith}
use Rattle.std.proofs.Math.ListN.{length, take}
use Rattle.std.proofs.lemmas.List.{length-replicate}
use Rattle.std.proofs.Math.Seq.{take_all}
use Rattle.bits.specs.Run.{turns, front}
use Rattle.bits.specs.Put.{put, put_at}
use Rattle.bits.specs.Strings.{cut}
use Rattle.stopping.specs.Rows.{run, calls}
use Rattle.stopping.specs.Parts.{Part, part_row, row}
use Rattle.scheme.specs.Machine.{Machine, Input, machine, Exact}
use Rattle.s1p.specs.Cipher.{Cipher, LawfulCipher, encrypt, decrypt}
use Rattle.s1p.specs.Paper.{blocks, parsed, text_mark, marked, required, closing_tweak, text_out, last_state, tag_of}
use Rattle.s1p.specs.Parts.{unless_empty, seed, begin, assocs, texts, set_aside, tagged, tagging, verifying, walk, seal_parts, verify_parts, open_parts}
use Rattle.s1p.specs.Counts.{blocks_are, blocks_some}
use Rattle.s1p.proofs.Laws.{put_all, turns-front, length-encrypt, length-required}
use Rattle.s1p.specs.Evenly.{ends_all, outs_all, behind}
use Rattle.s1p.proofs.Evenly.{outs_all_past, last_state_is, length-text_out, length-last_state}
use Rattle.s1p.proofs.Calls.{empty, whole_is, done}
use Rattle.s1p.specs.Walks.{clyde_state, zero64}
use Rattle.s1p.proofs.Walks.{length-clyde_state, clyde_state-front, write_then, quiet_then, all_out}

module _ (p : Cipher) (l : LawfulCipher p) (x : Input) (hn : length x.nonce ≡ 16) where
  abbrev u : ℕ
  u = blocks (length x.assoc)

  abbrev v : ℕ
  v = blocks (length x.text)

  abbrev behind_data : List ℕ
  behind_data = behind p x.key x.nonce x.assoc

  -- ---- the closing call

  module _ (s ss o g : List ℕ) (h : length s ≡ 64) (h' : length ss ≡ 64) where
    -- what its first round meets: 16 bytes, and Shadow's state set aside
    aside_is : (a : List ℕ) → length a ≡ 16 → set_aside p x a (machine s ss o g) ≡ machine (clyde_state a) s o g
    unfolding set_aside clyde_state
    aside_is a k =
        let whole64 : take 64 s ≡ s = take_all 64 s (omega arith) in
        ap₂ (λ (t t' : List ℕ). machine t t' o g) (put_all (clyde_state a) s (length-clyde_state a k ∙ sym h))
        (ap (λ (t : List ℕ). put t ss) whole64 ∙ put_all s ss (h ∙ sym h'))

    r_tagging : run (row (tagging p x ∷ [])) (machine s ss o g) ≡ machine (clyde_state (tag_of p x.key s)) s o (tag_of p x.key s)
    unfolding row part_row run calls tagging tagged tag_of encrypt required clyde_state
    r_tagging =
        let z = tag_of p x.key s in
        let r = required s in
        let k : length r ≡ 16 = length-required s (omega arith) in
        let t : List ℕ → ℕ → List ℕ → List ℕ = λ ss k. front 16 (p.forward x.key (closing_tweak ss) k) in
        whole_is 1 _ _ _ 0 (machine s ss o g)
        ∙ ap (λ (m : Machine). tagged p x (machine (turns (t m.session) 12 m.state) m.session m.out m.tag)) (aside_is r k)
        ∙ ap (λ (w : List ℕ). machine w s o (take 16 w)) (turns-front (l.forward x.key (closing_tweak s)) 12 r (replicate 48 0) k)
        ∙ ap (machine (clyde_state z) s o) (clyde_state-front z (length-encrypt p l x.key (closing_tweak s) r k))

    r_verifying : length g ≡ 16 → run (row (verifying p x ∷ [])) (machine s ss o g)
        ≡ machine (clyde_state (decrypt p x.key (closing_tweak s) g)) s o g
    unfolding row part_row run calls verifying decrypt clyde_state
    r_verifying k =
        let t : List ℕ → ℕ → List ℕ → List ℕ = λ ss k. front 16 (p.backward x.key (closing_tweak ss) k) in
        let all : take 16 g ≡ g = take_all 16 g (omega arith) in
        whole_is 1 _ _ _ 0 (machine s ss o g)
        ∙ ap (λ (m : Machine). machine (turns (t m.session) 12 m.state) m.session m.out m.tag)
        (ap (λ (a : List ℕ). set_aside p x a (machine s ss o g)) all ∙ aside_is g k)
        ∙ ap (λ (w : List ℕ). machine w s o g) (turns-front (l.backward x.key (closing_tweak s)) 12 g (replicate 48 0) k)

  -- ---- the rows

  -- Shadow's last state
  abbrev last : Bool → List ℕ
  last b = last_state p b x.key x.nonce x.assoc x.text

  length_last : (b : Bool) → length (last b) ≡ 64
  length_last b = length-last_state p l x.key x.nonce x.assoc hn b x.text

  module _ (m : Machine) (e : Exact 64 m) where
    -- a sealing's walk, and what comes after it
    write_all : (cs : List (Part Machine)) → x.sealing ≡ true → length m.out ≡ length x.text
        → run (row (seed p x 1 ∷ begin p x true 1 ∷ assocs p x true u ∷ texts p x true v ∷ cs)) m
        ≡ run (row cs) (machine (last true) zero64 (text_out p true x.key x.nonce x.assoc x.text) m.tag)
    unfolding parsed
    write_all cs d ho =
        let b = blocks_are (length x.text) in
        write_then p l x hn v cs m e ho b.1
        ∙ ap (λ (b : Bool). run (row cs)
        (machine (ends_all p b (parsed x.text) (marked (parsed x.text) behind_data)) zero64 (put_at 0 (outs_all p b (cut 32 (suc v) x.text) (text_mark behind_data)) m.out) m.tag)) d
        ∙ ap₂ (λ (s o : List ℕ). run (row cs) (machine s zero64 (put_at 0 o m.out) m.tag))
        (sym (last_state_is p l x.key x.nonce x.assoc hn true x.text))
        (outs_all_past p l true v x.text (text_mark behind_data) b.0)
        ∙ ap (λ (o : List ℕ). run (row cs) (machine (last true) zero64 o m.tag)) (all_out p l x hn true m.out ho)

    -- the walk before the closing call
    pub seal-walk : x.sealing ≡ true → length m.out ≡ length x.text
        → run (row (walk p x true 1 (blocks (length x.assoc)) (blocks (length x.text)))) m
        ≡ machine (last_state p true x.key x.nonce x.assoc x.text) (replicate 64 0) (text_out p true x.key x.nonce x.assoc x.text) m.tag
    seal-walk d ho = write_all [] d ho ∙ done _

    pub verify_walk : x.sealing ≡ false
        → run (row (walk p x false 1 (blocks (length x.assoc)) (blocks (length x.text)))) m
        ≡ machine (last_state p false x.key x.nonce x.assoc x.text) (replicate 64 0) m.out m.tag
    verify_walk d = quiet_then p l x hn [] m e d ∙ done _

    pub seal_end : x.sealing ≡ true → length m.out ≡ length x.text
        → run (row (seal_parts p x)) m
        ≡ machine (clyde_state (tag_of p x.key (last_state p true x.key x.nonce x.assoc x.text)))
        (last_state p true x.key x.nonce x.assoc x.text) (text_out p true x.key x.nonce x.assoc x.text)
        (tag_of p x.key (last_state p true x.key x.nonce x.assoc x.text))
    seal_end d ho =
        write_all (tagging p x ∷ []) d ho
        ∙ r_tagging (last true) zero64 (text_out p true x.key x.nonce x.assoc x.text) m.tag (length_last true) (length-replicate {A = ℕ} 64 0)

    pub verify_end : x.sealing ≡ false → length m.tag ≡ 16
        → run (row (verify_parts p x)) m
        ≡ machine (clyde_state (decrypt p x.key (closing_tweak (last_state p false x.key x.nonce x.assoc x.text)) m.tag))
        (last_state p false x.key x.nonce x.assoc x.text) m.out m.tag
    verify_end d hg =
        quiet_then p l x hn (verifying p x ∷ []) m e d ∙ r_verifying (last false) zero64 m.out m.tag (length_last false) (length-replicate {A = ℕ} 64 0) hg

    -- the second walk
    open_some : (n : ℕ) → length x.text ≡ suc n → x.sealing ≡ false → length m.out ≡ length x.text
        → (run (row (open_parts p x)) m).out ≡ text_out p false x.key x.nonce x.assoc x.text
    unfolding unless_empty run row
    open_some n k d ho =
        let b = blocks_are (length x.text) in
        let some = blocks_some (length x.text) (omega arith) in
        let all : suc (v - 1) ≡ v = omega arith in
        ap (λ (j : ℕ). (run (row (walk p x true (unless_empty j 1) (unless_empty j u) (unless_empty j (v - 1)))) m).out) k
        ∙ ap Machine.out (write_then p l x hn (v - 1) [] m e ho (omega arith))
        ∙ ap₂ (λ (b : Bool) (k : ℕ). put_at 0 (outs_all p b (cut 32 k x.text) (text_mark behind_data)) m.out) d all
        ∙ all_out p l x hn false m.out ho

    -- an empty text has none
    pub open_none : length x.text ≡ 0 → run (row (open_parts p x)) m ≡ m
    unfolding row part_row run calls unless_empty seed begin assocs texts
    open_none k = ap (λ (j : ℕ). run (row (walk p x true (unless_empty j 1) (unless_empty j u) (unless_empty j (v - 1)))) m) k

    pub open_end : x.sealing ≡ false → length m.out ≡ length x.text
        → (run (row (open_parts p x)) m).out ≡ text_out p false x.key x.nonce x.assoc x.text
    open_end d ho = by (length x.text) refl
      where
        by : (n : ℕ) → length x.text ≡ n → (run (row (open_parts p x)) m).out ≡ text_out p false x.key x.nonce x.assoc x.text
        by zero k =
            ap Machine.out (open_none k) ∙ empty m.out (ho ∙ k)
            ∙ sym (empty _ (length-text_out p l x.key x.nonce x.assoc hn false x.text ∙ k))
        by (suc n) k = open_some n k d ho
