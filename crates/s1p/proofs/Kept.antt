-- Wherever a job of S1P is stopped, its buffers have the lengths that they had, and hold bytes; and the output is touched only by a walk
-- that writes.
-- Assumes nothing.
use Rattle.std.specs.Prelude.{◌≡◌, Bool, eqb}
use Rattle.std.proofs.Math.Path.{refl, subst}
use Rattle.std.proofs.Common.{sym, ◌∙◌, arith}
use Rattle.std.proofs.Math.Bool.{true, false}
use mathlib.Core.List.{List, ◌++◌}
use Prim.Native.Nat.{ℕ, zero, suc, ◌*◌, ◌≤◌}
use Rattle.std.proofs.Math.ListN.{length, take, replicate}
use Rattle.std.proofs.lemmas.List.{length-replicate}
use Rattle.std.proofs.Math.Seq.{length-take-le}
use Rattle.bits.specs.Pick.{pick}
use Rattle.bits.specs.Bytes.{Bytes, bytes-zeros, bytes_take, appended}
use Rattle.bits.specs.Run.{front, Keeps, length_once, bytes_once}
use Rattle.bits.specs.Put.{put, length-put, bytes-put, bytes-put_at}
use Rattle.bits.specs.Xors.{xors, bytes-xors}
use Rattle.bits.specs.Strings.{block}
use Rattle.bits.specs.StringLaws.{length-block, length_put_block, bytes-block}
use Rattle.stopping.specs.Kept.{KeepsPart, KeepsParts}
use Rattle.scheme.specs.Machine.{Machine, Input, first, cipher_of, Buffer, Sound}
use Rattle.scheme.specs.Lawful.{KeepsCourse}
use Rattle.s1p.specs.Cipher.{Cipher, LawfulCipher}
use Rattle.s1p.specs.Paper.{blocks, iv, text_mark, closing_tweak}
use Rattle.s1p.specs.Parts.{written, due, next, seeded, seed, begin, assocs, texts, set_aside, tagged, tagging, verifying, sealing_course, opening_course, course}
use Rattle.s1p.proofs.Laws.{length-last_data, length-last_text, length_iv, bytes-text_mark, bytes-last_data, bytes-last_text, bytes_iv}
use Rattle.s1p.proofs.Calls.{length-first-mark}

module _ (p : Cipher) (x : Input) where
  -- ---- the output

  -- what holds of it, and holds with a block written, holds wherever a job is stopped
  module _ (Q : List ℕ → Type 0) where
    abbrev P : Machine → Type 0
    P m = Q m.out

    -- a walk that does not write keeps anything
    abbrev Writes : Bool → Type 0
    Writes w = w ≡ true → (i : ℕ) (m : Machine) → P m → P (written p x i m)

    due_out : (w : Bool) → Writes w → (j : ℕ) (m : Machine) → P m → P (due p x w j m)
    unfolding due
    due_out true h j m q = go (eqb j (blocks (length x.assoc)))
      where
        go : (b : Bool) → P (pick b (written p x 0 m) m)
        go true = h refl 0 m q
        go false = q
    due_out false h j m q = q

    next_out : (w : Bool) → Writes w → (i : ℕ) (m : Machine) → P m → P (next p x w i m)
    unfolding next
    next_out true h i m q = h refl (suc i) m q
    next_out false h i m q = q

    pub seed_out : (n : ℕ) → KeepsPart P (seed p x n)
    unfolding seed seeded
    seed_out n = record { enter = λ i m q. q; turn = λ k m q. q; leave = λ i m q. q }

    pub begin_out : (w : Bool) → Writes w → (n : ℕ) → KeepsPart P (begin p x w n)
    unfolding begin
    begin_out w h n = record { enter = λ i m q. q; turn = λ k m q. q; leave = λ i m q. due_out w h 0 m q }

    pub assocs_out : (w : Bool) → Writes w → (n : ℕ) → KeepsPart P (assocs p x w n)
    unfolding assocs
    assocs_out w h n = record { enter = λ i m q. q; turn = λ k m q. q; leave = λ i m q. due_out w h (suc i) m q }

    texts_out : (w : Bool) → Writes w → (n : ℕ) → KeepsPart P (texts p x w n)
    unfolding texts
    texts_out w h n = record { enter = λ i m q. q; turn = λ k m q. q; leave = λ i m q. next_out w h i m q }

    pub tagging_out : KeepsPart P (tagging p x)
    unfolding tagging set_aside tagged
    tagging_out = record { enter = λ i m q. q; turn = λ k m q. q; leave = λ i m q. q }

    verifying_out : KeepsPart P (verifying p x)
    unfolding verifying set_aside
    verifying_out = record { enter = λ i m q. q; turn = λ k m q. q; leave = λ i m q. q }

    pub no_writes : Writes false
    no_writes e = let z : ◌≡◌ {A = ℕ} 0 1 = cc in absurd (omega arith)

    sealing_out : Writes true → KeepsParts P (sealing_course p x).front
    unfolding sealing_course KeepsParts
    sealing_out h = (seed_out _, (begin_out true h _, (assocs_out true h _, (texts_out true h _, (tagging_out, tt)))))

    pub verify_out : KeepsParts P (opening_course p x).front
    unfolding opening_course KeepsParts
    verify_out =
        (seed_out _, (begin_out false no_writes _, (assocs_out false no_writes _, (texts_out false no_writes _, (verifying_out, tt)))))

    open_out_lem : Writes true → KeepsParts P (opening_course p x).back
    unfolding opening_course KeepsParts
    open_out_lem h = (seed_out _, (begin_out true h _, (assocs_out true h _, (texts_out true h _, tt))))

  -- its length
  pub course_long : KeepsCourse (λ (m : Machine). length m.out ≡ length x.text) (course p x)
  unfolding course written
  course_long = go x.sealing
    where
      Q : List ℕ → Type 0
      Q o = length o ≡ length x.text

      wrote : Writes Q true
      wrote e i m q = length_put_block 32 i m.state x.text m.out q

      go : (b : Bool) → KeepsCourse (λ (m : Machine). length m.out ≡ length x.text) (pick b (sealing_course p x) (opening_course p x))
      go true = record { front = sealing_out Q wrote; back = unfold sealing_course KeepsParts in tt }
      go false = record { front = verify_out Q; back = open_out_lem Q wrote }

  -- up to an opening's decision it is as it was
  pub opening_untouched : x.sealing ≡ false → (o : List ℕ) → KeepsParts (λ (m : Machine). m.out ≡ o) (course p x).front
  unfolding course
  opening_untouched d o =
      subst (λ (b : Bool). KeepsParts (λ (m : Machine). m.out ≡ o) (pick b (sealing_course p x) (opening_course p x)).front) (sym d)
      (verify_out (λ (u : List ℕ). u ≡ o))

-- ---- all buffers

module _ (p : Cipher) (l : LawfulCipher p) (x : Input) (nonce : Buffer 16 x.nonce) (assoc : Bytes x.assoc) (text : Bytes x.text)
    (ls lss : ℕ) (hs : 64 ≤ ls) (hss : 64 ≤ lss) where
  abbrev S : Machine → Type 0
  S = Sound ls lss (length x.text)

  state_to : (m : Machine) {s : List ℕ} → S m → Buffer ls s → S (record { state = s; session = m.session; out = m.out; tag = m.tag })
  state_to m h k = record { state = k; session = h.session; out = h.out; tag = h.tag }

  -- n bytes in the place of the first, of a buffer of more
  put_kept : (n len : ℕ) (k s : List ℕ) → Buffer n k → n ≤ len → Buffer len s → Buffer len (put k s)
  put_kept n len k s b room h =
      record { long = length-put k s (omega (arith, b.long, h.long)) ∙ h.long; bytes = bytes-put k s b.bytes h.bytes }

  sixteen : (len : ℕ) (s : List ℕ) → 16 ≤ len → Buffer len s → Buffer 16 (take 16 s)
  sixteen len s room h = record { long = length-take-le 16 s (omega (arith, h.long)); bytes = bytes_take 16 h.bytes }

  zeros : (n : ℕ) → Buffer n (replicate n 0)
  zeros n = record { long = length-replicate n 0; bytes = bytes-zeros n }

  turn_kept : (n : ℕ) → n ≤ 64 → {r : ℕ → List ℕ → List ℕ} → Keeps n r → (k : ℕ) (s : List ℕ) → Buffer ls s → Buffer ls (front n (r k) s)
  turn_kept n b q k s h =
      record { long = length_once q k s (omega (arith, h.long)) ∙ h.long; bytes = bytes_once q k s (omega (arith, h.long)) h.bytes }

  -- ---- what is written

  written_kept : (i : ℕ) (m : Machine) → S m → S (written p x i m)
  unfolding written
  written_kept i m h =
      let y = xors m.state (block 32 i x.text) in
      record {
        state = h.state;
        session = h.session;
        tag = h.tag;
        out = record {
          long = length_put_block 32 i m.state x.text m.out h.out.long;
          bytes = bytes-put_at (i * 32) y m.out (bytes-xors m.state (block 32 i x.text) h.state.bytes (bytes-block 32 i x.text (text))) h.out.bytes;
        };
      }

  due_kept : (w : Bool) (j : ℕ) (m : Machine) → S m → S (due p x w j m)
  unfolding due
  due_kept w j m h = go w (eqb j (blocks (length x.assoc)))
    where
      go : (w b : Bool) → S (pick w (pick b (written p x 0 m) m) m)
      go true true = written_kept 0 m h
      go true false = h
      go false b = h

  next_kept : (w : Bool) (i : ℕ) (m : Machine) → S m → S (next p x w i m)
  unfolding next
  next_kept true i m h = written_kept (suc i) m h
  next_kept false i m h = h

  -- ---- the parts

  seed_kept : (n : ℕ) → KeepsPart S (seed p x n)
  unfolding seed seeded
  seed_kept n =
      record {
        enter = λ i m h. record {
          state = put_kept 64 ls (x.nonce ++ replicate 48 0) m.state (appended nonce (zeros 48)) hs h.state;
          session = put_kept 64 lss (replicate 64 0) m.session (zeros 64) hss h.session;
          out = h.out;
          tag = h.tag;
        };
        turn = λ k m h. state_to m h (turn_kept 16 (omega arith) (l.forward x.key (replicate 16 0)) k m.state h.state);
        leave = λ i m h. h;
      }

  begin_kept : (w : Bool) (n : ℕ) → KeepsPart S (begin p x w n)
  unfolding begin
  begin_kept w n =
      record {
        enter = λ i m h.
            let start : Buffer 48 (iv x.nonce) = record { long = length_iv x.nonce nonce.long; bytes = bytes_iv x.nonce nonce.bytes } in
            state_to m h
            (put_kept 64 ls (iv x.nonce ++ take 16 m.state) m.state
            (appended start (sixteen ls m.state (omega arith) h.state)) hs h.state);
        turn = λ k m h. state_to m h (turn_kept 64 (omega arith) l.round k m.state h.state);
        leave = λ i m h. due_kept w 0 m h;
      }

  assocs_kept : (w : Bool) (n : ℕ) → KeepsPart S (assocs p x w n)
  unfolding assocs
  assocs_kept w n =
      record {
        enter = λ i m h.
            let a = block 32 i x.assoc in
            state_to m h (record {
              long = length-last_data a m.state (omega (arith, length-block 32 i x.assoc)) (omega (arith, h.state.long)) ∙ h.state.long;
              bytes = bytes-last_data a m.state (bytes-block 32 i x.assoc (assoc)) h.state.bytes;
            });
        turn = λ k m h. state_to m h (turn_kept 64 (omega arith) l.round k m.state h.state);
        leave = λ i m h. due_kept w (suc i) m h;
      }

  cipher-bytes : (o : List ℕ) → Bytes o → Bytes (cipher_of x o)
  unfolding cipher_of
  cipher-bytes o h = go x.sealing
    where
      go : (b : Bool) → Bytes (pick b o x.text)
      go true = h
      go false = text

  bytes-first-mark : (i : ℕ) (s : List ℕ) → Bytes s → Bytes (first i text_mark s)
  bytes-first-mark zero s h = bytes-text_mark s h
  bytes-first-mark (suc i) s h = h

  texts_kept : (w : Bool) (n : ℕ) → KeepsPart S (texts p x w n)
  unfolding texts
  texts_kept w n =
      record {
        enter = λ i m h.
            let c = block 32 i (cipher_of x m.out) in
            let s = first i text_mark m.state in
            let e = length-first-mark i m.state ∙ h.state.long in
            state_to m h (record {
              long = length-last_text c s (omega (arith, length-block 32 i (cipher_of x m.out))) ∙ e;
              bytes = bytes-last_text c s (bytes-block 32 i (cipher_of x m.out) (cipher-bytes m.out h.out.bytes)) (bytes-first-mark i m.state h.state.bytes);
            });
        turn = λ k m h. state_to m h (turn_kept 64 (omega arith) l.round k m.state h.state);
        leave = λ i m h. next_kept w i m h;
      }

  -- 16 bytes in place of the state, which is set aside
  aside_kept : (a : List ℕ) → Buffer 16 a → (m : Machine) → S m → S (set_aside p x a m)
  unfolding set_aside
  aside_kept a b m h =
      record {
        state = put_kept 64 ls (a ++ replicate 48 0) m.state (appended b (zeros 48)) hs h.state;
        session = put_kept 64 lss (take 64 m.state) m.session
            (record { long = length-take-le 64 m.state (omega (arith, h.state.long)); bytes = bytes_take 64 h.state.bytes }) hss h.session;
        out = h.out;
        tag = h.tag;
      }

  tagging_kept : KeepsPart S (tagging p x)
  unfolding tagging tagged
  tagging_kept =
      record {
        enter = λ i m h. aside_kept (take 16 m.state) (sixteen ls m.state (omega arith) h.state) m h;
        turn = λ k m h. state_to m h (turn_kept 16 (omega arith) (l.forward x.key (closing_tweak m.session)) k m.state h.state);
        leave = λ i m h. record { state = h.state; session = h.session; out = h.out; tag = sixteen ls m.state (omega arith) h.state };
      }

  verifying_kept : KeepsPart S (verifying p x)
  unfolding verifying
  verifying_kept =
      record {
        enter = λ i m h. aside_kept (take 16 m.tag) (sixteen 16 m.tag (omega arith) h.tag) m h;
        turn = λ k m h. state_to m h (turn_kept 16 (omega arith) (l.backward x.key (closing_tweak m.session)) k m.state h.state);
        leave = λ i m h. h;
      }

  pub course_kept : KeepsCourse (Sound ls lss (length x.text)) (course p x)
  unfolding course sealing_course opening_course KeepsParts
  course_kept = go x.sealing
    where
      go : (b : Bool) → KeepsCourse S (pick b (sealing_course p x) (opening_course p x))
      go true =
          record { front = (seed_kept _, (begin_kept _ _, (assocs_kept _ _, (texts_kept _ _, (tagging_kept, tt))))); back = tt }
      go false =
          record {
            front = (seed_kept _, (begin_kept _ _, (assocs_kept _ _, (texts_kept _ _, (verifying_kept, tt)))));
            back = (seed_kept _, (begin_kept _ _, (assocs_kept _ _, (texts_kept _ _, tt))));
          }
