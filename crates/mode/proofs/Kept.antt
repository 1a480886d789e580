-- Wherever a job is stopped, its buffers have the lengths that they had, and hold bytes.
-- Assumes nothing.
use Rattle.std.specs.Prelude.{◌≡◌, Bool, List, ◌++◌, ℕ, zero, suc, ◌+◌, ◌-◌, ◌*◌, ◌≤◌, ◌<◌, length, take, replicate}
use Rattle.std.proofs.Common.{◌∙◌, arith, lit<, length-append, length-drop}
use Rattle.std.proofs.Math.Bool.{true, false}
use Rattle.std.proofs.Math.ListN.{drop, length-replicate}
use Rattle.std.proofs.Math.Seq.{length-take-le}
use Rattle.bits.specs.Pick.{pick}
use Rattle.bits.specs.Bytes.{Bytes, bytes-zeros, bytes_take, bytes_drop, bytes-append, cons_bytes}
use Rattle.bits.specs.Run.{front, length_once, bytes_once}
use Rattle.bits.specs.Xors.{xors, bytes-xors}
use Rattle.stopping.specs.Kept.{KeepsPart, KeepsParts, keeps-parts}
use Rattle.bits.specs.Put.{put, put_at, length-put, length-put_at, bytes-put, bytes-put_at}
use Rattle.scheme.specs.Machine.{Buffer, Sound, Machine, Input, first, cipher_of, nothing}
use Rattle.scheme.specs.Lawful.{KeepsCourse}
use Rattle.bits.specs.Strings.{xor_into, xor_at, block}
use Rattle.mode.specs.Strings.{padded, bit_at, xor_bit}
use Rattle.bits.specs.StringLaws.{length-xor_into, length-xor_at, length-block, length_put_block, bytes-xor_into, bytes-xor_at, bytes-block}
use Rattle.mode.specs.StringLaws.{length-xor_bit, bytes-xor_bit, bytes-padded}
use Rattle.mode.specs.Params.{Params, LawfulParams, iv}
use Rattle.mode.specs.PaperLaws.{length-start}
use Rattle.mode.specs.Parts.{tag_of, part, key_start, key_bits, key_end, written, texts, mac_start, assocs, ciphers, set_aside, mac_key_start, mac_key_bits, mac_key_end, take_back, tagged, mac_end, enc_parts, mac_parts, sealing_course, opening_course, course}
use Rattle.mode.specs.Kept.{Given}

module _ (p : Params) (l : LawfulParams p) where
  bytes_iv : (flag : ℕ) → flag < 256 → Bytes (iv p flag)
  unfolding iv
  bytes_iv flag h =
      cons_bytes h
      (cons_bytes (lit< tt)
      (cons_bytes l.small_b
      (cons_bytes (lit< tt)
      (cons_bytes l.small_h (cons_bytes l.small_b' (cons_bytes l.small_e (cons_bytes l.small_k (bytes-zeros (p.n - 24)))))))))

  -- a string of 16 bytes and an initial value
  start : (k : List ℕ) → Buffer 16 k → (flag : ℕ) → flag < 256 → Buffer p.n (k ++ iv p flag)
  start k h flag f = record { long = length-start p l k flag h.long; bytes = bytes-append h.bytes (bytes_iv flag f) }

  module _ (x : Input) (given : Given x) (ls lss : ℕ) (hs : p.n ≤ ls) (hss : p.n ≤ lss) where
    abbrev P : Machine → Type 0
    P = Sound ls lss (length x.text)

    -- ---- what is done to a state

    put_kept : (k s : List ℕ) (n : ℕ) → Buffer p.n k → p.n ≤ n → Buffer n s → Buffer n (put k s)
    put_kept k s n b f h =
        record { long = length-put k s (omega (arith, b.long, h.long)) ∙ h.long; bytes = bytes-put k s b.bytes h.bytes }

    bit_kept : (y : Bool) (s : List ℕ) → Buffer ls s → Buffer ls (xor_bit y s)
    bit_kept y s h = record { long = length-xor_bit y s ∙ h.long; bytes = bytes-xor_bit y s h.bytes }

    nonce_kept : (s : List ℕ) → Buffer ls s → Buffer ls (put_at (p.n - 16) x.nonce s)
    nonce_kept s h =
        record {
          long = length-put_at (p.n - 16) x.nonce s (omega (arith, l.room, given.nonce.long, h.long)) ∙ h.long;
          bytes = bytes-put_at (p.n - 16) x.nonce s given.nonce.bytes h.bytes;
        }

    flip_kept : (s : List ℕ) → Buffer ls s → Buffer ls (xor_at (p.n - 1) 1 s)
    flip_kept s h = record { long = length-xor_at (p.n - 1) 1 s ∙ h.long; bytes = bytes-xor_at (p.n - 1) 1 s (lit< tt) h.bytes }

    first_kept : (i : ℕ) (f : List ℕ → List ℕ) (s : List ℕ) → (Buffer ls s → Buffer ls (f s)) → Buffer ls s → Buffer ls (first i f s)
    first_kept zero f s k h = k h
    first_kept (suc i) f s k h = h

    block_kept : (i : ℕ) (str s : List ℕ) → Bytes str → Buffer ls s → Buffer ls (xor_into (block p.b i (padded p.b str)) s)
    block_kept i str s k h =
        let y = block p.b i (padded p.b str) in
        let fits : length y ≤ length s = omega (arith, length-block p.b i (padded p.b str), l.block_fits, h.long) in
        record {
          long = length-xor_into y s fits ∙ h.long;
          bytes = bytes-xor_into y s (bytes-block p.b i (padded p.b str) (bytes-padded p.b str k)) h.bytes;
        }

    round_kept : (i : ℕ) (s : List ℕ) → Buffer ls s → Buffer ls (front p.n (p.round i) s)
    round_kept i s h =
        record {
          long = length_once l.keeps i s (omega (arith, h.long)) ∙ h.long;
          bytes = bytes_once l.keeps i s (omega (arith, h.long)) h.bytes;
        }

    -- a block of output at its place; past the end there is none
    out_kept : (i : ℕ) (s o : List ℕ) → Buffer ls s → Buffer (length x.text) o
        → Buffer (length x.text) (put_at (i * p.b) (xors s (block p.b i x.text)) o)
    out_kept i s o h k =
        let y = xors s (block p.b i x.text) in
        record {
          long = length_put_block p.b i s x.text o k.long;
          bytes = bytes-put_at (i * p.b) y o (bytes-xors s (block p.b i x.text) h.bytes (bytes-block p.b i x.text given.text)) k.bytes;
        }

    -- ---- the parts

    -- a part that changes the state alone
    on_state_lem : (count r : ℕ) (f : ℕ → Machine → List ℕ) → ((i : ℕ) (m : Machine) → P m → Buffer ls (f i m))
        → KeepsPart P (part p x count r (λ i m. record { state = f i m; session = m.session; out = m.out; tag = m.tag }) nothing)
    unfolding part
    on_state_lem count r f k =
        record {
          enter = λ i m h. record { state = k i m h; session = h.session; out = h.out; tag = h.tag };
          turn = λ j m h. record { state = round_kept (p.most - r + j) m.state h.state; session = h.session; out = h.out; tag = h.tag };
          leave = λ i m h. h;
        }

    texts_kept : KeepsPart P (texts p x)
    unfolding texts part written
    texts_kept =
        record {
          enter = λ i m h. record { state = first_kept i (put_at (p.n - 16) x.nonce) m.state (nonce_kept m.state) h.state; session = h.session; out = h.out; tag = h.tag };
          turn = λ j m h. record { state = round_kept (p.most - p.s_e + j) m.state h.state; session = h.session; out = h.out; tag = h.tag };
          leave = λ i m h. record { state = h.state; session = h.session; out = out_kept i m.state m.out h.state h.out; tag = h.tag };
        }

    enc_kept : KeepsParts P (enc_parts p x)
    unfolding KeepsParts key_start key_bits key_end
    enc_kept = (
      on_state_lem _ _ _ (λ i m h. put_kept (x.key ++ iv p 3) m.state ls (start x.key given.key 3 (lit< tt)) hs h.state),
      (
        on_state_lem _ _ _ (λ i m h. bit_kept (bit_at x.nonce i) m.state h.state),
        (on_state_lem _ _ _ (λ i m h. bit_kept (bit_at x.nonce 127) m.state h.state), (texts_kept, tt)),
      ),
    )

    cipher-bytes : (o : List ℕ) → Bytes o → Bytes (cipher_of x o)
    unfolding cipher_of
    cipher-bytes o h = go x.sealing
      where
        go : (b : Bool) → Bytes (pick b o x.text)
        go true = h
        go false = given.text

    aside_kept : KeepsPart P (mac_key_start p x)
    unfolding mac_key_start part set_aside
    aside_kept =
        record {
          enter = λ i m h. record {
            state = put_kept (x.key ++ iv p 2) m.state ls (start x.key given.key 2 (lit< tt)) hs h.state;
            session = put_kept (take p.n m.state) m.session lss (record { long = length-take-le p.n m.state (omega (arith, h.state.long)); bytes = bytes_take p.n h.state.bytes }) hss h.session;
            out = h.out;
            tag = h.tag;
          };
          turn = λ j m h. record { state = round_kept (p.most - p.s_k + j) m.state h.state; session = h.session; out = h.out; tag = h.tag };
          leave = λ i m h. h;
        }

    tag_kept : (s g : List ℕ) → Buffer ls s → Buffer 16 g → Buffer 16 (tag_of x s g)
    unfolding tag_of
    tag_kept s g h k = go x.sealing
      where
        go : (b : Bool) → Buffer 16 (pick b (take 16 s) g)
        go true = record { long = length-take-le 16 s (omega (arith, l.room, h.long)); bytes = bytes_take 16 h.bytes }
        go false = k

    back_long : (m : Machine) → P m → length (take 16 m.state ++ drop 16 (take p.n m.session)) ≡ p.n
    back_long m h =
        let r = l.room in
        let a = h.state.long in
        let b = h.session.long in
        rw (length-append, length-take-le 16 m.state (omega arith), length-drop, length-take-le p.n m.session (omega arith)) (omega arith)

    end_kept : KeepsPart P (mac_end p x)
    unfolding mac_end part take_back tagged
    end_kept =
        record {
          enter = λ i m h. record {
            state = put_kept (take 16 m.state ++ drop 16 (take p.n m.session)) m.state ls
                (record { long = back_long m h; bytes = bytes-append (bytes_take 16 h.state.bytes) (bytes_drop 16 (bytes_take p.n h.session.bytes)) }) hs h.state;
            session = put_kept (replicate p.n 0) m.session lss (record { long = length-replicate p.n 0; bytes = bytes-zeros p.n }) hss h.session;
            out = h.out;
            tag = h.tag;
          };
          turn = λ j m h. record { state = round_kept (p.most - p.s_h + j) m.state h.state; session = h.session; out = h.out; tag = h.tag };
          leave = λ i m h. record { state = h.state; session = h.session; out = h.out; tag = tag_kept m.state m.tag h.state h.tag };
        }

    mac_kept : KeepsParts P (mac_parts p x)
    unfolding KeepsParts mac_start assocs ciphers mac_key_bits mac_key_end
    mac_kept = (
      on_state_lem _ _ _ (λ i m h. put_kept (x.nonce ++ iv p 1) m.state ls (start x.nonce given.nonce 1 (lit< tt)) hs h.state),
      (
        on_state_lem _ _ _ (λ i m h. block_kept i x.assoc m.state given.assoc h.state),
        (
          on_state_lem _ _ _
              (λ i m h. block_kept i (cipher_of x m.out) (first i (xor_at (p.n - 1) 1) m.state) (cipher-bytes m.out h.out.bytes) (first_kept i (xor_at (p.n - 1) 1) m.state (flip_kept m.state) h.state)),
          (
            aside_kept,
            (
              on_state_lem _ _ _ (λ i m h. bit_kept (bit_at (take 16 m.session) i) m.state h.state),
              (on_state_lem _ _ _ (λ i m h. bit_kept (bit_at (take 16 m.session) 127) m.state h.state), (end_kept, tt)),
            ),
          ),
        ),
      ),
    )

    -- whichever way a job goes
    pub course_kept : KeepsCourse P (course p x)
    unfolding course sealing_course opening_course KeepsParts
    course_kept = go x.sealing
      where
        go : (b : Bool) → KeepsCourse P (pick b (sealing_course p x) (opening_course p x))
        go true = record { front = keeps-parts P (enc_parts p x) (mac_parts p x) enc_kept mac_kept; back = tt }
        go false = record { front = mac_kept; back = enc_kept }
