-- ISAP as a row of calls, by document 01's rule between two rounds: an output block is written with the last round of its own call; all
-- else (xors, padding, domain bit, session key) goes with the round after it; the tag, or its comparison, with the last round of V.
-- Assumes nothing.
use Rattle.std.specs.Prelude.{true, List, [], ◌∷◌, ◌++◌, ℕ, ◌+◌, ◌-◌, ◌*◌, ◌/◌, length, take, drop, replicate}
use Rattle.bits.specs.Pick.{pick}
use Rattle.bits.specs.Run.{front}
use Rattle.bits.specs.Xors.{xors}
use Rattle.stopping.specs.Parts.{Part}
use Rattle.stopping.specs.Course.{Course}
use Rattle.bits.specs.Put.{put, put_at}
use Rattle.scheme.specs.Machine.{Machine, Input, cipher_of, on_state, first, nothing}
use Rattle.bits.specs.Strings.{xor_into, xor_at, block, same}
use Rattle.mode.specs.Strings.{padded, bit_at, xor_bit}
use Rattle.mode.specs.Params.{Params, iv}
use Rattle.mode.specs.Paper.{blocks}

-- the tag: a sealing's is the first 16 bytes of the last state, an opening keeps the one received
unfoldable pub tag_of : Input → List ℕ → List ℕ → List ℕ
tag_of x s tag = pick x.sealing (take 16 s) tag

module _ (p : Params) (x : Input) where
  -- `count` calls of `rounds` rounds each: the last of the permutation's, on the first n bytes of the state
  unfoldable pub part : (count rounds : ℕ) → (enter leave : ℕ → Machine → Machine) → Part Machine
  part count rounds enter leave =
      record {
        shape = record { count = count; rounds = rounds };
        enter = enter;
        turn = λ k. on_state (front p.n (p.round (p.most - rounds + k)));
        leave = leave;
      }

  -- ---- encryption: re-keying with the nonce, then the text's blocks

  unfoldable pub key_start : Part Machine
  key_start = part 1 p.s_k (λ i. on_state (put (x.key ++ iv p 3))) nothing

  unfoldable pub key_bits : Part Machine
  key_bits = part 127 p.s_b (λ i. on_state (xor_bit (bit_at x.nonce i))) nothing

  unfoldable pub key_end : Part Machine
  key_end = part 1 p.s_k (λ i. on_state (xor_bit (bit_at x.nonce 127))) nothing

  -- with the last round of call i, block i of the text is xored into its place of the output
  unfoldable pub written : ℕ → Machine → Machine
  written i m =
      record {
        state = m.state;
        session = m.session;
        out = put_at (i * p.b) (xors m.state (block p.b i x.text)) m.out;
        tag = m.tag;
      }

  unfoldable pub texts : Part Machine
  texts = part (blocks p (length x.text)) p.s_e (λ i. on_state (first i (put_at (p.n - 16) x.nonce))) written

  -- ---- MAC: the nonce, associated data, ciphertext, re-keying with the first 16 bytes, and the tag

  unfoldable pub mac_start : Part Machine
  mac_start = part 1 p.s_h (λ i. on_state (put (x.nonce ++ iv p 1))) nothing

  unfoldable pub assocs : Part Machine
  assocs = part (length x.assoc / p.b + 1) p.s_h (λ i. on_state (xor_into (block p.b i (padded p.b x.assoc)))) nothing

  -- the domain bit goes with the first block of ciphertext, that is, with the round after the last block of associated data
  unfoldable pub ciphers : Part Machine
  ciphers =
      part (length x.text / p.b + 1) p.s_h
      (λ i m. on_state (λ s. xor_into (block p.b i (padded p.b (cipher_of x m.out))) (first i (xor_at (p.n - 1) 1) s)) m) nothing

  -- the MAC state is set aside for as long as its re-keying lasts
  unfoldable pub set_aside : ℕ → Machine → Machine
  set_aside i m =
      record {
        state = put (x.key ++ iv p 2) m.state;
        session = put (take p.n m.state) m.session;
        out = m.out;
        tag = m.tag;
      }

  unfoldable pub mac_key_start : Part Machine
  mac_key_start = part 1 p.s_k set_aside nothing

  unfoldable pub mac_key_bits : Part Machine
  mac_key_bits = part 127 p.s_b (λ i m. on_state (xor_bit (bit_at (take 16 m.session) i)) m) nothing

  unfoldable pub mac_key_end : Part Machine
  mac_key_end = part 1 p.s_k (λ i m. on_state (xor_bit (bit_at (take 16 m.session) 127)) m) nothing

  -- and comes back with the session key in place of its first 16 bytes
  unfoldable pub take_back : ℕ → Machine → Machine
  take_back i m =
      record {
        state = put (take 16 m.state ++ drop 16 (take p.n m.session)) m.state;
        session = put (replicate p.n 0) m.session;
        out = m.out;
        tag = m.tag;
      }

  unfoldable pub tagged : ℕ → Machine → Machine
  tagged i m = record { state = m.state; session = m.session; out = m.out; tag = tag_of x m.state m.tag }

  unfoldable pub mac_end : Part Machine
  mac_end = part 1 p.s_h take_back tagged

  -- ---- the parts in order, and a job's course

  abbrev pub enc_parts : List (Part Machine)
  enc_parts = key_start ∷ key_bits ∷ key_end ∷ texts ∷ []

  abbrev pub mac_parts : List (Part Machine)
  mac_parts = mac_start ∷ assocs ∷ ciphers ∷ mac_key_start ∷ mac_key_bits ∷ mac_key_end ∷ mac_end ∷ []

  -- sealing runs encryption, then MAC, and has nothing to decide
  unfoldable pub sealing_course : Course Machine
  sealing_course = record { front = enc_parts ++ mac_parts; back = []; accepts = λ m. true }

  -- opening runs MAC, compares the tags, then decrypts
  unfoldable pub opening_course : Course Machine
  opening_course = record { front = mac_parts; back = enc_parts; accepts = λ m. same m.tag (take 16 m.state) }

  unfoldable pub course : Course Machine
  course = pick x.sealing sealing_course opening_course
