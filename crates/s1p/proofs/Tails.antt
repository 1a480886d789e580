-- What lies beyond the first 64 bytes of the state and of the session bytes is neither read nor changed: a job steps as if it were not there.
-- Assumes nothing.
use Rattle.std.specs.Prelude.{◌≡◌, refl, Bool, ℕ, suc, ◌+◌, ◌*◌, ◌%◌, ◌≤◌, ◌<◌, ltb, eqb, get_or, drop}
use Rattle.std.proofs.Common.{sym, ap₂, ◌∙◌, arith, ltb-true, length-drop}
use Rattle.std.proofs.Math.Path.{ap}
use Rattle.std.proofs.Math.Bool.{true, false}
use mathlib.Core.List.{List, [], ◌∷◌, ◌++◌, append_assoc}
use Rattle.std.proofs.Math.ListN.{length, take, replicate, length-append, length-take, length-replicate, get_or-append}
use Rattle.std.proofs.Math.Seq.{take-append-le}
use Rattle.std.proofs.lemmas.List.{drop-append-le}
use Rattle.bits.specs.Pick.{pick}
use Rattle.bits.specs.Run.{front, Keeps, length_once}
use Rattle.bits.specs.Put.{put, put_at, length-put, put-within}
use Rattle.bits.specs.Xors.{xors-front}
use Rattle.bits.specs.Strings.{xor_into, xor_at, block}
use Rattle.bits.specs.StringLaws.{length-xor_at, length-block, xor_into-front, xor_at-front}
use Rattle.scheme.specs.Machine.{Machine, Input, on_state, first, cipher_of, with_tails, Exact}
use Rattle.scheme.specs.Blind.{Blind, BlindPart, BlindParts, first-within, blind_none, state_blind}
use Rattle.s1p.specs.Cipher.{Cipher, LawfulCipher}
use Rattle.s1p.specs.Paper.{blocks, iv, text_mark, short_mark, padded, last_data, last_text, closing_tweak}
use Rattle.s1p.specs.Parts.{written, due, next, seeded, seed, begin, assocs, texts, set_aside, tagged, tagging, verifying, walk, seal_parts, verify_parts}
use Rattle.s1p.proofs.Layouts.{length-padded, length-short_mark}
use Rattle.s1p.proofs.Laws.{length-last_data, length-last_text, length_iv}
use Rattle.s1p.proofs.Calls.{length-first-mark}

-- ---- a state of a longer buffer

front_longer : (n : ℕ) (f : List ℕ → List ℕ) (s t : List ℕ) → n ≤ length s → front n f (s ++ t) ≡ front n f s ++ t
unfolding front
front_longer n f s t h =
    ap₂ (λ (u v : List ℕ). f u ++ v) (take-append-le n s t h) (drop-append-le n s t h) ∙ sym (append_assoc (f (take n s)) (drop n s) t)

text_mark-within : (s t : List ℕ) → 32 < length s → text_mark (s ++ t) ≡ text_mark s ++ t
unfolding text_mark
text_mark-within s t h = xor_at-front 32 1 s t h

short_mark-within : (s t : List ℕ) → 32 < length s → short_mark (s ++ t) ≡ short_mark s ++ t
unfolding short_mark
short_mark-within s t h = xor_at-front 32 2 s t h

last_data-within : (a s t : List ℕ) → length a ≤ 32 → 32 < length s → last_data a (s ++ t) ≡ last_data a s ++ t
unfolding last_data
last_data-within a s t k h = go (ltb (length a) 32) refl
  where
    go : (b : Bool) → ltb (length a) 32 ≡ b
        → pick b (xor_into (padded a) (short_mark (s ++ t))) (xor_into a (s ++ t)) ≡ pick b (xor_into (padded a) (short_mark s)) (xor_into a s) ++ t
    go true e =
        ap (xor_into (padded a)) (short_mark-within s t h)
        ∙ xor_into-front (padded a) (short_mark s) t (omega (arith, length-padded a (ltb-true (length a) 32 e), length-short_mark s))
    go false e = xor_into-front a s t (omega arith)

last_text-within : (c s t : List ℕ) → length c ≤ 32 → 32 < length s → last_text c (s ++ t) ≡ last_text c s ++ t
unfolding last_text
last_text-within c s t k h = go (ltb (length c) 32)
  where
    go : (b : Bool)
        → pick b (put c (xor_at (length c) 1 (short_mark (s ++ t)))) (put c (s ++ t)) ≡ pick b (put c (xor_at (length c) 1 (short_mark s))) (put c s) ++ t
    go true =
        let e = length-short_mark s in
        ap (λ (u : List ℕ). put c (xor_at (length c) 1 u)) (short_mark-within s t h)
        ∙ ap (put c) (xor_at-front (length c) 1 (short_mark s) t (omega arith))
        ∙ put-within c (xor_at (length c) 1 (short_mark s)) t (omega (arith, length-xor_at (length c) 1 (short_mark s)))
    go false = put-within c s t (omega arith)

pub closing_tweak-within : (s t : List ℕ) → 32 ≤ length s → closing_tweak (s ++ t) ≡ closing_tweak s
unfolding closing_tweak
closing_tweak-within s t h =
    ap₂ (λ (u : List ℕ) (b : ℕ). take 15 u ++ ((b % 128 + 128) ∷ [])) (drop-append-le 16 s t (omega arith)) (get_or-append s t 0 31 (omega arith))
    ∙ ap (λ (u : List ℕ). u ++ ((get_or s 31 0 % 128 + 128) ∷ [])) (take-append-le 15 (drop 16 s) t (omega (arith, length-drop 16 s)))

pub take_within : (s t : List ℕ) → length s ≡ 64 → take 16 (s ++ t) ≡ take 16 s
take_within s t h = take-append-le 16 s t (omega arith)

-- ---- the parts

module _ (p : Cipher) (l : LawfulCipher p) (x : Input) where
  block_small : (i : ℕ) (s : List ℕ) → length (block 32 i s) ≤ 32
  block_small i s = omega (arith, length-block 32 i s)

  -- rounds on the first n bytes
  front-blind : (n : ℕ) (r : ℕ → List ℕ → List ℕ) → Keeps n r → n ≤ 64 → (k : ℕ) → Blind 64 (on_state (front n (r k)))
  front-blind n r q b k =
      state_blind 64 (λ m. front n (r k) m.state) (λ m h. length_once q k m.state (omega (arith, h.state)))
      (λ t v m h. front_longer n (r k) m.state t (omega (arith, h.state)))

  -- and with a tweak from the session bytes
  closing_blind : (f : (tweak : List ℕ) → ℕ → List ℕ → List ℕ) → ((t : List ℕ) → Keeps 16 (f t)) → (k : ℕ)
      → Blind 64 (λ m. on_state (front 16 (f (closing_tweak m.session) k)) m)
  closing_blind f q k =
      state_blind 64 (λ m. front 16 (f (closing_tweak m.session) k) m.state)
      (λ m h. length_once (q (closing_tweak m.session)) k m.state (omega (arith, h.state)))
      (λ t v m h.
      ap (λ (w : List ℕ). front 16 (f w k) (m.state ++ t)) (closing_tweak-within m.session v (omega (arith, h.session)))
      ∙ front_longer 16 (f (closing_tweak m.session) k) m.state t (omega (arith, h.state)))

  -- ---- what is written

  written-blind : (i : ℕ) → Blind 64 (written p x i)
  unfolding written
  written-blind i =
      record {
        keeps = λ m h. record { state = h.state; session = h.session };
        apart = λ t v m h. ap (λ (y : List ℕ). record { state = m.state ++ t; session = m.session ++ v; out = put_at (i * 32) y m.out; tag = m.tag })
            (xors-front m.state t (block 32 i x.text) (omega (arith, block_small i x.text, h.state)));
      }

  due-blind : (w : Bool) (j : ℕ) → Blind 64 (due p x w j)
  unfolding due
  due-blind w j = go w (eqb j (blocks (length x.assoc)))
    where
      go : (w b : Bool) → Blind 64 (λ m. pick w (pick b (written p x 0 m) m) m)
      go true true = written-blind 0
      go true false = blind_none 64
      go false b = blind_none 64

  next-blind : (w : Bool) (i : ℕ) → Blind 64 (next p x w i)
  unfolding next
  next-blind true i = written-blind (suc i)
  next-blind false i = blind_none 64

  -- ---- what goes with the first rounds

  begin-blind : (w : Bool) (n : ℕ) → length x.nonce ≡ 16 → BlindPart 64 (begin p x w n)
  unfolding begin
  begin-blind w n hn =
      record {
        enter = λ i. state_blind 64 (λ m. put (iv x.nonce ++ take 16 m.state) m.state)
            (λ m h. length-put (iv x.nonce ++ take 16 m.state) m.state (fits m.state h.state))
            (λ t v m h.
            ap (λ (a : List ℕ). put (iv x.nonce ++ a) (m.state ++ t)) (take_within m.state t h.state)
            ∙ put-within (iv x.nonce ++ take 16 m.state) m.state t (fits m.state h.state));
        turn = front-blind 64 p.round l.round (omega arith);
        leave = λ i. due-blind w 0;
      }
    where
      fits : (s : List ℕ) → length s ≡ 64 → length (iv x.nonce ++ take 16 s) ≤ length s
      fits s h = omega (arith, length-append (iv x.nonce) (take 16 s), length_iv x.nonce hn, length-take 16 s)

  assocs-blind : (w : Bool) (n : ℕ) → BlindPart 64 (assocs p x w n)
  unfolding assocs
  assocs-blind w n =
      record {
        enter = λ i. state_blind 64 (λ m. last_data (block 32 i x.assoc) m.state)
            (λ m h. length-last_data (block 32 i x.assoc) m.state (block_small i x.assoc) (omega (arith, h.state)))
            (λ t v m h. last_data-within (block 32 i x.assoc) m.state t (block_small i x.assoc) (omega (arith, h.state)));
        turn = front-blind 64 p.round l.round (omega arith);
        leave = λ i. due-blind w (suc i);
      }

  texts-blind : (w : Bool) (n : ℕ) → BlindPart 64 (texts p x w n)
  unfolding texts
  texts-blind w n =
      record {
        enter = λ i. state_blind 64 (λ m. last_text (block 32 i (cipher_of x m.out)) (first i text_mark m.state))
            (λ m h.
            let c = block 32 i (cipher_of x m.out) in
            let e = length-first-mark i m.state in
            length-last_text c (first i text_mark m.state) (omega (arith, block_small i (cipher_of x m.out), h.state)) ∙ e)
            (λ t v m h.
            let c = block 32 i (cipher_of x m.out) in
            ap (last_text c) (first-within i text_mark m.state t (text_mark-within m.state t (omega (arith, h.state))))
            ∙ last_text-within c (first i text_mark m.state) t (block_small i (cipher_of x m.out))
            (omega (arith, length-first-mark i m.state, h.state)));
        turn = front-blind 64 p.round l.round (omega arith);
        leave = next-blind w;
      }

  -- both buffers put anew, from what reads no further
  both-blind : (a b : Machine → List ℕ) → ((m : Machine) → Exact 64 m → length (a m) ≤ 64) → ((m : Machine) → Exact 64 m → length (b m) ≤ 64)
      → ((t v : List ℕ) (m : Machine) → Exact 64 m → a (with_tails t v m) ≡ a m)
      → ((t v : List ℕ) (m : Machine) → Exact 64 m → b (with_tails t v m) ≡ b m)
      → Blind 64 (λ m. record { state = put (a m) m.state; session = put (b m) m.session; out = m.out; tag = m.tag })
  both-blind a b ha hb ea eb =
      record {
        keeps = λ m h. record {
          state = length-put (a m) m.state (omega (arith, ha m h, h.state)) ∙ h.state;
          session = length-put (b m) m.session (omega (arith, hb m h, h.session)) ∙ h.session;
        };
        apart = λ t v m h. ap₂ (λ (s ss : List ℕ). record { state = s; session = ss; out = m.out; tag = m.tag })
            (ap (λ (y : List ℕ). put y (m.state ++ t)) (ea t v m h) ∙ put-within (a m) m.state t (omega (arith, ha m h, h.state)))
            (ap (λ (y : List ℕ). put y (m.session ++ v)) (eb t v m h) ∙ put-within (b m) m.session v (omega (arith, hb m h, h.session)));
      }

  seed-blind : (n : ℕ) → length x.nonce ≡ 16 → BlindPart 64 (seed p x n)
  unfolding seed seeded
  seed-blind n hn =
      record {
        enter = λ i. both-blind (λ m. x.nonce ++ replicate 48 0) (λ m. replicate 64 0)
            (λ m h. omega (arith, length-append x.nonce (replicate 48 0), length-replicate {A = ℕ} 48 0)) (λ m h. omega (arith, length-replicate {A = ℕ} 64 0))
            (λ t v m h. refl) (λ t v m h. refl);
        turn = front-blind 16 (p.forward x.key (replicate 16 0)) (l.forward x.key (replicate 16 0)) (omega arith);
        leave = λ i. blind_none 64;
      }

  -- the state set aside behind 16 bytes
  aside_blind : (a : Machine → List ℕ) → ((m : Machine) → Exact 64 m → length (a m) ≤ 16) → ((t v : List ℕ) (m : Machine) → Exact 64 m → a (with_tails t v m) ≡ a m)
      → Blind 64 (λ m. set_aside p x (a m) m)
  unfolding set_aside
  aside_blind a ha ea =
      both-blind (λ m. a m ++ replicate 48 0) (λ m. take 64 m.state)
      (λ m h. omega (arith, length-append (a m) (replicate 48 0), length-replicate {A = ℕ} 48 0, ha m h)) (λ m h. omega (arith, length-take 64 m.state))
      (λ t v m h. ap (λ (y : List ℕ). y ++ replicate 48 0) (ea t v m h)) (λ t v m h. take-append-le 64 m.state t (omega (arith, h.state)))

  tagging-blind : BlindPart 64 (tagging p x)
  unfolding tagging tagged
  tagging-blind =
      record {
        enter = λ i. aside_blind (λ m. take 16 m.state) (λ m h. omega (arith, length-take 16 m.state)) (λ t v m h. take_within m.state t h.state);
        turn = closing_blind (p.forward x.key) (l.forward x.key);
        leave = λ i. record {
          keeps = λ m h. record { state = h.state; session = h.session };
          apart = λ t v m h. ap (λ (y : List ℕ). record { state = m.state ++ t; session = m.session ++ v; out = m.out; tag = y }) (take_within m.state t h.state);
        };
      }

  verifying-blind : BlindPart 64 (verifying p x)
  unfolding verifying
  verifying-blind =
      record {
        enter = λ i. aside_blind (λ m. take 16 m.tag) (λ m h. omega (arith, length-take 16 m.tag)) (λ t v m h. refl);
        turn = closing_blind (p.backward x.key) (l.backward x.key);
        leave = λ i. blind_none 64;
      }

  -- ---- the rows

  module _ (hn : length x.nonce ≡ 16) where
    pub seal-blind : BlindParts 64 (seal_parts p x)
    unfolding BlindParts
    seal-blind = (seed-blind _ hn, (begin-blind _ _ hn, (assocs-blind _ _, (texts-blind _ _, (tagging-blind, tt)))))

    pub verify_blind : BlindParts 64 (verify_parts p x)
    unfolding BlindParts
    verify_blind = (seed-blind _ hn, (begin-blind _ _ hn, (assocs-blind _ _, (texts-blind _ _, (verifying-blind, tt)))))

    pub walk-blind : (w : Bool) (n d t : ℕ) → BlindParts 64 (walk p x w n d t)
    unfolding BlindParts
    walk-blind w n d t = (seed-blind n hn, (begin-blind w n hn, (assocs-blind w d, (texts-blind w t, tt))))
