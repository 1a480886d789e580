-- What lies beyond the first n bytes of the state and of the session bytes is neither read nor changed: a job steps as if it were not there.
-- Assumes nothing.
use Rattle.std.specs.Prelude.{◌≡◌, refl, Bool, ℕ, ◌+◌, ◌-◌, ◌*◌, ◌≤◌, length, take, replicate}
use Rattle.std.proofs.Math.Path.{ap, ap₂}
use Rattle.std.proofs.Common.{◌∙◌, arith, length-append, length-drop}
use Rattle.std.proofs.Math.Bool.{true, false}
use mathlib.Core.List.{List, [], ◌++◌}
use Rattle.std.proofs.Math.ListN.{drop, length-replicate}
use Rattle.std.proofs.Math.Seq.{length-take-le}
use Rattle.std.proofs.lemmas.List.{take-append-le}
use Rattle.bits.specs.Pick.{pick}
use Rattle.bits.specs.Run.{front, length_once, front-within}
use Rattle.bits.specs.Xors.{xors-front}
use Rattle.bits.specs.Put.{put, put_at, length-put, length-put_at, put-within, put_at-within}
use Rattle.scheme.specs.Machine.{Exact, Machine, Input, on_state, first, cipher_of, nothing}
use Rattle.scheme.specs.Blind.{Blind, BlindPart, BlindParts, BlindCourse, first-within, first-exact, blind_none, state_blind, blind-append}
use Rattle.bits.specs.Strings.{xor_into, xor_at, block, same}
use Rattle.mode.specs.Strings.{padded, bit_at, xor_bit}
use Rattle.bits.specs.StringLaws.{length-xor_into, length-xor_at, length-block, xor_into-front, xor_at-front}
use Rattle.mode.specs.StringLaws.{length-xor_bit, xor_bit-front}
use Rattle.mode.specs.Params.{Params, LawfulParams, iv}
use Rattle.mode.specs.PaperLaws.{length-start}
use Rattle.mode.specs.Parts.{tag_of, part, key_start, key_bits, key_end, written, texts, mac_start, assocs, ciphers, set_aside, mac_key_start, mac_key_bits, mac_key_end, take_back, tagged, mac_end, enc_parts, mac_parts, sealing_course, opening_course, course}

-- ---- the parts

module _ (p : Params) (l : LawfulParams p) (x : Input) where
  fits : (i : ℕ) (str s : List ℕ) → length s ≡ p.n → length (block p.b i str) ≤ length s
  fits i str s h = omega (arith, length-block p.b i str, l.block_fits)

  -- the first 16 bytes
  take_within : (s t : List ℕ) → length s ≡ p.n → take 16 (s ++ t) ≡ take 16 s
  take_within s t h = take-append-le 16 s t (omega (arith, l.room))

  turn_blind : (i : ℕ) → Blind p.n (on_state (front p.n (p.round i)))
  turn_blind i =
      record {
        keeps = λ m h. record { state = length_once l.keeps i m.state (omega (arith, h.state)) ∙ h.state; session = h.session };
        apart = λ t v m h. ap (λ (s : List ℕ). record { state = s; session = m.session ++ v; out = m.out; tag = m.tag })
            (front-within p.n (p.round i) m.state t h.state);
      }

  -- a part from its enter and its leave
  part-blind : (count r : ℕ) (enter leave : ℕ → Machine → Machine) → ((i : ℕ) → Blind p.n (enter i)) → ((i : ℕ) → Blind p.n (leave i))
      → BlindPart p.n (part p x count r enter leave)
  unfolding part
  part-blind count r enter leave a b = record { enter = a; turn = λ k. turn_blind (p.most - r + k); leave = b }

  nothing-blind : (i : ℕ) → Blind p.n (nothing i)
  nothing-blind i = blind_none p.n

  put-blind : (k : List ℕ) → length k ≡ p.n → Blind p.n (on_state (put k))
  put-blind k e =
      state_blind p.n (λ m. put k m.state) (λ m h. length-put k m.state (omega (arith, h.state)))
      (λ t v m h. put-within k m.state t (omega (arith, h.state)))

  bit-blind : (y : Bool) → Blind p.n (on_state (xor_bit y))
  bit-blind y =
      state_blind p.n (λ m. xor_bit y m.state) (λ m h. length-xor_bit y m.state)
      (λ t v m h. xor_bit-front y m.state t (omega (arith, h.state, l.room)))

  -- a bit of the bytes set aside
  aside_blind : (i : ℕ) → Blind p.n (λ m. on_state (xor_bit (bit_at (take 16 m.session) i)) m)
  aside_blind i =
      state_blind p.n (λ m. xor_bit (bit_at (take 16 m.session) i) m.state) (λ m h. length-xor_bit (bit_at (take 16 m.session) i) m.state)
      (λ t v m h.
      ap (λ (y : List ℕ). xor_bit (bit_at y i) (m.state ++ t)) (take_within m.session v h.session)
      ∙ xor_bit-front (bit_at (take 16 m.session) i) m.state t (omega (arith, h.state, l.room)))

  assoc_blind : (i : ℕ) → Blind p.n (on_state (xor_into (block p.b i (padded p.b x.assoc))))
  assoc_blind i =
      let str = padded p.b x.assoc in
      let y = block p.b i str in
      state_blind p.n (λ m. xor_into y m.state) (λ m h. length-xor_into y m.state (fits i str m.state h.state))
      (λ t v m h. xor_into-front y m.state t (fits i str m.state h.state))

  cipher-blind : (i : ℕ)
      → Blind p.n (λ m. on_state (λ s. xor_into (block p.b i (padded p.b (cipher_of x m.out))) (first i (xor_at (p.n - 1) 1) s)) m)
  cipher-blind i =
      let flip = xor_at (p.n - 1) 1 in
      state_blind p.n (λ m. xor_into (block p.b i (padded p.b (cipher_of x m.out))) (first i (xor_at (p.n - 1) 1) m.state))
      (λ m h.
      let str = padded p.b (cipher_of x m.out) in
      let long : length (first i flip m.state) ≡ length m.state = first-exact i flip m.state (length-xor_at (p.n - 1) 1 m.state) in
      length-xor_into (block p.b i str) (first i flip m.state) (fits i str (first i flip m.state) (long ∙ h.state)) ∙ long)
      (λ t v m h.
      let str = padded p.b (cipher_of x m.out) in
      let long : length (first i flip m.state) ≡ length m.state = first-exact i flip m.state (length-xor_at (p.n - 1) 1 m.state) in
      ap (xor_into (block p.b i str)) (first-within i flip m.state t (xor_at-front (p.n - 1) 1 m.state t (omega (arith, h.state, l.room))))
      ∙ xor_into-front (block p.b i str) (first i flip m.state) t (fits i str (first i flip m.state) (long ∙ h.state)))

  written-blind : (i : ℕ) → Blind p.n (written p x i)
  unfolding written
  written-blind i =
      record {
        keeps = λ m h. record { state = h.state; session = h.session };
        apart = λ t v m h. ap (λ (y : List ℕ). record { state = m.state ++ t; session = m.session ++ v; out = put_at (i * p.b) y m.out; tag = m.tag })
            (xors-front m.state t (block p.b i x.text) (fits i x.text m.state h.state));
      }

  tagged-blind : (i : ℕ) → Blind p.n (tagged p x i)
  unfolding tagged tag_of
  tagged-blind i =
      record {
        keeps = λ m h. record { state = h.state; session = h.session };
        apart = λ t v m h. ap (λ (y : List ℕ). record { state = m.state ++ t; session = m.session ++ v; out = m.out; tag = pick x.sealing y m.tag })
            (take_within m.state t h.state);
      }

  back_long : (m : Machine) → Exact p.n m → length (take 16 m.state ++ drop 16 (take p.n m.session)) ≡ p.n
  back_long m h =
      let r = l.room in
      let a = h.state in
      let b = h.session in
      rw (length-append, length-take-le 16 m.state (omega arith), length-drop, length-take-le p.n m.session (omega arith)) (omega arith)

  back-blind : (i : ℕ) → Blind p.n (take_back p x i)
  unfolding take_back
  back-blind i =
      record {
        keeps = λ m h. record {
          state = length-put (take 16 m.state ++ drop 16 (take p.n m.session)) m.state (omega (arith, back_long m h, h.state)) ∙ h.state;
          session = length-put (replicate p.n 0) m.session (omega (arith, length-replicate {A = ℕ} p.n 0, h.session)) ∙ h.session;
        };
        apart = λ t v m h. ap₂ (λ (a b : List ℕ). record { state = a; session = b; out = m.out; tag = m.tag })
            (ap₂ (λ (a b : List ℕ). put (a ++ drop 16 b) (m.state ++ t)) (take_within m.state t h.state)
            (take-append-le p.n m.session v (omega (arith, h.session)))
            ∙ put-within (take 16 m.state ++ drop 16 (take p.n m.session)) m.state t (omega (arith, back_long m h, h.state)))
            (put-within (replicate p.n 0) m.session v (omega (arith, length-replicate {A = ℕ} p.n 0, h.session)));
      }

  module _ (hk : length x.key ≡ 16) (hn : length x.nonce ≡ 16) where
    nonce_blind : (i : ℕ) → Blind p.n (on_state (first i (put_at (p.n - 16) x.nonce)))
    nonce_blind i =
        let f = put_at (p.n - 16) x.nonce in
        state_blind p.n (λ m. first i (put_at (p.n - 16) x.nonce) m.state)
        (λ m h. first-exact i f m.state (length-put_at (p.n - 16) x.nonce m.state (omega (arith, h.state, l.room, hn))))
        (λ t v m h. first-within i f m.state t (put_at-within (p.n - 16) x.nonce m.state t (omega (arith, h.state, l.room, hn))))

    set-blind : (i : ℕ) → Blind p.n (set_aside p x i)
    unfolding set_aside
    set-blind i =
        let long = length-start p l x.key 2 hk in
        record {
          keeps = λ m h. record {
            state = length-put (x.key ++ iv p 2) m.state (omega (arith, long, h.state)) ∙ h.state;
            session = length-put (take p.n m.state) m.session (omega (arith, length-take-le p.n m.state (omega (arith, h.state)), h.session)) ∙ h.session;
          };
          apart = λ t v m h. ap₂ (λ (a b : List ℕ). record { state = a; session = b; out = m.out; tag = m.tag })
              (put-within (x.key ++ iv p 2) m.state t (omega (arith, long, h.state)))
              (ap (λ (y : List ℕ). put y (m.session ++ v)) (take-append-le p.n m.state t (omega (arith, h.state)))
              ∙ put-within (take p.n m.state) m.session v (omega (arith, length-take-le p.n m.state (omega (arith, h.state)), h.session)));
        }

    enc_blind : BlindParts p.n (enc_parts p x)
    unfolding BlindParts key_start key_bits key_end texts
    enc_blind = (
      part-blind _ _ _ _ (λ i. put-blind (x.key ++ iv p 3) (length-start p l x.key 3 hk)) nothing-blind,
      (
        part-blind _ _ _ _ (λ i. bit-blind (bit_at x.nonce i)) nothing-blind,
        (part-blind _ _ _ _ (λ i. bit-blind (bit_at x.nonce 127)) nothing-blind, (part-blind _ _ _ _ nonce_blind written-blind, tt)),
      ),
    )

    mac_blind : BlindParts p.n (mac_parts p x)
    unfolding BlindParts mac_start assocs ciphers mac_key_start mac_key_bits mac_key_end mac_end
    mac_blind = (
      part-blind _ _ _ _ (λ i. put-blind (x.nonce ++ iv p 1) (length-start p l x.nonce 1 hn)) nothing-blind,
      (
        part-blind _ _ _ _ assoc_blind nothing-blind,
        (
          part-blind _ _ _ _ cipher-blind nothing-blind,
          (
            part-blind _ _ _ _ set-blind nothing-blind,
            (
              part-blind _ _ _ _ aside_blind nothing-blind,
              (part-blind _ _ _ _ (λ i. aside_blind 127) nothing-blind, (part-blind _ _ _ _ back-blind tagged-blind, tt)),
            ),
          ),
        ),
      ),
    )

    pub course-blind : BlindCourse p.n (course p x)
    unfolding course sealing_course opening_course BlindParts
    course-blind = go x.sealing
      where
        go : (b : Bool) → BlindCourse p.n (pick b (sealing_course p x) (opening_course p x))
        go true =
            record {
              all = blind-append p.n (enc_parts p x ++ mac_parts p x) [] (blind-append p.n (enc_parts p x) (mac_parts p x) enc_blind mac_blind) tt;
              decides = λ t v m h. refl;
            }
        go false =
            record {
              all = blind-append p.n (mac_parts p x) (enc_parts p x) mac_blind enc_blind;
              decides = λ t v m h. ap (same m.tag) (take_within m.state t h.state);
            }
