-- The rows have as many rounds as the formulas say, and every course is lawful.
-- Assumes nothing.
use Rattle.std.specs.Prelude.{◌≡◌, Bool, ◌++◌, ℕ, ◌+◌, ◌-◌, ◌*◌, ◌/◌, ◌<◌, length}
use Rattle.std.proofs.Math.Path.{refl, ap, ap₂}
use Rattle.std.proofs.Common.{sym, ◌∙◌, subst}
use Rattle.std.proofs.Math.Bool.{true, false}
use Rattle.std.proofs.Math.Nat.{add-mul, mul_comm, div-eq_of_lt}
use native.Mathlib.Omega.{arith}
use Rattle.bits.specs.Pick.{pick}
use Rattle.stopping.specs.Parts.{rounds_in, EachSome, shapes, rounds_in-append, some_shapes}
use Rattle.stopping.specs.Course.{front_rounds, back_rounds, Lawful}
use Rattle.mode.specs.Params.{Params, LawfulParams}
use Rattle.mode.specs.Paper.{blocks}
use Rattle.scheme.specs.Machine.{Input}
use Rattle.mode.specs.Parts.{part, key_start, key_bits, key_end, texts, mac_start, assocs, ciphers, mac_key_start, mac_key_bits, mac_key_end, mac_end, enc_parts, mac_parts, sealing_course, opening_course, course}
use Rattle.mode.specs.Counts.{rekey_rounds, verify_rounds, encrypt_rounds, enc_shapes, mac_shapes, front_shapes, back_shapes, front_count, back_count}

module _ (p : Params) where
  pub rounds_mac : (a m : ℕ) → rounds_in (mac_shapes p a m) ≡ verify_rounds p a m
  unfolding rounds_in mac_shapes verify_rounds rekey_rounds
  rounds_mac a m =
      let i = a / p.b in
      let j = m / p.b in
      let all : p.s_h * (i + j + 4) ≡ i * p.s_h + j * p.s_h + 4 * p.s_h =
      mul_comm p.s_h (i + j + 4) ∙ add-mul (i + j) 4 p.s_h ∙ ap (λ (n : ℕ). n + 4 * p.s_h) (add-mul i j p.s_h) in
      omega (arith, add-mul i 1 p.s_h, add-mul j 1 p.s_h)

  pub rounds_enc : (a m : ℕ) → rounds_in (enc_shapes p a m) ≡ encrypt_rounds p m
  unfolding rounds_in enc_shapes encrypt_rounds rekey_rounds
  rounds_enc a m = rw (mul_comm p.s_e (blocks p m)) (omega arith)

  module _ (x : Input) where
    pub shapes_mac : shapes (mac_parts p x) ≡ mac_shapes p (length x.assoc) (length x.text)
    unfolding shapes mac_shapes part mac_start assocs ciphers mac_key_start mac_key_bits mac_key_end mac_end
    shapes_mac = refl

    pub shapes_enc : shapes (enc_parts p x) ≡ enc_shapes p (length x.assoc) (length x.text)
    unfolding shapes enc_shapes part key_start key_bits key_end texts
    shapes_enc = refl

    pub shapes_sealing : shapes (enc_parts p x ++ mac_parts p x)
        ≡ enc_shapes p (length x.assoc) (length x.text) ++ mac_shapes p (length x.assoc) (length x.text)
    unfolding shapes enc_shapes mac_shapes part key_start key_bits key_end texts mac_start assocs ciphers mac_key_start mac_key_bits mac_key_end mac_end
    shapes_sealing = refl

    -- the course's shapes depend on the direction and the lengths alone
    pub shapes-front : shapes (course p x).front ≡ front_shapes p x.sealing (length x.assoc) (length x.text)
    unfolding course front_shapes sealing_course opening_course
    shapes-front = go x.sealing
      where
        go : (b : Bool) → shapes (pick b (sealing_course p x) (opening_course p x)).front ≡ front_shapes p b (length x.assoc) (length x.text)
        go true = shapes_sealing
        go false = shapes_mac

    pub shapes-back : shapes (course p x).back ≡ back_shapes p x.sealing (length x.assoc) (length x.text)
    unfolding course back_shapes sealing_course opening_course shapes
    shapes-back = go x.sealing
      where
        go : (b : Bool) → shapes (pick b (sealing_course p x) (opening_course p x)).back ≡ back_shapes p b (length x.assoc) (length x.text)
        go true = refl
        go false = shapes_enc

-- ---- the rounds of each direction

module _ (p : Params) where
  pub front-count : (b : Bool) (a m : ℕ) → rounds_in (front_shapes p b a m) ≡ front_count p b a m
  unfolding front_shapes front_count
  front-count true a m =
      rounds_in-append (enc_shapes p a m) (mac_shapes p a m) ∙ ap₂ (λ (i j : ℕ). i + j) (rounds_enc p a m) (rounds_mac p a m)
  front-count false a m = rounds_mac p a m

  pub back_count_lem : (b : Bool) (a m : ℕ) → rounds_in (back_shapes p b a m) ≡ back_count p b m
  unfolding back_shapes back_count rounds_in
  back_count_lem true a m = refl
  back_count_lem false a m = rounds_enc p a m

  module _ (x : Input) where
    pub front-rounds : front_rounds (course p x) ≡ front_count p x.sealing (length x.assoc) (length x.text)
    unfolding front_rounds
    front-rounds = ap rounds_in (shapes-front p x) ∙ front-count x.sealing (length x.assoc) (length x.text)

    pub back-rounds : back_rounds (course p x) ≡ back_count p x.sealing (length x.text)
    unfolding back_rounds
    back-rounds = ap rounds_in (shapes-back p x) ∙ back_count_lem x.sealing (length x.assoc) (length x.text)

  -- a sealing takes E + V rounds, and so does an opening with a right tag
  pub all_count_lem : (b : Bool) (a m : ℕ) → front_count p b a m + back_count p b m ≡ encrypt_rounds p m + verify_rounds p a m
  unfolding front_count back_count
  all_count_lem true a m = omega arith
  all_count_lem false a m = omega arith

-- ---- every course is lawful

module _ (p : Params) (l : LawfulParams p) where
  enc_some : (a m : ℕ) → EachSome (enc_shapes p a m)
  unfolding EachSome enc_shapes
  enc_some a m = (l.some_k, (l.some_b, (l.some_k, (l.some_e, tt))))

  mac_some : (a m : ℕ) → EachSome (mac_shapes p a m)
  unfolding EachSome mac_shapes
  mac_some a m = (l.some_h, (l.some_h, (l.some_h, (l.some_k, (l.some_b, (l.some_k, (l.some_h, tt)))))))

  pub front_some : (b : Bool) (a m : ℕ) → EachSome (front_shapes p b a m)
  unfolding front_shapes
  front_some true a m = some_shapes (enc_shapes p a m) (mac_shapes p a m) (enc_some a m) (mac_some a m)
  front_some false a m = mac_some a m

  pub back_some_lem : (b : Bool) (a m : ℕ) → EachSome (back_shapes p b a m)
  unfolding back_shapes EachSome
  back_some_lem true a m = tt
  back_some_lem false a m = enc_some a m

  verify_some : (a m : ℕ) → 0 < verify_rounds p a m
  unfolding verify_rounds rekey_rounds
  verify_some a m = let k = l.some_k in omega arith

  -- whatever the text, its encryption has rounds: those of the re-keying, which are all that an empty one takes
  pub encrypt_some : (m : ℕ) → 0 < encrypt_rounds p m
  unfolding encrypt_rounds rekey_rounds
  encrypt_some m = let k = l.some_k in omega arith

  pub encrypt_empty : (m : ℕ) → m ≡ 0 → encrypt_rounds p m ≡ rekey_rounds p
  unfolding encrypt_rounds blocks
  encrypt_empty m e =
      let none : (m + (p.b - 1)) / p.b ≡ 0 = div-eq_of_lt (omega (arith, l.block)) in
      omega (arith, ap (λ (k : ℕ). p.s_e * k) none)

  pub front_pos : (b : Bool) (a m : ℕ) → 0 < front_count p b a m
  unfolding front_count
  front_pos true a m = omega (arith, verify_some a m)
  front_pos false a m = verify_some a m

  pub lawful : (x : Input) → Lawful (course p x)
  lawful x =
      record {
        front_some = subst EachSome (sym (shapes-front p x)) (front_some x.sealing (length x.assoc) (length x.text));
        back_some = subst EachSome (sym (shapes-back p x)) (back_some_lem x.sealing (length x.assoc) (length x.text));
        decides = subst (λ (n : ℕ). 0 < n) (sym (front-rounds p x)) (front_pos x.sealing (length x.assoc) (length x.text));
      }
