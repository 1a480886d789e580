-- A job's row around the MAC's re-keying, with any parts before the MAC and behind it: the session bytes change with the first round of the
-- re-keying and with the first round behind it, the tag with the last round of the MAC, and neither changes at any other round.
-- Assumes nothing.
use Rattle.std.specs.Prelude.{◌≡◌, Bool, ℕ, suc, ◌+◌, ◌/◌, ◌≤◌, ◌<◌, length, take}
use Rattle.std.proofs.Math.Path.{refl, sym, ap, ap₂}
use Rattle.std.proofs.Common.{◌∙◌, take_at}
use Rattle.std.proofs.Math.Bool.{true, false}
use mathlib.Core.List.{List, ◌∷◌, ◌++◌}
use Rattle.std.proofs.Math.Nat.{add-mul, mul_comm}
use native.Mathlib.Omega.{arith}
use Rattle.std.proofs.Math.ListN.{drop, replicate}
use Rattle.std.proofs.lemmas.List.{length-replicate}
use Rattle.bits.specs.Pick.{pick}
use Rattle.bits.specs.Put.{put, put_front}
use Rattle.stopping.specs.Stopped.{stopped, total}
use Rattle.stopping.specs.Rows.{run, at_end}
use Rattle.stopping.specs.Parts.{Part, rounds_in, EachSome, row, shapes, shapes-append, rounds_in-append, total-row}
use Rattle.stopping.specs.Kept.{KeepsParts, keeps-parts}
use Rattle.stopping.specs.Course.{parts, front_rounds, halted}
use Rattle.stopping.specs.Since.{stopped-parts, until_parts, since_first, until_last, halted_until, halted_since}
use Rattle.mode.specs.Params.{Params, LawfulParams}
use Rattle.scheme.specs.Machine.{Machine, Input, machine}
use Rattle.mode.specs.Parts.{part, mac_start, assocs, ciphers, set_aside, mac_key_start, mac_key_bits, mac_key_end, take_back, tagged, mac_end, course}
use Rattle.mode.proofs.CountLaws.{front-rounds, lawful}
use Rattle.mode.specs.Counts.{rekey_rounds, verify_rounds, encrypt_rounds, front_count}
use Rattle.mode.specs.Between.{hash_rounds, aside_after, mac_state}
use Rattle.mode.proofs.Touches.{hashing, mac_rekeying, mac_bits, hashing-keeps, mac_rekeying-keeps, mac_bits-keeps}
use Rattle.mode.specs.Aside.{SessionOf}

module _ (p : Params) (l : LawfulParams p) (x : Input) where
  abbrev a : ℕ
  a = length x.assoc

  abbrev t : ℕ
  t = length x.text

  -- ---- the rounds of these parts

  count-append : (bs ds : List (Part Machine)) → rounds_in (shapes (bs ++ ds)) ≡ rounds_in (shapes bs) + rounds_in (shapes ds)
  count-append bs ds = ap rounds_in (shapes-append bs ds) ∙ rounds_in-append (shapes bs) (shapes ds)

  count-hashing : rounds_in (shapes (hashing p x)) ≡ hash_rounds p a t
  unfolding rounds_in shapes hash_rounds mac_start assocs ciphers part
  count-hashing =
      let i = a / p.b in
      let j = t / p.b in
      omega (arith, mul_comm p.s_h (i + j + 3), add-mul (i + j) 3 p.s_h, add-mul i j p.s_h, add-mul i 1 p.s_h, add-mul j 1 p.s_h)

  count-rekeying : (rounds_in (shapes (mac_rekeying p x)) ≡ rekey_rounds p) × (0 < rekey_rounds p)
  unfolding rounds_in shapes rekey_rounds mac_key_start mac_key_bits mac_key_end part
  count-rekeying = let k = l.some_k in (omega arith, omega arith)

  -- the tag's call is what is left of V
  verify_is : verify_rounds p a t ≡ hash_rounds p a t + rekey_rounds p + p.s_h
  unfolding verify_rounds hash_rounds
  verify_is =
      let k = a / p.b + t / p.b in
      omega (arith, mul_comm p.s_h (k + 3), mul_comm p.s_h (k + 4), add-mul k 3 p.s_h, add-mul k 4 p.s_h)

  front_is_lem : front_rounds (course p x) ≡ aside_after p x.sealing a t + rekey_rounds p + p.s_h
  unfolding front_count aside_after
  front_is_lem = front-rounds p x ∙ go x.sealing
    where
      go : (b : Bool) → front_count p b a t ≡ aside_after p b a t + rekey_rounds p + p.s_h
      go true = omega (arith, verify_is)
      go false = omega (arith, verify_is)

  -- ---- a course in which the parts cs come before the MAC and ds behind it

  module _ (cs ds : List (Part Machine)) (is : parts (course p x) ≡ ((cs ++ hashing p x) ++ mac_rekeying p x) ++ mac_end p x ∷ ds)
      (count : rounds_in (shapes cs) ≡ pick x.sealing (encrypt_rounds p t) 0) (some : EachSome (shapes ds)) where
    -- the parts up to the re-keying, and to its end
    abbrev up_to : List (Part Machine)
    up_to = cs ++ hashing p x

    abbrev through : List (Part Machine)
    through = up_to ++ mac_rekeying p x

    count_up_to : rounds_in (shapes up_to) ≡ aside_after p x.sealing a t
    unfolding aside_after
    count_up_to = count-append cs (hashing p x) ∙ ap₂ (λ (i j : ℕ). i + j) count count-hashing

    count_through : rounds_in (shapes through) ≡ aside_after p x.sealing a t + rekey_rounds p
    count_through = count-append up_to (mac_rekeying p x) ∙ ap₂ (λ (i j : ℕ). i + j) count_up_to count-rekeying.0

    rekeying_some : EachSome (shapes (mac_rekeying p x))
    unfolding EachSome shapes mac_key_start mac_key_bits mac_key_end part
    rekeying_some = (l.some_k, (l.some_b, (l.some_k, tt)))

    end_some : EachSome (shapes (mac_end p x ∷ ds))
    unfolding EachSome shapes mac_end part
    end_some = (l.some_h, some)

    -- stopped before the end of the re-keying
    early : (n : ℕ) (m : Machine) → n ≤ rounds_in (shapes through) → halted (course p x) n m ≡ stopped (row through) n m
    early n m h =
        halted_until (course p x) (lawful p l x) m n (omega (arith, front_is_lem, count_through))
        ∙ ap (λ (ps : List (Part Machine)). stopped (row ps) n m) is
        ∙ stopped-parts through (mac_end p x ∷ ds) end_some n m h

    -- the tag, before the last round of the MAC
    pub tag_until : (m : Machine) → KeepsParts (λ (k : Machine). k.tag ≡ m.tag) cs
        → (n : ℕ) → n < front_rounds (course p x) → (halted (course p x) n m).tag ≡ m.tag
    unfolding mac_end take_back part
    tag_until m h n b =
        let T : Machine → Type 0 = λ k. k.tag ≡ m.tag in
        ap Machine.tag (halted_until (course p x) (lawful p l x) m n (omega arith))
        ∙ ap (λ (ps : List (Part Machine)). (stopped (row ps) n m).tag) is
        ∙ until_last T through (mac_end p x) ds refl end_some
        (keeps-parts T up_to (mac_rekeying p x) (keeps-parts T cs (hashing p x) h (hashing-keeps p x (λ r. r.tag ≡ m.tag)))
        (mac_rekeying-keeps p x (λ o g. g ≡ m.tag)))
        (λ u e. e) (λ k u e. e) m refl n (omega (arith, front_is_lem, count_through))

    -- the session bytes; `reached` is the machine at the re-keying
    module _ (keeps : (u : List ℕ) → KeepsParts (λ (k : Machine). k.session ≡ u) cs)
        (kept : (u : List ℕ) → KeepsParts (λ (k : Machine). k.session ≡ u) ds)
        (m : Machine) (rest o g : List ℕ) (long : length (mac_state p x) ≡ p.n)
        (reached : run (row up_to) m ≡ machine (mac_state p x ++ rest) m.session o g) where
      -- what lies beyond the n bytes
      abbrev v : List ℕ
      v = drop p.n m.session

      -- as they were
      until : (n : ℕ) → n ≤ rounds_in (shapes up_to) → (stopped (row through) n m).session ≡ m.session
      until n b =
          let S : Machine → Type 0 = λ k. k.session ≡ m.session in
          until_parts S up_to (mac_rekeying p x) rekeying_some
          (keeps-parts S cs (hashing p x) (keeps m.session) (hashing-keeps p x (λ r. r.session ≡ m.session))) m refl n b

      -- set aside
      since : (n : ℕ) → rounds_in (shapes up_to) < n → (stopped (row through) n m).session ≡ mac_state p x ++ v
      unfolding mac_key_start set_aside part put
      since n b =
          since_first (λ (k : Machine). k.session ≡ mac_state p x ++ v) up_to (mac_key_start p x) (mac_bits p x) refl
          (λ k u e. e) (λ u e. e) (mac_bits-keeps p x (λ r. r.session ≡ mac_state p x ++ v)) m
          (ap (λ (k : Machine). put (take p.n k.state) k.session) reached
          ∙ ap (λ (u : List ℕ). put u m.session) (take_at (mac_state p x) rest p.n long)
          ∙ ap (λ (i : ℕ). mac_state p x ++ drop i m.session) long)
          n b

      -- zeros come back
      back : (n : ℕ) → rounds_in (shapes through) < n → (stopped (row (through ++ mac_end p x ∷ ds)) n m).session ≡ replicate p.n 0 ++ v
      unfolding mac_end take_back tagged part
      back n b =
          let last : (run (row through) m).session ≡ mac_state p x ++ v =
          ap Machine.session (sym (at_end (row through) m))
          ∙ since (total (row through)) (omega (arith, total-row through, count_through, count_up_to, count-rekeying.1)) in
          since_first (λ (k : Machine). k.session ≡ replicate p.n 0 ++ v) through (mac_end p x) ds refl
          (λ k u e. e) (λ u e. e) (kept (replicate p.n 0 ++ v)) m
          (ap (put (replicate p.n 0)) last ∙ put_front (replicate p.n 0) (mac_state p x) v (length-replicate p.n 0 ∙ sym long))
          n b

      pub session_of : SessionOf p x m
      session_of =
          record {
            before = λ n b. ap Machine.session (early n m (omega (arith, count_through))) ∙ until n (omega (arith, count_up_to));
            aside = λ n f b. ap Machine.session (early n m (omega (arith, count_through))) ∙ since n (omega (arith, count_up_to));
            behind = λ n b.
                halted_since (course p x) (lawful p l x) m (λ (k : Machine). k.session ≡ replicate p.n 0 ++ v) (suc (rounds_in (shapes through)))
                (omega (arith, front_is_lem, count_through, l.some_h))
                (λ i f. ap (λ (ps : List (Part Machine)). (stopped (row ps) i m).session) is ∙ back i f) n (omega (arith, count_through));
          }
