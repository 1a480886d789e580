-- S1P keeps the laws of a scheme.
-- Assumes nothing.
use Rattle.std.specs.Prelude.{◌≡◌, Bool, ℕ, length}
use Rattle.std.proofs.Math.Path.{refl, ap, ap₂}
use Rattle.std.proofs.Math.Bool.{true, false}
use mathlib.Core.List.{List, []}
use Rattle.std.proofs.Common.{arith}
use Rattle.bits.specs.Pick.{pick}
use Rattle.bits.specs.Strings.{same}
use Rattle.scheme.specs.Machine.{Machine, Input}
use Rattle.scheme.specs.Blind.{BlindParts, BlindCourse, blind-append}
use Rattle.scheme.specs.Scheme.{all_shapes, parts_of}
use Rattle.scheme.specs.Lawful.{LawfulScheme}
use Rattle.s1p.specs.Cipher.{Cipher, LawfulCipher}
use Rattle.s1p.specs.Paper.{last_state, required, closing_tweak, tag_of, seal}
use Rattle.s1p.specs.Parts.{seal_parts, verify_parts, open_parts, sealing_course, opening_course, course}
use Rattle.s1p.specs.Counts.{front_shapes, second_shapes, back_shapes, front-count, back_count_lem, front_some, back_some_lem, verify_some}
use Rattle.s1p.proofs.Counts.{shapes-front, shapes-back}
use Rattle.s1p.specs.Scheme.{s1p_scheme}
use Rattle.s1p.proofs.Laws.{length-required, length-encrypt}
use Rattle.s1p.proofs.Evenly.{length-text_out, length-last_state}
use Rattle.s1p.proofs.Kept.{course_long, opening_untouched, course_kept}
use Rattle.s1p.proofs.Tails.{take_within, seal-blind, verify_blind, walk-blind}
use Rattle.s1p.proofs.Theorems.{open_sealed_lem, sealed-back, sealing_finished, opening_is_paper}

-- five parts, and in an opening four more
parts_fixed : (p : Cipher) (b : Bool) (a m : ℕ) → length (all_shapes (s1p_scheme p) b a m) ≡ parts_of (s1p_scheme p) b
unfolding s1p_scheme all_shapes parts_of front_shapes second_shapes back_shapes
parts_fixed p true a m = refl
parts_fixed p false a m = refl

-- a sealing has nothing to decide
sealing_accepts : (p : Cipher) (x : Input) → x.sealing ≡ true → (m : Machine) → (course p x).accepts m ≡ true
unfolding course sealing_course
sealing_accepts p x d m = ap (λ (b : Bool). (pick b (sealing_course p x) (opening_course p x)).accepts m) d

module _ (p : Cipher) (l : LawfulCipher p) where
  -- what lies beyond 64 bytes plays no part, in the decision neither
  course-blind : (x : Input) → length x.nonce ≡ 16 → BlindCourse 64 (course p x)
  unfolding course sealing_course opening_course BlindParts
  course-blind x hn = go x.sealing
    where
      go : (b : Bool) → BlindCourse 64 (pick b (sealing_course p x) (opening_course p x))
      go true = record { all = blind-append 64 (seal_parts p x) [] (seal-blind p l x hn) tt; decides = λ t v m h. refl }
      go false =
          record {
            all = blind-append 64 (verify_parts p x) (open_parts p x) (verify_blind p l x hn) (walk-blind p l x hn _ _ _ _);
            decides = λ t v m h. ap₂ same (take_within m.state t h.state) (take_within m.session v h.session);
          }

  length_tag : (key nonce a m : List ℕ) → length nonce ≡ 16 → length (seal p key nonce a m).tag ≡ 16
  unfolding seal tag_of
  length_tag key nonce a m hn =
      let s = last_state p true key nonce a m in
      let long = length-last_state p l key nonce a hn true m in
      length-encrypt p l key (closing_tweak s) (required s) (length-required s (omega arith))

  pub lawful_s1p : LawfulScheme (s1p_scheme p)
  unfolding s1p_scheme
  lawful_s1p =
      record {
        shapes_front = shapes-front p;
        shapes_back = shapes-back p;
        count_front = λ b. front-count;
        count_back = back_count_lem;
        some_front = λ b. front_some;
        some_back = back_some_lem;
        fixed = parts_fixed p;
        decides = λ b. verify_some;
        accepts = sealing_accepts p;
        long = course_long p;
        sound = λ x g ls lss hs hss. course_kept p l x g.nonce g.assoc g.text ls lss hs hss;
        untouched = opening_untouched p;
        blind = λ x h. course-blind x h.nonce;
        sealed = λ x h d m r. let e = sealing_finished p l x h.nonce m r d in (ap Machine.out e, ap Machine.tag e);
        opened = λ x h d m r g. opening_is_paper p l x h.nonce.long m r d g.long;
        cipher_long = λ key nonce a m hk hn. unfold seal in length-text_out p l key nonce a hn true m;
        tag_long = λ key nonce a m hk hn. length_tag key nonce a m hn;
        open_sealed = λ key nonce a m hk hn ha hm. open_sealed_lem p l key nonce a hk hn ha m hm;
        sealed_back = λ key nonce a c tag m hk hn ha hc hg e. sealed-back p l key nonce a hk hn ha c tag m hc hg e;
      }
