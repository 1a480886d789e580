-- The rows have as many rounds as request (iv)'s formulas say, and every course is lawful.
-- Assumes nothing.
use Rattle.std.specs.Prelude.{◌≡◌, Bool, ℕ, ◌<◌, length}
use Rattle.std.proofs.Math.Path.{refl, ap}
use Rattle.std.proofs.Common.{sym, ◌∙◌, subst}
use Rattle.std.proofs.Math.Bool.{true, false}
use Rattle.bits.specs.Pick.{pick}
use Rattle.stopping.specs.Parts.{rounds_in, EachSome, shapes}
use Rattle.stopping.specs.Course.{front_rounds, back_rounds, Lawful}
use Rattle.scheme.specs.Machine.{Input}
use Rattle.s1p.specs.Cipher.{Cipher}
use Rattle.s1p.specs.Parts.{seed, begin, assocs, texts, tagging, verifying, seal_parts, verify_parts, open_parts, sealing_course, opening_course, course}
use Rattle.s1p.specs.Counts.{verify_rounds, front_shapes, second_shapes, back_shapes, back_count, front-count, back_count_lem, front_some, back_some_lem, verify_some}

module _ (p : Cipher) (x : Input) where
  shapes-seal : shapes (seal_parts p x) ≡ front_shapes (length x.assoc) (length x.text)
  unfolding shapes front_shapes seed begin assocs texts tagging
  shapes-seal = refl

  shapes_verify : shapes (verify_parts p x) ≡ front_shapes (length x.assoc) (length x.text)
  unfolding shapes front_shapes seed begin assocs texts verifying
  shapes_verify = refl

  shapes_open : shapes (open_parts p x) ≡ second_shapes (length x.assoc) (length x.text)
  unfolding shapes second_shapes seed begin assocs texts
  shapes_open = refl

  pub shapes-front : shapes (course p x).front ≡ front_shapes (length x.assoc) (length x.text)
  unfolding course sealing_course opening_course
  shapes-front = go x.sealing
    where
      go : (b : Bool) → shapes (pick b (sealing_course p x) (opening_course p x)).front ≡ front_shapes (length x.assoc) (length x.text)
      go true = shapes-seal
      go false = shapes_verify

  pub shapes-back : shapes (course p x).back ≡ back_shapes x.sealing (length x.assoc) (length x.text)
  unfolding course back_shapes sealing_course opening_course shapes
  shapes-back = go x.sealing
    where
      go : (b : Bool) → shapes (pick b (sealing_course p x) (opening_course p x)).back ≡ back_shapes b (length x.assoc) (length x.text)
      go true = refl
      go false = shapes_open

  -- both directions take 24 + 12 (1 + u + v) rounds up to the decision
  pub front-rounds : front_rounds (course p x) ≡ verify_rounds (length x.assoc) (length x.text)
  unfolding front_rounds
  front-rounds = ap rounds_in shapes-front ∙ front-count (length x.assoc) (length x.text)

  -- and an opening of a text 12 + 12 (u + v) more
  pub back-rounds : back_rounds (course p x) ≡ back_count x.sealing (length x.assoc) (length x.text)
  unfolding back_rounds
  back-rounds = ap rounds_in shapes-back ∙ back_count_lem x.sealing (length x.assoc) (length x.text)

  -- every course is lawful
  pub lawful : Lawful (course p x)
  lawful =
      record {
        front_some = subst EachSome (sym shapes-front) (front_some (length x.assoc) (length x.text));
        back_some = subst EachSome (sym shapes-back) (back_some_lem x.sealing (length x.assoc) (length x.text));
        decides = subst (λ (n : ℕ). 0 < n) (sym front-rounds) (verify_some (length x.assoc) (length x.text));
      }
