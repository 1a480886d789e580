-- The loop of `place_after`, turn by turn, over any shapes: the place of n rounds is that of the rounds left, behind the parts passed.
-- Assumes nothing.
use mathlib.Core.Path.{◌≡◌, sym, ap, ◌∙◌, subst}
use mathlib.Core.List.{List}
use Prim.Native.Nat.{ℕ, ◌+◌, ◌-◌, ◌*◌, ◌/◌, ◌%◌, ◌≤◌, ◌<◌}
use native.Mathlib.Numerals.{add-one}
use native.Mathlib.Omega.{arith}
use lib.ListN.{length, drop, drop_of_length-le}
use Rattle.stopping.specs.Parts.{Shape, rounds_in, EachSome}
use Rattle.stopping.specs.PlaceLaws.{Moves, moves, behind, walk_here, walk_on, start_of, start-here, start_on, each_some}
use Rattle.stopping.specs.Places.{Place, place_of, shape_at, place}

module _ (hs : List Shape) (n : ℕ) where
  abbrev pub Left : ℕ → ℕ → Type 0
  Left part left = place_of hs n ≡ behind part (place_of (drop part hs) left)

  pub left_none : (parts left : ℕ) → parts ≡ length hs → Left parts left → place_of hs n ≡ place parts 0 0
  unfolding place_of
  left_none parts left e inv =
      inv ∙ ap (λ (ks : List Shape). behind parts (place_of ks left)) (drop_of_length-le hs {i = parts} (omega arith))
      ∙ ap (λ (i : ℕ). place i 0 0) (omega arith)

  module _ (part left count rounds : ℕ) (h : part < length hs) (inv : Left part left)
      (c : count ≡ (shape_at hs part).count) (r : rounds ≡ (shape_at hs part).rounds) where
    pub found : left < count * rounds → place_of hs n ≡ place part (left / rounds) (left % rounds)
    found l =
        inv
        ∙ walk_here hs part left h (subst (λ (x : ℕ). left < x) (λ i. c i * r i) l)
        ∙ ap (λ (x : ℕ). place part (left / x) (left % x)) (sym r)

    pub passed : count * rounds ≤ left → Left (part + 1) (left - count * rounds)
    passed l =
        inv
        ∙ walk_on hs part left h (subst (λ (x : ℕ). x ≤ left) (λ i. c i * r i) l)
        ∙ (λ i. behind (sym (add-one part) i) (place_of (drop (sym (add-one part) i) hs) (left - sym c i * sym r i)))

-- ---- the first place of the parts from j on

module _ (hs : List Shape) (some : EachSome hs) (j count : ℕ) (h : j < length hs) (c : count ≡ (shape_at hs j).count) where
  pub starts_here : 0 < count → start_of hs j ≡ place j 0 0
  starts_here l = start-here hs j (subst (λ (n : ℕ). 0 < n) c l) (each_some hs some j h)

  pub starts_on : count ≡ 0 → start_of hs j ≡ start_of hs (j + 1)
  starts_on e = start_on hs j h (sym c ∙ e) ∙ ap (start_of hs) (sym (add-one j))

-- ---- a place moved on

module _ (hs : List Shape) (some : EachSome hs) (n count : ℕ) (w : Place) (rounds calls : ℕ)
    (r : rounds ≡ (shape_at hs w.part).rounds) (c : calls ≡ (shape_at hs w.part).count) (l : n < rounds_in hs) (e : place_of hs n ≡ w) where
  all_moves : Moves hs n count w
  all_moves = subst (Moves hs n count) e (moves hs some n count l)

  pub moved_within : w.round + count < rounds → place_of hs (n + count) ≡ place w.part w.call (w.round + count)
  unfolding Moves
  moved_within b = all_moves.0 (omega (arith, r))

  pub moved_call : w.round + count ≡ rounds → w.call + 1 < calls → place_of hs (n + count) ≡ place w.part (w.call + 1) 0
  unfolding Moves
  moved_call b d = (all_moves.1 (b ∙ r)).0 (omega (arith, c)) ∙ ap (λ (q : ℕ). place w.part q 0) (sym (add-one w.call))

  pub moved_part : w.round + count ≡ rounds → w.call + 1 ≡ calls → place_of hs (n + count) ≡ start_of hs (w.part + 1)
  unfolding Moves
  moved_part b d = (all_moves.1 (b ∙ r)).1 (omega (arith, c)) ∙ ap (start_of hs) (sym (add-one w.part))
