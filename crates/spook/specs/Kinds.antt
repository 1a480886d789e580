-- The parts of S1P by their kinds: a walk has 0 the seed, 1 Shadow's start, 2 the data and 3 the text; 4 is the closing call. Parts are
-- numbered in the direction's order, and an opening's second walk follows its closing call.
-- Assumes nothing.
use Rattle.std.specs.Prelude.{◌≡◌, Bool, List, [], ◌∷◌, ltb, length}
use Rattle.std.proofs.Math.Path.{refl}
use Rattle.std.proofs.Common.{subst}
use Rattle.std.proofs.Math.Bool.{true, false}
use Prim.Native.Nat.{ℕ, zero, suc, ◌-◌, ◌*◌, ◌%◌, ◌≤◌, ◌<◌}
use Rattle.std.proofs.Math.Nat.{le_refl}
use native.Mathlib.Omega.{arith}
use Rattle.bits.specs.Pick.{pick}
use Rattle.bits.specs.Every.{upto_at}
use Rattle.stopping.specs.Parts.{Part}
use Rattle.stopping.specs.Places.{part_at, shape_at}
use Rattle.scheme.specs.Machine.{Machine, Input, given}
use Rattle.scheme.specs.Scheme.{all_shapes}
use Rattle.scheme.specs.Calls.{part_in, shape_in}
use Rattle.s1p.specs.Cipher.{Cipher}
use Rattle.s1p.specs.Paper.{blocks}
use Rattle.s1p.specs.Parts.{unless_empty, seed, begin, assocs, texts, tagging, verifying, sealing_course, opening_course, course}
use Rattle.s1p.specs.Counts.{walk_calls, front_shapes, back_shapes, second_shapes, blocks_are}
use Rattle.s1p.specs.Scheme.{s1p_scheme}
use Rattle.spook.specs.declared.kinds.Kind.{Kind}
use Rattle.spook.specs.declared.kinds.Kind.TheVariants.{Seed, Start, Data, Text, Closing}

-- a kind's number, the place of its part in the first walk and the closing call
abbrev pub number : Kind → ℕ
number Seed = 0
number Start = 1
number Data = 2
number Text = 3
number Closing = 4

-- whether a part's calls write to the output: all of a sealing, and an opening's second walk
unfoldable pub writes_in : (sealing : Bool) → (part : ℕ) → Bool
writes_in sealing part = pick sealing true (ltb 4 part)

-- a part of so many calls
unfoldable pub part_of : (p : Cipher) → Input → (writes : Bool) → (count kind : ℕ) → Part Machine
part_of p x writes count kind =
    part_at
    (seed p x count
    ∷ begin p x writes count
    ∷ assocs p x writes count ∷ texts p x writes count ∷ pick x.sealing (tagging p x) (verifying p x) ∷ []) kind

module _ (p : Cipher) where
  -- ---- what the code asks

  -- a call that is there, and an output as long as the text
  pub record CanCall (sealing : Bool) (part call : ℕ) (assoc text out : List ℕ) : Type 0 where
    pub is_part : part < length (all_shapes (s1p_scheme p) sealing (length assoc) (length text))
    pub is_call : call < (shape_in (s1p_scheme p) sealing (length assoc) (length text) part).count
    pub out_long : length out ≡ length text

  -- ---- five parts, or nine, whatever the lengths

  pub part_count : (b : Bool) (a m : ℕ) → length (all_shapes (s1p_scheme p) b a m) ≡ pick b 5 9
  unfolding s1p_scheme all_shapes front_shapes back_shapes second_shapes
  part_count true a m = refl
  part_count false a m = refl

  -- ---- the part at a place is the one of its kind

  abbrev Is : (b : Bool) (key nonce assoc text : List ℕ) → ℕ → Type 0
  Is b key nonce assoc text j =
      part_in (s1p_scheme p) (given b key nonce assoc text) j
      ≡ part_of p (given b key nonce assoc text) (writes_in b j) (shape_in (s1p_scheme p) b (length assoc) (length text) j).count (j % 5)

  pub part_is : (b : Bool) (key nonce assoc text : List ℕ) (j : ℕ) → j < length (all_shapes (s1p_scheme p) b (length assoc) (length text))
      → Is b key nonce assoc text j
  unfolding s1p_scheme all_shapes front_shapes back_shapes second_shapes shape_at course sealing_course opening_course part_at part_of writes_in
  part_is true key nonce assoc text j h =
      upto_at (Is true key nonce assoc text) 5 (((((tt, refl), refl), refl), refl), refl) j h
  part_is false key nonce assoc text j h =
      upto_at (Is false key nonce assoc text) 9 (((((((((tt, refl), refl), refl), refl), refl), refl), refl), refl), refl) j h

  -- ---- it has at most as many calls as a part of its kind in the first walk

  unless_le : (m k : ℕ) → unless_empty m k ≤ k
  unfolding unless_empty
  unless_le zero k = omega arith
  unless_le (suc m) k = le_refl k

  unless_less : (m k : ℕ) → unless_empty m (k - 1) ≤ k
  unless_less m k = omega (arith, unless_le m (k - 1))

  abbrev Few : Bool → (a m j : ℕ) → Type 0
  Few b a m j = (shape_in (s1p_scheme p) b a m j).count ≤ walk_calls a m (j % 5)

  few : (b : Bool) (a m j : ℕ) → j < length (all_shapes (s1p_scheme p) b a m) → Few b a m j
  unfolding s1p_scheme all_shapes front_shapes back_shapes second_shapes shape_at walk_calls
  few true a m j h =
      upto_at (Few true a m) 5 (((((tt, le_refl 1), le_refl 1), le_refl (blocks a)), le_refl (blocks m)), le_refl 1) j h
  few false a m j h =
      upto_at (Few false a m) 9
      (((((((((tt, le_refl 1), le_refl 1), le_refl (blocks a)), le_refl (blocks m)), le_refl 1), unless_le m 1), unless_le m 1), unless_le m (blocks a)), unless_less m (blocks m))
      j h

  module _ (b : Bool) (part n a m : ℕ) (there : part < length (all_shapes (s1p_scheme p) b a m)) (below : n < (shape_in (s1p_scheme p) b a m part).count) where
    of_kind : (kind : ℕ) → part % 5 ≡ kind → n < walk_calls a m kind
    of_kind kind e =
        let h = subst (λ (k : ℕ). (shape_in (s1p_scheme p) b a m part).count ≤ walk_calls a m k) e (few b a m part there) in omega arith

    -- block n of the data, or of the text, is there
    pub data_count : part % 5 ≡ 2 → n < blocks a
    unfolding walk_calls
    data_count e = of_kind 2 e

    pub in_data : part % 5 ≡ 2 → n * 32 < a
    in_data e = omega (arith, data_count e, (blocks_are a).1)

    pub in_text : part % 5 ≡ 3 → n * 32 < m
    unfolding walk_calls
    in_text e = let h : n < blocks m = of_kind 3 e in omega (arith, (blocks_are m).1)
