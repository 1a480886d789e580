-- A scheme: an algorithm that seals and opens, as a course of parts in each direction, with its shapes and its counts by the lengths alone.
-- Assumes nothing.
use Rattle.std.specs.Prelude.{Bool, List, ◌++◌, ℕ, ◌+◌, length}
use Rattle.stopping.specs.Parts.{Shape}
use Rattle.stopping.specs.Course.{Course}
use Rattle.scheme.specs.Machine.{Machine, Input, Sealed, Opened}

pub record Scheme : Type 0 where
  -- bytes of the state, and of the session; what lies beyond is neither read nor changed
  pub n : ℕ
  -- bytes of a key
  pub key_bytes : ℕ
  -- a job's parts up to the decision and after it, and what the decision accepts
  pub course : Input → Course Machine
  -- the shapes of these parts, by the direction (whether it seals) and the two lengths
  pub front_shapes : Bool → (a m : ℕ) → List Shape
  pub back_shapes : Bool → (a m : ℕ) → List Shape
  -- the rounds up to the decision and after it, as formulas
  pub front_count : Bool → (a m : ℕ) → ℕ
  pub back_count : Bool → (a m : ℕ) → ℕ
  -- the algorithm itself
  pub seal : (key nonce assoc text : List ℕ) → Sealed
  pub unseal : (key nonce assoc text tag : List ℕ) → Opened

-- of a direction's parts in their order, and its total
unfoldable pub all_shapes : Scheme → Bool → (a m : ℕ) → List Shape
all_shapes s b a m = s.front_shapes b a m ++ s.back_shapes b a m

unfoldable pub all_count : Scheme → Bool → (a m : ℕ) → ℕ
all_count s b a m = s.front_count b a m + s.back_count b a m

-- how many parts a direction has
unfoldable pub parts_of : Scheme → Bool → ℕ
parts_of s b = length (all_shapes s b 0 0)
