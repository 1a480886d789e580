-- What the code of a scheme promises of the call at a place: the course's own part, in the words of `Part` and `Course`. A promise names
-- what the code may read; whatever else a job is given, it holds.
-- Assumes nothing.
use Rattle.std.specs.Prelude.{◌≡◌, Bool, List, ℕ, ◌+◌, ◌≤◌, ◌<◌, length}
use Rattle.bits.specs.Run.{turns}
use Rattle.stopping.specs.Parts.{Part, Shape}
use Rattle.stopping.specs.Places.{part_at, shape_at}
use Rattle.stopping.specs.Course.{parts}
use Rattle.stopping.specs.Wholes.{wholes}
use Rattle.scheme.specs.Machine.{Machine, Input, machine, given}
use Rattle.scheme.specs.Scheme.{Scheme, all_shapes}

module _ (s : Scheme) where
  -- a part of a direction's order, with its shape by the lengths
  abbrev pub part_in : Input → (part : ℕ) → Part Machine
  part_in x part = part_at (parts (s.course x)) part

  abbrev pub shape_in : (sealing : Bool) → (a m part : ℕ) → Shape
  shape_in sealing a m part = shape_at (all_shapes s sealing a m) part

  -- a part, a call of it and a round of that which are there
  pub record At (sealing : Bool) (a m part call round : ℕ) : Type 0 where
    pub is_part : part < length (all_shapes s sealing a m)
    pub is_call : call < (shape_in sealing a m part).count
    pub is_round : round < (shape_in sealing a m part).rounds

  -- so many rounds more of a call, whatever the lengths
  pub record Rest (sealing : Bool) (part round count : ℕ) : Type 0 where
    pub a : ℕ
    pub m : ℕ
    pub is_part : part < length (all_shapes s sealing a m)
    pub fits : round + count ≤ (shape_in sealing a m part).rounds

  -- so many calls of a part, neither its first nor its last
  pub record Inner (sealing : Bool) (a m part call calls : ℕ) : Type 0 where
    pub is_part : part < length (all_shapes s sealing a m)
    pub not_first : 0 < call
    pub not_last : call + calls < (shape_in sealing a m part).count

  -- the state and the session bytes that the first round of a call meets; output and tag are as they were
  unfoldable pub Enters : Input → (part call : ℕ) → Machine → (state session : List ℕ) → Type 0
  Enters x part call m state session = (part_in x part).enter call m ≡ machine state session m.out m.tag

  -- so many rounds from round `from` on change the state alone; they may read key and session bytes
  unfoldable pub Turns : (sealing : Bool) → (key : List ℕ) → (part from count : ℕ) → (state session state' : List ℕ) → Type 0
  Turns sealing key part from count state session state' =
      (nonce assoc text out tag : List ℕ)
      → turns (λ (i : ℕ). (part_in (given sealing key nonce assoc text) part).turn (from + i)) count (machine state session out tag)
      ≡ machine state' session out tag

  -- what goes with the last round of a call: output and tag
  unfoldable pub Leaves : (sealing : Bool) → (part call : ℕ) → (assoc text state out tag out' tag' : List ℕ) → Type 0
  Leaves sealing part call assoc text state out tag out' tag' =
      (key nonce session : List ℕ)
      → (part_in (given sealing key nonce assoc text) part).leave call (machine state session out tag) ≡ machine state session out' tag'

  -- so many whole calls in one go: state and output
  unfoldable pub Goes : (sealing : Bool) → (part call calls : ℕ) → (nonce assoc text state session out state' out' : List ℕ) → Type 0
  Goes sealing part call calls nonce assoc text state session out state' out' =
      (key tag : List ℕ)
      → wholes (part_in (given sealing key nonce assoc text) part) call calls (machine state session out tag) ≡ machine state' session out' tag

  -- what the decision would say
  unfoldable pub Decides : (sealing : Bool) → (state session tag : List ℕ) → Bool → Type 0
  Decides sealing state session tag r =
      (key nonce assoc text out : List ℕ) → r ≡ (s.course (given sealing key nonce assoc text)).accepts (machine state session out tag)
