-- The parts of ISAP by their kinds, 0 to 10 in a sealing's order, and what the functions here ask and give.
-- Assumes nothing.
use Rattle.std.specs.Prelude.{◌≡◌, List, ◌++◌, ℕ, ◌<◌, length}
use Rattle.stopping.specs.Parts.{Part}
use Rattle.stopping.specs.Places.{part_at}
use Rattle.mode.specs.Params.{Params}
use Rattle.scheme.specs.Machine.{Machine, Input, machine}
use Rattle.mode.specs.Parts.{enc_parts, mac_parts}
use Rattle.mode.specs.Instances.{params_of}

-- the part of a kind
unfoldable pub part_of : Params → Input → ℕ → Part Machine
part_of p x kind = part_at (enc_parts p x ++ mac_parts p x) kind

-- a call that is there, and an output as long as the text
pub record CanEnter (instance kind call : ℕ) (x : Input) (out : List ℕ) : Type 0 where
  pub is_kind : kind < 11
  pub is_call : call < (part_of (params_of instance) x kind).shape.count
  pub out_long : length out ≡ length x.text

-- the state and the session bytes with which a call's first round begins; output and tag are as they were
unfoldable pub Entered : (instance kind call : ℕ) → Input → (state session out state' session' : List ℕ) → Type 0
Entered instance kind call x state session out state' session' =
    (tag : List ℕ) → (part_of (params_of instance) x kind).enter call (machine state session out tag) ≡ machine state' session' out tag
