-- On which machines a job of ISAP may be begun, for any instance. What it then comes to is shown in proofs/ (`Theorems`).
-- Assumes nothing.
use Rattle.std.specs.Prelude.{◌≡◌, ◌≤◌}
use Rattle.std.proofs.Math.ListN.{length}
use Rattle.mode.specs.Params.{Params}
use Rattle.scheme.specs.Machine.{Machine, Input}

-- a machine on which a job may be begun: room for a state and for the session bytes, and an output as long as the text
pub record Ready (p : Params) (x : Input) (m : Machine) : Type 0 where
  pub state : p.n ≤ length m.state
  pub session : p.n ≤ length m.session
  pub out : length m.out ≡ length x.text
