-- The session bytes of a job around the MAC's re-keying: they change with the first round of the re-keying and with the first round behind
-- it. That it is so is shown in proofs/ (`Aside`, `Sessions`).
-- Assumes nothing.
use Rattle.std.specs.Prelude.{◌≡◌, ℕ, ◌+◌, ◌≤◌, ◌<◌, length}
use mathlib.Core.List.{◌++◌}
use Rattle.std.proofs.Math.ListN.{drop, replicate}
use Rattle.stopping.specs.Course.{halted}
use Rattle.mode.specs.Params.{Params}
use Rattle.scheme.specs.Machine.{Machine, Input}
use Rattle.mode.specs.Parts.{course}
use Rattle.mode.specs.Counts.{rekey_rounds}
use Rattle.mode.specs.Between.{aside_after, mac_state}

-- the session bytes of a job that begins on m: before the MAC's re-keying, in it, and behind it
pub record SessionOf (p : Params) (x : Input) (m : Machine) : Type 0 where
  pub before : (n : ℕ) → n ≤ aside_after p x.sealing (length x.assoc) (length x.text) → (halted (course p x) n m).session ≡ m.session
  pub aside : (n : ℕ) → aside_after p x.sealing (length x.assoc) (length x.text) < n
      → n ≤ aside_after p x.sealing (length x.assoc) (length x.text) + rekey_rounds p
      → (halted (course p x) n m).session ≡ mac_state p x ++ drop p.n m.session
  pub behind : (n : ℕ) → aside_after p x.sealing (length x.assoc) (length x.text) + rekey_rounds p < n
      → (halted (course p x) n m).session ≡ replicate p.n 0 ++ drop p.n m.session
