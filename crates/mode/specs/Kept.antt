-- What a job of ISAP is given: buffers and bytes. That they stay so, wherever it is stopped, is shown in proofs/ (`Kept`).
-- Assumes nothing.
use Rattle.bits.specs.Bytes.{Bytes}
use Rattle.scheme.specs.Machine.{Buffer, Input}

-- what a job is given
pub record Given (x : Input) : Type 0 where
  pub key : Buffer 16 x.key
  pub nonce : Buffer 16 x.nonce
  pub assoc : Bytes x.assoc
  pub text : Bytes x.text
