-- A parcel on the air, in the words of what `parcel::build` promises and of the ciphertext that `parcel::cipher` gives. That whoever overhears
-- two with one counter has the xor of their texts is shown in proofs/ (`Parcels`).
-- Assumes nothing.
use Rattle.std.specs.Prelude.{◌≡◌, List, ◌++◌, ℕ}
use Rattle.instances.specs.Schemes.{scheme_of}
use Rattle.parcel.specs.declared.Built.{Built}
use Rattle.parcel.specs.Reading.{read_of, cipher_by}
use Rattle.parcel.specs.Statements.{Builds}

-- a call of `build` that answered 0, given the counter `last`: what follows its parcel in a buffer is `rest`, and `cipher` the ciphertext that
-- is read there
pub record Parcel (instance : ℕ) (key : List ℕ) (station last : ℕ) (text cipher : List ℕ) : Type 0 where
  pub out : List ℕ
  pub built : Built
  pub parcel : List ℕ
  pub rest : List ℕ
  pub promise : Builds scheme_of instance key station last text out built parcel
  pub well : built.number ≡ 0
  pub heard : cipher ≡ cipher_by (read_of (parcel ++ rest)) (parcel ++ rest)
