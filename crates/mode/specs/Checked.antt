-- Document 01's 'Round counts to check': the ten cases marked P and the four empty heartbeats, each a table, and what a line says. That every
-- line holds is shown in proofs/ (`Checked`).
-- Assumes nothing.
use Rattle.std.specs.Prelude.{◌≡◌, List, [], ◌∷◌, ◌++◌, ℕ, length}
use Rattle.stopping.specs.Stopped.{total}
use Rattle.stopping.specs.Parts.{row}
use Rattle.scheme.specs.Machine.{Input}
use Rattle.mode.specs.Parts.{enc_parts, mac_parts}
use Rattle.mode.specs.Instances.{params_of}

-- a line of the table: instance, a, m, V, E + V
pub record Case : Type 0 where
  pub instance : ℕ
  pub a : ℕ
  pub m : ℕ
  pub verify : ℕ
  pub all : ℕ

abbrev pub case : ℕ → ℕ → ℕ → ℕ → ℕ → Case
case i a m v t = record { instance = i; a = a; m = m; verify = v; all = t }

unfoldable pub cases : List Case
cases =
    case 1 0 0 199 350
    ∷ case 1 0 7 199 356
    ∷ case 1 1 8 211 368
    ∷ case 1 0 9 211 374
    ∷ case 2 0 0 1596 3144
    ∷ case 2 256 4096 8124 15816
    ∷ case 3 17 17 207 358
    ∷ case 3 18 18 239 390
    ∷ case 4 0 0 1628 3176
    ∷ case 4 256 4096 6448 10732
    ∷ []

-- document 02's totals of an empty heartbeat, with a = 0 and m = 0, in instances 1 to 4
unfoldable pub heartbeats : List Case
heartbeats = case 1 0 0 199 350 ∷ case 2 0 0 1596 3144 ∷ case 3 0 0 207 350 ∷ case 4 0 0 1628 3176 ∷ []

-- what a line says, of every input of its lengths: the rows' rounds
unfoldable pub Holds : Case → Type 0
Holds t =
    (x : Input) → length x.assoc ≡ t.a → length x.text ≡ t.m
    → (total (row (mac_parts (params_of t.instance) x)) ≡ t.verify)
    × (total (row (enc_parts (params_of t.instance) x ++ mac_parts (params_of t.instance) x)) ≡ t.all)

unfoldable pub Each : (Case → Type 0) → List Case → Type 0
Each P [] = Unit {0}
Each P (t ∷ ts) = P t × Each P ts
