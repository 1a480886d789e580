-- What a job works on and what it is given, for any algorithm.
-- Assumes nothing.
use Rattle.std.specs.Prelude.{◌≡◌, refl, Bool, List, ◌++◌, ℕ, zero, suc, length}
use Rattle.bits.specs.Pick.{pick}
pub use Rattle.bits.specs.Bytes.{Buffer}

-- the algorithm's state, the session bytes, the output, and the tag (in a sealing to be made, in an opening received)
pub record Machine : Type 0 where
  pub state : List ℕ
  pub session : List ℕ
  pub out : List ℕ
  pub tag : List ℕ

-- an opening is no sealing
pub record Input : Type 0 where
  pub sealing : Bool
  pub key : List ℕ
  pub nonce : List ℕ
  pub assoc : List ℕ
  pub text : List ℕ

-- the same, by their parts
abbrev pub machine : (state session out tag : List ℕ) → Machine
machine state session out tag = record { state = state; session = session; out = out; tag = tag }

abbrev pub given : (sealing : Bool) (key nonce assoc text : List ℕ) → Input
given sealing key nonce assoc text = record { sealing = sealing; key = key; nonce = nonce; assoc = assoc; text = text }

-- the ciphertext: a sealing's own output, an opening's text
unfoldable pub cipher_of : Input → List ℕ → List ℕ
cipher_of x out = pick x.sealing out x.text

-- ---- what goes with a round

abbrev pub on_state : (List ℕ → List ℕ) → Machine → Machine
on_state f m = record { state = f m.state; session = m.session; out = m.out; tag = m.tag }

-- done with the first call of a part alone
abbrev pub first : ℕ → (List ℕ → List ℕ) → List ℕ → List ℕ
first zero f s = f s
first (suc i) f s = s

pub first-later : (i : ℕ) (f : List ℕ → List ℕ) (s : List ℕ) → (i ≡ 0 → ⊥) → first i f s ≡ s
first-later zero f s h = absurd (h refl)
first-later (suc i) f s h = refl

-- nothing goes with it
abbrev pub nothing : ℕ → Machine → Machine
nothing i m = m

-- ---- what an algorithm gives

pub record Sealed : Type 0 where
  pub cipher : List ℕ
  pub tag : List ℕ

pub data Opened : Type 0 where
  plaintext : List ℕ → Opened
  refused : Opened

-- ---- lengths and bytes

-- the four buffers of a machine, with a state and session bytes of so many bytes
pub record Sound (ls lss lo : ℕ) (m : Machine) : Type 0 where
  pub state : Buffer ls m.state
  pub session : Buffer lss m.session
  pub out : Buffer lo m.out
  pub tag : Buffer 16 m.tag

-- a machine with t behind its state and v behind its session bytes
abbrev pub with_tails : (t v : List ℕ) → Machine → Machine
with_tails t v m = record { state = m.state ++ t; session = m.session ++ v; out = m.out; tag = m.tag }

-- the state and the session bytes are n bytes each
pub record Exact (n : ℕ) (m : Machine) : Type 0 where
  pub state : length m.state ≡ n
  pub session : length m.session ≡ n
