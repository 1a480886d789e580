-- A quiet part changes the state alone: session bytes, output and tag are as they were, and so is whatever is said of them.
-- Assumes nothing.
use Rattle.std.specs.Prelude.{◌≡◌, List, ℕ}
use Rattle.std.proofs.Common.{sym, subst}
use Rattle.stopping.specs.Parts.{Part}
use Rattle.stopping.specs.Kept.{KeepsPart}
use Rattle.scheme.specs.Machine.{Machine}

-- a machine without its state
pub record Rest : Type 0 where
  pub session : List ℕ
  pub out : List ℕ
  pub tag : List ℕ

abbrev pub rest : Machine → Rest
rest m = record { session = m.session; out = m.out; tag = m.tag }

pub record Quiet (c : Part Machine) : Type 0 where
  pub enter : (i : ℕ) (m : Machine) → rest (c.enter i m) ≡ rest m
  pub turn : (k : ℕ) (m : Machine) → rest (c.turn k m) ≡ rest m
  pub leave : (i : ℕ) (m : Machine) → rest (c.leave i m) ≡ rest m

pub quiet_keeps : (P : Rest → Type 0) {c : Part Machine} → Quiet c → KeepsPart (λ (m : Machine). P (rest m)) c
quiet_keeps P q =
    record {
      enter = λ i m p. subst P (sym (q.enter i m)) p;
      turn = λ k m p. subst P (sym (q.turn k m)) p;
      leave = λ i m p. subst P (sym (q.leave i m)) p;
    }
