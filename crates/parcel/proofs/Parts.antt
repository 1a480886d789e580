-- A part of a buffer, by what was read of it.
-- Assumes nothing.
use mathlib.Core.Path.{◌≡◌, sym, subst}
use mathlib.Core.List.{List, []}
use Prim.Native.Nat.{ℕ, ◌+◌, ◌-◌}
use native.Mathlib.Nat.{zero-add}
use native.Mathlib.Omega.{arith}
use lib.ListN.{take, drop}
use denote.Ref.{Bor}
use Rattle.parcel.specs.Reading.{Reading, part, read_of}
use Rattle.parcel.specs.Statements.{IsPart}

pub by_reading : (at : Reading → ℕ) (bytes : Reading → List ℕ → List ℕ) (p r : Bor (List ℕ)) (q : Reading) → q ≡ read_of p.now → IsPart p r (at q) (bytes q p.now)
    → IsPart p r (at (read_of p.now)) (bytes (read_of p.now) p.now)
by_reading at bytes p r q e h = subst (λ (s : Reading). IsPart p r (at s) (bytes s p.now)) e h

-- the empty part at the start
pub none_of : (p r : Bor (List ℕ)) → r.now ≡ [] → r.ref_ptr ≡ p.ref_ptr → IsPart p r 0 []
none_of p r e s = record { holds = e; starts = subst (λ (k : ℕ). r.ref_ptr ≡ (p.ref_ptr.0, k)) (sym (zero-add p.ref_ptr.1)) s }

-- `count` bytes from `at` on
pub some_of : (p r : Bor (List ℕ)) (at end count : ℕ) → end ≡ at + count → r.now ≡ take (end - at) (drop at p.now) → r.ref_ptr ≡ (p.ref_ptr.0, at + p.ref_ptr.1)
    → IsPart p r at (part at count p.now)
some_of p r at end count e h s =
    let long : end - at ≡ count = omega arith in
    record { holds = subst (λ (k : ℕ). r.now ≡ take k (drop at p.now)) long h; starts = s }
