-- The state within a Clyde call, and the session bytes at rest. What a walk leaves is shown in proofs/ (`Walks`).
-- Assumes nothing.
use Rattle.std.specs.Prelude.{replicate}
use mathlib.Core.List.{List, ◌++◌}
use Prim.Native.Nat.{ℕ}

-- 16 bytes, then 48 zeros: the state within a Clyde call
unfoldable pub clyde_state : List ℕ → List ℕ
clyde_state s = s ++ replicate 48 0

abbrev pub zero64 : List ℕ
zero64 = replicate 64 0
