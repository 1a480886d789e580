-- A run on bytes, in either direction: the state is loaded, the rounds run on rows, and the rows stored (`bits`, `run_words`).
-- Assumes nothing.
use mathlib.Core.Path.{◌≡◌, sym, ap, ◌∙◌}
use mathlib.Core.Bool.{Bool}
use mathlib.Core.List.{List, ◌++◌}
use Prim.Native.Nat.{ℕ, ◌≤◌}
use lib.ListN.{length, drop}
use Rattle.bits.specs.Bytes.{Bytes}
use Rattle.bits.specs.Run.{rounds, run}
use Rattle.bits.proofs.Run.{run_words}
use Rattle.clyde.specs.declared.Rows.{Rows}
use Rattle.clyde.specs.Clyde.{rows_of, bytes_of}
use Rattle.clyde.specs.Sbox.{Fit}
use Rattle.clyde.specs.OnBytes.{round_by, turn_by}
use Rattle.clyde.proofs.OnBytes.{rows_are, rows_of-fit, rows_of-bytes_of, bytes_of-rows_of, keeps_by, bytes_by}

pub stored : (back : Bool) (k t : Rows) (s : List ℕ) → Fit k → Fit t → 16 ≤ length s → Bytes s → (from count : ℕ)
    → {v w : Rows} {out : List ℕ} → v ≡ rows_of s → w ≡ rounds (round_by back k t) from count v → out ≡ bytes_of w ++ drop 16 s
    → out ≡ run 16 (turn_by back (bytes_of k) (bytes_of t)) from count s
stored back k t s hk ht long h from count {w = w} {out = out} ev ew put =
    let ek = sym (rows_of-bytes_of k hk) in
    let et = sym (rows_of-bytes_of t ht) in
    run_words (keeps_by back (bytes_of k) (bytes_of t)) from count s (bytes_of (rows_of s)) (bytes_of w) out long (bytes_of-rows_of s long h)
    (ap bytes_of (ew ∙ (λ i. rounds (round_by back (ek i) (et i)) from count (ev i)))
    ∙ bytes_by back (bytes_of k) (bytes_of t) (rows_are k) (rows_are t) from count (rows_of s) (rows_of-fit s long h))
    put
