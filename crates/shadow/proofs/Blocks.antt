-- A block of 32 bytes is the rows of the first two bundles: xored into them, in their place, and xored out.
-- Assumes nothing.
use mathlib.Core.Path.{◌≡◌, sym, ap, ap₂, ◌∙◌}
use mathlib.Core.List.{List, ◌++◌}
use Prim.Native.Nat.{ℕ, ◌≤◌}
use native.Mathlib.Omega.{arith}
use lib.ListN.{length, take, drop, length-drop}
use lib.Seq.{take-add}
use Rattle.bits.specs.Bytes.{Bytes, bytes_drop}
use Rattle.bits.specs.LittleEndian.{le_bytes, le_bytes-xor}
use Rattle.bits.specs.Xors.{xors}
use Rattle.clyde.specs.declared.Rows.{Rows}
use Rattle.clyde.specs.Components.{add}
use Rattle.clyde.specs.Clyde.{rows_of, bytes_of}
use Rattle.clyde.proofs.OnBytes.{bytes_of-rows_of}
use Rattle.shadow.specs.declared.Bundles.{Bundles}
use Rattle.shadow.specs.OnBytes.{bundle_bytes}

-- other rows in the first two bundles
abbrev pub with_block : Bundles → Rows → Rows → Bundles
with_block x k l = record { b0 = k; b1 = l; b2 = x.b2; b3 = x.b3 }

pub block-rows : (s : List ℕ) → 32 ≤ length s → Bytes s → bytes_of (rows_of s) ++ bytes_of (rows_of (drop 16 s)) ≡ take 32 s
block-rows s l h =
    let behind : 16 ≤ length (drop 16 s) = omega (arith, length-drop 16 s) in
    ap₂ (λ (a b : List ℕ). a ++ b) (bytes_of-rows_of s (omega arith) h) (bytes_of-rows_of (drop 16 s) behind (bytes_drop 16 h)) ∙ sym (take-add 16 16 s)

bytes_of-add : (k s : Rows) → bytes_of (add k s) ≡ xors (bytes_of s) (bytes_of k)
unfolding bytes_of add le_bytes xors
bytes_of-add k s =
    let e0 = le_bytes-xor 4 s.x0 k.x0 in
    let e1 = le_bytes-xor 4 s.x1 k.x1 in
    let e2 = le_bytes-xor 4 s.x2 k.x2 in
    let e3 = le_bytes-xor 4 s.x3 k.x3 in
    λ i. e0 i ++ e1 i ++ e2 i ++ e3 i

module _ (x : Bundles) (k l : Rows) (t : List ℕ) (e : bytes_of k ++ bytes_of l ≡ t) where
  pub block_out : bytes_of (add k x.b0) ++ bytes_of (add l x.b1) ≡ xors (bundle_bytes x) t
  unfolding bundle_bytes bytes_of le_bytes xors
  block_out = (λ i. bytes_of-add k x.b0 i ++ bytes_of-add l x.b1 i) ∙ ap (xors (bundle_bytes x)) e

  pub block_in_lem : bundle_bytes (with_block x (add k x.b0) (add l x.b1)) ≡ xors (bundle_bytes x) t ++ drop 32 (bundle_bytes x)
  unfolding bundle_bytes bytes_of le_bytes
  block_in_lem = ap (λ (s : List ℕ). s ++ drop 32 (bundle_bytes x)) block_out

  pub block_over : bundle_bytes (with_block x k l) ≡ t ++ drop 32 (bundle_bytes x)
  unfolding bundle_bytes bytes_of le_bytes
  block_over = ap (λ (s : List ℕ). s ++ drop 32 (bundle_bytes x)) e
