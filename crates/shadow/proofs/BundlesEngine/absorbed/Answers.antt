-- `shadow::Bundles::absorbed` meets its contract: the block goes into the first two bundles (`proofs/Blocks.antt`).
-- Assumes nothing.
use Rattle.std.proofs.Common.{ap, arith, drop, length, take_all, ◌∙◌, ◌≤◌}
use Rattle.clyde.specs.declared.Rows.{Rows}
use Rattle.clyde.specs.Components.{add}
use Rattle.clyde.specs.Clyde.{rows_of}
use Rattle.shadow.specs.OnBytes.{bundle_bytes}
use Rattle.shadow.proofs.Blocks.{with_block, block-rows, block_in_lem}
use Rattle.shadow.proofs.Places.{loaded}
use Rattle.shadow.proofs.BundlesEngine.absorbed.Goals as goal

pub returns : goal.returns
returns c =
    let x = c.args.self in
    let s = c.args.block.now in
    let long : 32 ≤ length s = omega arith in
    let e0 = c.bitxor.ensures ∙ ap (λ (k : Rows). add k x.b0) c.load.ensures in
    let e1 = c.bitxor-2.ensures ∙ ap (λ (k : Rows). add k x.b1) (loaded 16 s c.load-2.ensures) in
    ap bundle_bytes (λ i. with_block x (e0 i) (e1 i))
    ∙ block_in_lem x (rows_of s) (rows_of (drop 16 s)) s
    (block-rows s long (record { each = λ i. (c.type_inv.block i).fits }) ∙ take_all 32 s (omega arith))
