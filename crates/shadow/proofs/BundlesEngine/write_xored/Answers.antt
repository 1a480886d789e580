-- `shadow::Bundles::write_xored` meets its contract: what the first two bundles become is stored (`proofs/Blocks.antt`).
-- Assumes nothing.
use Rattle.std.proofs.Common.{List, ap, arith, drop, drop-drop, length, length-drop, sym, take, ℕ, ◌++◌, ◌+◌, ◌∙◌, ◌≡◌, ◌≤◌}
use Rattle.bits.specs.Bytes.{Bytes, bytes_drop}
use Rattle.bits.specs.LittleEndian.{le_bytes}
use Rattle.bits.specs.Put.{put_at, put_at_then}
use Rattle.clyde.specs.declared.Rows.{Rows}
use Rattle.clyde.specs.Components.{add}
use Rattle.clyde.specs.Clyde.{rows_of, bytes_of}
use Rattle.shadow.proofs.Blocks.{block-rows, block_out}
use Rattle.shadow.proofs.Places.{loaded, stored}
use Rattle.shadow.proofs.BundlesEngine.write_xored.Goals as goal

-- two bundles written one behind the other
two : (at : ℕ) (k l : Rows) (s t u : List ℕ) → at + 16 ≤ length s → t ≡ take at s ++ (bytes_of k ++ drop (at + 16) s)
    → u ≡ take (at + 16) t ++ (bytes_of l ++ drop (at + 16 + 16) t) → u ≡ take at s ++ ((bytes_of k ++ bytes_of l) ++ drop (at + 32) s)
unfolding put_at bytes_of le_bytes
two at k l s t u h p q = q ∙ ap (put_at (at + 16) (bytes_of l)) p ∙ put_at_then at (bytes_of k) (bytes_of l) s h

pub returns : goal.returns
returns c =
    let a = c.args in
    let x = a.self in
    let at = a.at in
    let out = a.out.now in
    let text = a.text.now in
    let block = drop at text in
    let bytes : Bytes text = record { each = λ i. (c.type_inv.text i).fits } in
    let long : 32 ≤ length block = omega (arith, length-drop at text) in
    let e0 = c.bitxor.ensures ∙ ap (λ (k : Rows). add k x.b0) (loaded at text c.load.ensures) in
    let e1 =
    c.bitxor-2.ensures ∙ ap (λ (k : Rows). add k x.b1) (loaded (at + 16) text c.load-2.ensures ∙ ap rows_of (sym (drop-drop 16 at text))) in
    two at _ _ out _ _ (omega arith) (stored at _ out c.store.ensures) (stored (at + 16) _ _ c.store-2.ensures)
    ∙ (λ i. take at out ++ ((bytes_of (e0 i) ++ bytes_of (e1 i)) ++ drop (at + 32) out))
    ∙ ap (λ (s : List ℕ). take at out ++ (s ++ drop (at + 32) out))
    (block_out x (rows_of block) (rows_of (drop 16 block)) (take 32 block) (block-rows block long (bytes_drop at bytes)))
