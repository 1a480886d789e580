-- `keccak::Lanes::absorbed` meets its contract: the block goes into nine lanes (`proofs/Blocks.antt`).
-- Assumes nothing.
use Rattle.std.proofs.Common.{List, ap₂, ℕ, ◌∙◌}
use Rattle.keccak.specs.Lanes.{bytes_of}
use Rattle.keccak.proofs.Blocks.{fronted, block_in_lem}
use Rattle.keccak.proofs.LanesEngine.absorbed.Goals as goal

pub returns : goal.returns
returns c =
    let a = c.args.self.planes in
    ap₂ (λ (p q : List ℕ). bytes_of (fronted p q a)) c.xored.ensures c.xored-2.ensures
    ∙ block_in_lem c.args.block.now c.requires (record { each = λ i. (c.type_inv.block i).fits }) a
