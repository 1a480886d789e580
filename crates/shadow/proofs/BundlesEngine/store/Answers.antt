-- `shadow::Bundles::store` meets its contract: four bundles are written one behind the other (`bits`, `written_more`).
-- Assumes nothing.
use Rattle.bits.specs.LittleEndian.{le_bytes}
use Rattle.bits.specs.Part.{written_none, written_more}
use Rattle.clyde.specs.Clyde.{bytes_of}
use Rattle.clyde.proofs.OnBytes.{length-bytes_of}
use Rattle.shadow.specs.OnBytes.{bundle_bytes}
use Rattle.shadow.proofs.Places.{stored}
use Rattle.shadow.proofs.BundlesEngine.store.Goals as goal

pub returns : goal.returns
unfolding bundle_bytes bytes_of le_bytes
returns c =
    let x = c.args.self in
    let w0 = written_more (written_none c.args.state.now) (bytes_of x.b0) 16 (length-bytes_of x.b0) c.store.ensures in
    let w1 = written_more w0 (bytes_of x.b1) 16 (length-bytes_of x.b1) (stored 16 x.b1 _ c.store-2.ensures) in
    let w2 = written_more w1 (bytes_of x.b2) 16 (length-bytes_of x.b2) (stored 32 x.b2 _ c.store-3.ensures) in
    let w3 = written_more w2 (bytes_of x.b3) 16 (length-bytes_of x.b3) (stored 48 x.b3 _ c.store-4.ensures) in
    w3.is
