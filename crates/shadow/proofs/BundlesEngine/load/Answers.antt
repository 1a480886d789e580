-- `shadow::Bundles::load` meets its contract, bundle by bundle.
-- Assumes nothing.
use Rattle.std.proofs.Common.{ap, ◌∙◌}
use Rattle.shadow.specs.OnBytes.{bundles_of, bundle_bytes, bundle_bytes-bundles_of}
use Rattle.shadow.proofs.Places.{loaded}
use Rattle.shadow.proofs.BundlesEngine.load.Goals as goal

pub returns : goal.returns
unfolding bundles_of
returns c =
    let s = c.args.state.now in
    let e1 = loaded 16 s c.load-2.ensures in
    let e2 = loaded 32 s c.load-3.ensures in
    let e3 = loaded 48 s c.load-4.ensures in
    ap bundle_bytes (λ i. record { b0 = c.load.ensures i; b1 = e1 i; b2 = e2 i; b3 = e3 i })
    ∙ bundle_bytes-bundles_of s c.requires (record { each = λ i. (c.type_inv.state i).fits })
