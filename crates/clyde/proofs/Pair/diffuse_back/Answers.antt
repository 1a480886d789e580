-- `clyde::Pair::diffuse_back` meets its contract: it is the definition's formulas.
-- Assumes nothing.
use Rattle.std.proofs.Common.{ap, arith, lit<, ◌∙◌}
use Rattle.std.specs.Int.{w32}
use Rattle.bits.specs.Library.{rotate_right_lem}
use Rattle.bits.specs.Rotate.{rotr}
use Rattle.clyde.specs.Components.{lbox_inverse}
use Rattle.clyde.proofs.Along.{mix}
use Rattle.clyde.proofs.Pair.diffuse_back.Goals as goal

pub returns : goal.returns
unfolding lbox_inverse
returns c =
    let p = c.args.self in
    let a1 = c.mixed-a1.ensures in
    let b1 = c.mixed-b1.ensures in
    let g1 = c.mixed-c1.ensures ∙ (λ i. mix 31 p.a (a1 i)) in
    let h1 = c.mixed-d1.ensures ∙ (λ i. mix 31 p.b (b1 i)) in
    let g2 = c.mixed-c2.ensures ∙ (λ i. mix 20 (g1 i) (a1 i)) in
    let h2 = c.mixed-d2.ensures ∙ (λ i. mix 20 (h1 i) (b1 i)) in
    let a2 = c.mixed-a2.ensures ∙ (λ i. mix 31 (g2 i) (g2 i)) in
    let b2 = c.mixed-b2.ensures ∙ (λ i. mix 31 (h2 i) (h2 i)) in
    let g3 = c.mixed-c3.ensures ∙ (λ i. mix 26 (g2 i) (b2 i)) in
    let h3 = c.mixed-d3.ensures ∙ (λ i. mix 25 (h2 i) (a2 i)) in
    let a3 = c.mixed-a3.ensures ∙ (λ i. mix 17 (a2 i) (g3 i)) in
    let b3 = c.mixed-b3.ensures ∙ (λ i. mix 17 (b2 i) (h3 i)) in
    let a4 = c.rotate_right.ensures ∙ rotate_right_lem w32 _ 16 (lit< tt) (omega arith) ∙ ap (rotr 32 16) a3 in
    let b4 = c.rotate_right-2.ensures ∙ rotate_right_lem w32 _ 16 (lit< tt) (omega arith) ∙ ap (rotr 32 16) b3 in
    λ i. record { a = a4 i; b = b4 i }
