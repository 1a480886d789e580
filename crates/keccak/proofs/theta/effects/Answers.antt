-- `keccak::theta::effects` meets its contract: the library's rotation turns a lane.
-- Assumes nothing.
use Rattle.std.proofs.Common.{[], lit<, ℕ, ◌∙◌, ◌∷◌, ◌≡◌}
use Rattle.std.specs.Int.{w16, rotate_left}
use Rattle.std.specs.Int.Bits.{bit_xor}
use Rattle.bits.specs.Library.{rotate_left_lem}
use Rattle.bits.specs.Rotate.{rotl}
use Rattle.keccak.specs.Lanes.{at}
use Rattle.keccak.proofs.Owned.{plane_fits}
use Rattle.keccak.proofs.theta.effects.Goals as goal

pub returns : goal.returns
returns c =
    let p = c.args.c in
    let by_one : (x : ℕ) → rotate_left w16 (at p x) 1 ≡ rotl 16 1 (at p x) =
    λ x. rotate_left_lem w16 (at p x) 1 (lit< tt) (plane_fits p _ c.well_formed.0 x) in
    let e0 = c.rotate_left.ensures ∙ by_one 1 in
    let e1 = c.rotate_left-2.ensures ∙ by_one 2 in
    let e2 = c.rotate_left-3.ensures ∙ by_one 3 in
    let e3 = c.rotate_left-4.ensures ∙ by_one 4 in
    let e4 = c.rotate_left-5.ensures ∙ by_one 0 in
    λ j. bit_xor (at p 4) (e0 j) ∷ bit_xor (at p 0) (e1 j) ∷ bit_xor (at p 1) (e2 j) ∷ bit_xor (at p 2) (e3 j) ∷ bit_xor (at p 3) (e4 j) ∷ []
