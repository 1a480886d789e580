-- `keccak::Lanes::load` meets its contract, plane by plane.
-- Assumes nothing.
use Rattle.std.proofs.Common.{[], ap, ◌∙◌, ◌∷◌}
use Rattle.keccak.specs.Lanes.{bytes_of, lanes_of}
use Rattle.keccak.proofs.ByteLaws.{bytes_of-lanes_of}
use Rattle.keccak.proofs.LanesEngine.load.Goals as goal

pub returns : goal.returns
unfolding lanes_of
returns c =
    let s = c.args.state.now in
    ap bytes_of (λ j. c.plane_at.ensures j ∷ c.plane_at-2.ensures j ∷ c.plane_at-3.ensures j ∷ c.plane_at-4.ensures j ∷ c.plane_at-5.ensures j ∷ [])
    ∙ bytes_of-lanes_of s (record { each = λ i. (c.type_inv.state i).fits }) c.requires
