-- `keccak::chi::chi` meets its contract: the planes' lane formulas, by the law of χ; that each lane has 16 bits is what owning the state tells.
-- Assumes nothing.
use Rattle.std.proofs.Common.{[], get_or, ◌∷◌}
use Rattle.keccak.specs.Fips202.{χ}
use Rattle.keccak.specs.Lanes.{array_of, chi_lane}
use Rattle.keccak.proofs.Five.{by_lanes}
use Rattle.keccak.proofs.Owned.{lanes_fit}
use Rattle.keccak.proofs.StepLaws.{chi_bits}
use Rattle.keccak.proofs.chi.chi.Goals as goal

pub returns : goal.returns
returns c =
    let a = c.args.a in
    by_lanes (λ x y. chi_lane (get_or a y []) x) (χ (array_of a)) (chi_bits a (lanes_fit a _ c.well_formed.0)) _
    (λ j. c.mixed-p0.ensures j ∷ c.mixed-p1.ensures j ∷ c.mixed-p2.ensures j ∷ c.mixed-p3.ensures j ∷ c.mixed-p4.ensures j ∷ [])
