-- `keccak::chi::mixed` meets its contract: it computes the formula of each lane, two of them with an `or` (`proofs/StepLaws.antt`).
-- Assumes nothing.
use Rattle.std.proofs.Common.{[], ◌∷◌}
use Rattle.keccak.specs.Lanes.{at, chi_lane}
use Rattle.keccak.proofs.Owned.{plane_fits}
use Rattle.keccak.proofs.StepLaws.{chi_or}
use Rattle.keccak.proofs.chi.mixed.Goals as goal

pub returns : goal.returns
returns c =
    let p = c.args.p in
    let fits = plane_fits p _ c.well_formed.0 in
    let m1 = chi_or (at p 1) (at p 2) (at p 3) (fits 1) (fits 2) (fits 3) in
    let m3 = chi_or (at p 3) (at p 4) (at p 0) (fits 3) (fits 4) (fits 0) in
    λ j. chi_lane p 0 ∷ m1 j ∷ chi_lane p 2 ∷ m3 j ∷ chi_lane p 4 ∷ []
