-- `keccak::theta::theta` meets its contract: the planes' lane formulas, by the law of θ.
-- Assumes nothing.
use Rattle.std.proofs.Common.{List, [], ap, get_or, ℕ, ◌∙◌, ◌∷◌}
use Rattle.keccak.specs.Fips202.{θ}
use Rattle.keccak.specs.Lanes.{array_of, five, added_lane, effect_lane}
use Rattle.keccak.proofs.Five.{by_lanes}
use Rattle.keccak.proofs.StepLaws.{theta_bits}
use Rattle.keccak.proofs.theta.theta.Goals as goal

pub returns : goal.returns
returns c =
    let a = c.args.a in
    let d = c.effects-d.result in
    by_lanes (λ x y. added_lane (get_or a y []) d x) (θ (array_of a))
    (theta_bits a d (c.effects-d.ensures ∙ ap (λ (c : List ℕ). five (effect_lane c)) c.parities.ensures)) _
    (λ j. c.added.ensures j ∷ c.added-2.ensures j ∷ c.added-3.ensures j ∷ c.added-4.ensures j ∷ c.added-5.ensures j ∷ [])
