-- `keccak::rho_pi::rho_pi` meets its contract: the planes' lane formulas, by the law of ρ and π; the numbers of the code are computed
-- from table 2.
-- Assumes nothing.
use Rattle.std.proofs.Common.{List, [], ap, ℕ, ◌%◌, ◌*◌, ◌+◌, ◌∙◌, ◌∷◌, ◌≡◌}
use Rattle.bits.specs.Rotate.{rotl}
use Rattle.keccak.specs.Fips202.{offset, offsets, ρ, π}
use Rattle.keccak.specs.Lanes.{array_of, lane, five, turned_lane}
use Rattle.keccak.proofs.Five.{by_lanes}
use Rattle.keccak.proofs.StepLaws.{rho_pi_bits}
use Rattle.keccak.proofs.rho_pi.rho_pi.Goals as goal

-- a plane's lanes are moved, and then turned
plane : (l by : List ℕ) {m r : List ℕ} → m ≡ l → r ≡ five (turned_lane m by) → r ≡ five (turned_lane l by)
plane l by p q = q ∙ ap (λ (m : List ℕ). five (turned_lane m by)) p

pub returns : goal.returns
unfolding offset offsets
returns c =
    let a = c.args.a in
    let from : ℕ → List ℕ = λ y. five (λ x. lane a ((x + 3 * y) % 5) x) in
    let by : ℕ → List ℕ = λ y. five (λ x. offset ((x + 3 * y) % 5) x % 16) in
    let p4 = plane (from 4) (by 4) c.moved.ensures c.turned-p4.ensures in
    let p3 = plane (from 3) (by 3) c.moved-2.ensures c.turned-p3.ensures in
    let p2 = plane (from 2) (by 2) c.moved-3.ensures c.turned-p2.ensures in
    let p1 = plane (from 1) (by 1) c.moved-4.ensures c.turned-p1.ensures in
    let p0 = plane (from 0) (by 0) c.moved-5.ensures c.turned-p0.ensures in
    by_lanes (λ x y. rotl 16 (offset ((x + 3 * y) % 5) x % 16) (lane a ((x + 3 * y) % 5) x)) (π (ρ (array_of a))) (rho_pi_bits a) _
    (λ j. p0 j ∷ p1 j ∷ p2 j ∷ p3 j ∷ p4 j ∷ [])
