use Rattle.std.proofs.Common.{List, arith, refl, subst, take, ℕ, ◌*◌, ◌+◌, ◌++◌, ◌<◌, ◌≡◌}
use Rattle.bits.specs.LittleEndian.{le_bytes, length-le_bytes}
use Rattle.keccak.specs.Lanes.{at, plane_bytes}
use Rattle.keccak.proofs.Five.{below5}
use Rattle.keccak.proofs.Written.{WrittenFrom, from_more}
use Rattle.keccak.proofs.bytes.put.Goals as goal

-- the bytes of one lane more
one_more : (p : List ℕ) (x : ℕ) → x < 5 → take (2 * x) (plane_bytes p) ++ le_bytes 2 (at p x) ≡ take (2 * (x + 1)) (plane_bytes p)
unfolding plane_bytes le_bytes
one_more p = below5 (λ (x : ℕ). take (2 * x) (plane_bytes p) ++ le_bytes 2 (at p x) ≡ take (2 * (x + 1)) (plane_bytes p)) refl refl refl refl refl

pub loop-x-preserved : goal.loop-x-preserved
loop-x-preserved g c =
    let i = c.args.i in
    let p = c.args.p in
    let s = c.args.s.now in
    let x = c.loop-x.x in
    let w = from_more (omega arith) c.loop-x.invariant (le_bytes 2 (at p x)) 2 (length-le_bytes 2 (at p x)) c.put_lane.ensures in
    let on : 2 * x + 2 ≡ 2 * (x + 1) = omega arith in
    subst (λ (n : ℕ). WrittenFrom i (take (2 * (x + 1)) (plane_bytes p)) n c.put_lane.new.s s) on
    (subst (λ (v : List ℕ). WrittenFrom i v (2 * x + 2) c.put_lane.new.s s) (one_more p x (omega arith)) w)
