use Rattle.std.proofs.Common.{List, [], ap, arith, drop, get_or, refl, subst, take, ℕ, ◌*◌, ◌+◌, ◌++◌, ◌<◌, ◌∙◌, ◌≡◌}
use Rattle.bits.specs.LittleEndian.{le_bytes}
use Rattle.bits.specs.Part.{Written, written_none, written_more}
use Rattle.keccak.specs.Lanes.{plane_bytes, bytes_of}
use Rattle.keccak.proofs.Five.{below5}
use Rattle.keccak.proofs.ByteLaws.{length_plane}
use Rattle.keccak.proofs.LanesEngine.store.Goals as goal

-- the bytes of one plane more
one_more : (a : List (List ℕ)) (y : ℕ) → y < 5 → take (10 * y) (bytes_of a) ++ plane_bytes (get_or a y []) ≡ take (10 * (y + 1)) (bytes_of a)
unfolding bytes_of plane_bytes le_bytes
one_more a =
    below5 (λ (y : ℕ). take (10 * y) (bytes_of a) ++ plane_bytes (get_or a y []) ≡ take (10 * (y + 1)) (bytes_of a)) refl refl refl refl refl

pub loop-y-init : goal.loop-y-init
loop-y-init c = written_none c.args.state.now

pub loop-y-preserved : goal.loop-y-preserved
unfolding plane_bytes le_bytes
loop-y-preserved c =
    let a = c.args.self.planes in
    let s = c.args.state.now in
    let y = c.loop-y.y in
    let p = get_or a y [] in
    let w = written_more c.loop-y.invariant (plane_bytes p) 10 (length_plane p) c.put.ensures in
    let on : 10 * y + 10 ≡ 10 * (y + 1) = omega arith in
    subst (λ (n : ℕ). Written (take (10 * (y + 1)) (bytes_of a)) n c.put.new.s s) on
    (subst (λ (v : List ℕ). Written v (10 * y + 10) c.put.new.s s) (one_more a y (omega arith)) w)

pub returns : goal.returns
unfolding bytes_of plane_bytes le_bytes
returns c =
    let a = c.args.self.planes in
    let s = c.args.state.now in
    let all : c.loop-y.y ≡ 5 = omega arith in
    c.loop-y.invariant.is ∙ ap (λ (y : ℕ). take (10 * y) (bytes_of a) ++ drop (10 * y) s) all
