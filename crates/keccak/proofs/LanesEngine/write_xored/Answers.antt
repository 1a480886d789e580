-- `keccak::Lanes::write_xored` meets its contract: the first bytes of what the state becomes are put, a plane and four lanes behind it.
-- Assumes nothing.
use Rattle.std.proofs.Common.{List, [], ap, arith, drop, get_or, length, take, ℕ, ◌++◌, ◌+◌, ◌-◌, ◌∙◌, ◌≡◌, ◌≤◌}
use Rattle.bits.specs.LittleEndian.{le_bytes}
use Rattle.bits.specs.Part.{length_part}
use Rattle.bits.specs.Xors.{xors}
use Rattle.keccak.specs.Lanes.{plane_bytes, bytes_of}
use Rattle.keccak.proofs.Written.{WrittenFrom, from_more}
use Rattle.keccak.proofs.ByteLaws.{length_plane}
use Rattle.keccak.proofs.Blocks.{block_out}
use Rattle.keccak.proofs.LanesEngine.write_xored.Goals as goal

pub returns : goal.returns
unfolding plane_bytes le_bytes
returns c =
    let at = c.args.at in
    let out = c.args.out.now in
    let text = c.args.text.now in
    let r = c.absorbed-xored.result.planes in
    let p = plane_bytes (get_or r 0 []) in
    let q = take 8 (plane_bytes (get_or r 1 [])) in
    let l : at ≤ length out = omega arith in
    let eight = length_part (plane_bytes (get_or r 1 [])) 0 8 (omega (arith, length_plane (get_or r 1 []))) in
    let w0 : WrittenFrom at p 10 c.put.new.s out =
    record { is = c.put.ensures; long = length_plane (get_or r 0 []) } in
    let w1 = from_more l w0 q 8 eight c.put-2.ensures in
    let size : at + 18 - at ≡ 18 = omega arith in
    w1.is
    ∙ ap (λ (s : List ℕ). take at out ++ (s ++ drop (at + 18) out))
    (block_out (take 18 (drop at text)) (length_part text at 18 c.requires.0) c.args.self.planes r
    (c.absorbed-xored.ensures ∙ ap (λ (n : ℕ). xors (bytes_of c.args.self.planes) (take n (drop at text)) ++ drop 18 (bytes_of c.args.self.planes)) size))
