-- `keccak::iota::iota` meets its contract: the store into the first lane, by the law of ι.
-- Assumes nothing.
use Rattle.std.proofs.Common.{◌≡◌, arith, length}
use Rattle.keccak.proofs.Owned.{five_planes, five_lanes}
use Rattle.keccak.proofs.StepLaws.{iota_bits}
use Rattle.keccak.proofs.iota.iota.Goals as goal

pub returns : goal.returns
returns c i h =
    let l : length c.args.a ≡ 5 = five_planes c.args.a _ c.well_formed.0 in
    iota_bits c.args.a c.args.c i l (five_lanes c.args.a _ c.well_formed.0 0 (omega (arith, l))) h
