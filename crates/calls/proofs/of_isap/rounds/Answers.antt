-- `calls::of_isap::rounds` meets its contract.
-- Assumes nothing.
use Rattle.std.proofs.Common.{arith}
use Rattle.plan.specs.KindNumbers.{kind_number, kind_number-below}
use Rattle.calls.proofs.IsapParts.{of_eleven, within, under, turns_by}
use Rattle.calls.proofs.of_isap.rounds.Goals as goal

pub kind_of-kind-requires : goal.kind_of-kind-requires
kind_of-kind-requires c = let a = c.args in of_eleven a.instance a.sealing a.at.part c.requires.a c.requires.m c.requires.is_part

pub index_of-from-requires : goal.index_of-from-requires
index_of-from-requires c =
    let r = c.rounds_of-of_call in
    let k = c.kind_of-kind in
    let a = c.args in
    let h = of_eleven a.instance a.sealing a.at.part c.requires.a c.requires.m c.requires.is_part in
    let w = within a.instance a.sealing a.at.part (kind_number k.result) k.ensures h r.result r.ensures.0 a.at.round a.count c.requires in
    (under a.instance a.sealing a.at.part (kind_number k.result) k.ensures h r.result r.ensures.0 a.at.round a.count (kind_number-below k.result), omega (arith, w))

pub permute-requires : goal.permute-requires
permute-requires c =
    let r = c.rounds_of-of_call in
    let k = c.kind_of-kind in
    let a = c.args in
    let h = of_eleven a.instance a.sealing a.at.part c.requires.a c.requires.m c.requires.is_part in
    let w = within a.instance a.sealing a.at.part (kind_number k.result) k.ensures h r.result r.ensures.0 a.at.round a.count c.requires in
    let u = under a.instance a.sealing a.at.part (kind_number k.result) k.ensures h r.result r.ensures.0 a.at.round a.count (kind_number-below k.result) in
    omega (arith, w, u, c.index_of-from.ensures)

pub returns : goal.returns
returns c key session =
    let i = c.index_of-from in
    let r = c.rounds_of-of_call in
    let k = c.kind_of-kind in
    let a = c.args in
    let h = of_eleven a.instance a.sealing a.at.part c.requires.a c.requires.m c.requires.is_part in
    turns_by a.instance a.sealing a.at.part (kind_number k.result) k.ensures h r.result i.result a.at.round a.count (kind_number-below k.result) r.ensures.0 i.ensures
    key a.state session c.permute.result c.permute.ensures
