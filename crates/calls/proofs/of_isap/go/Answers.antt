-- `calls::of_isap::go` meets its contract.
-- Assumes nothing.
use Rattle.std.proofs.Common.{length}
use Rattle.plan.specs.KindNumbers.{kind_number}
use Rattle.calls.proofs.IsapParts.{of_eleven, can_go, goes}
use Rattle.calls.proofs.of_isap.go.Goals as goal

pub kind_of-kind-requires : goal.kind_of-kind-requires
kind_of-kind-requires c =
    let a = c.args in
    of_eleven a.instance a.sealing a.at.part (length a.assoc.now) (length a.text.now) c.requires.0.is_part

pub go-requires : goal.go-requires
go-requires c =
    let k = c.kind_of-kind in
    let a = c.args in
    let h = of_eleven a.instance a.sealing a.at.part (length a.assoc.now) (length a.text.now) c.requires.0.is_part in
    can_go a.instance a.sealing a.at.part (kind_number k.result) k.ensures h a.at.call a.calls a.assoc.now a.text.now a.out.now c.requires.0 c.requires.1 c.requires.2

pub returns : goal.returns
returns c =
    let g = c.go in
    let k = c.kind_of-kind in
    let a = c.args in
    let h = of_eleven a.instance a.sealing a.at.part (length a.assoc.now) (length a.text.now) c.requires.0.is_part in
    goes a.instance a.sealing a.at.part (kind_number k.result) k.ensures h a.at.call a.calls a.nonce a.assoc.now a.text.now a.state a.session a.out.now g.result _ g.ensures
