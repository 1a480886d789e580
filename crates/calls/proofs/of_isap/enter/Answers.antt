-- `calls::of_isap::enter` meets its contract.
-- Assumes nothing.
use Rattle.std.proofs.Common.{length}
use Rattle.plan.specs.KindNumbers.{kind_number, kind_number-below}
use Rattle.calls.proofs.IsapParts.{of_eleven, can_enter, enters}
use Rattle.calls.proofs.of_isap.enter.Goals as goal

pub kind_of-kind-requires : goal.kind_of-kind-requires
kind_of-kind-requires c =
    let a = c.args in
    of_eleven a.instance a.sealing a.at.part (length a.assoc.now) (length a.text.now) c.requires.0.is_part

pub enter-requires : goal.enter-requires
enter-requires c =
    let k = c.kind_of-kind in
    let a = c.args in
    let h = of_eleven a.instance a.sealing a.at.part (length a.assoc.now) (length a.text.now) c.requires.0.is_part in
    can_enter a.instance a.sealing a.at.part (kind_number k.result) k.ensures h a.at.call a.at.round a.key a.nonce a.assoc.now a.text.now a.out.now
    c.requires.0 c.requires.1 (kind_number-below k.result)

pub returns : goal.returns
returns c tag =
    let k = c.kind_of-kind in
    let a = c.args in
    let h = of_eleven a.instance a.sealing a.at.part (length a.assoc.now) (length a.text.now) c.requires.0.is_part in
    enters a.instance a.sealing a.at.part (kind_number k.result) k.ensures h a.at.call a.key a.nonce a.assoc.now a.text.now a.state a.session a.out.now tag
    c.enter.result.state c.enter.result.session c.enter.ensures
