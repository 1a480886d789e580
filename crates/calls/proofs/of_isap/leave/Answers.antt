-- `calls::of_isap::leave` meets its contract.
-- Assumes nothing.
use Rattle.std.proofs.Common.{Bool, length, subst, take, ◌*◌, ◌≡◌}
use Rattle.bits.specs.Pick.{pick}
use Rattle.bits.specs.Put.{put_at}
use Rattle.bits.specs.Strings.{block}
use Rattle.bits.specs.Xors.{xors}
use Rattle.mode.specs.Instances.{params_of}
use Rattle.plan.specs.KindNumbers.{kind_number, kind_number-below}
use Rattle.calls.proofs.IsapParts.{of_eleven, leaves}
use Rattle.calls.proofs.of_isap.leave.Goals as goal

pub kind_of-kind-requires : goal.kind_of-kind-requires
kind_of-kind-requires c =
    let a = c.args in
    of_eleven a.instance a.sealing a.at.part (length a.assoc.now) (length a.text.now) c.requires.0.is_part

pub returns : goal.returns
returns c =
    let a = c.args in
    let k = c.kind_of-kind in
    let b = (params_of a.instance).b in
    let written = put_at (a.at.call * b) (xors a.state (block b a.at.call a.text.now)) a.out.now in
    let made = pick a.sealing (take 16 a.state) a.tag in
    let h = of_eleven a.instance a.sealing a.at.part (length a.assoc.now) (length a.text.now) c.requires.0.is_part in
    leaves a.instance a.sealing a.at.part (kind_number k.result) k.ensures h a.at.call a.assoc.now a.text.now a.state a.out.now a.tag _ c.leave_tag.result (kind_number-below k.result)
    (subst (λ (y : Bool). c.leave_out.new.out ≡ pick y written a.out.now) c.writes.ensures c.leave_out.ensures)
    (subst (λ (y : Bool). c.leave_tag.result ≡ pick y made a.tag) c.ends.ensures c.leave_tag.ensures)
