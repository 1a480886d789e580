-- `calls::leave` meets its contract: the scheme's own code does, in either case.
-- Assumes nothing.
use Rattle.std.proofs.Common.{length, refl, subst}
use Rattle.scheme.specs.Scheme.{Scheme}
use Rattle.scheme.specs.Calls.{At}
use Rattle.calls.proofs.Dispatch.{is_spook_lem, is_isap, leaves_by}
use Rattle.calls.proofs.SpookCalls.{can_call}
use Rattle.calls.proofs.leave.Goals as goal

pub leave-requires : goal.leave-requires
leave-requires c =
    let a = c.args in
    can_call (is_spook_lem a.instance _ c.is_spook.ensures c.if-is_spook.true) refl
    a.at.part a.at.call a.at.round a.assoc.now a.text.now a.out.now c.requires.0 c.requires.1

pub returns-then-is_spook : goal.returns-then-is_spook
returns-then-is_spook c =
    let g = c.leave in
    let a = c.args in
    leaves_by (is_spook_lem a.instance _ c.is_spook.ensures c.if-is_spook.true) a.sealing a.at.part a.at.call a.assoc.now a.text.now a.state
    a.out.now a.tag _ g.result g.ensures

pub leave-requires-2 : goal.leave-requires-2
leave-requires-2 c =
    let a = c.args in
    let e = is_isap a.instance _ c.is_spook.ensures c.if-is_spook.false in
    (subst (λ (s : Scheme). At s a.sealing (length a.assoc.now) (length a.text.now) a.at.part a.at.call a.at.round) e c.requires.0, c.requires.1)

pub returns : goal.returns
returns c =
    let g = c.leave-2 in
    let a = c.args in
    leaves_by (is_isap a.instance _ c.is_spook.ensures c.if-is_spook.false) a.sealing a.at.part a.at.call a.assoc.now a.text.now a.state
    a.out.now a.tag _ g.result g.ensures
