-- `calls::enter` meets its contract: the scheme's own code does, in either case.
-- Assumes nothing.
use Rattle.std.proofs.Common.{length, refl, subst}
use Rattle.scheme.specs.Machine.{given, machine}
use Rattle.scheme.specs.Scheme.{Scheme}
use Rattle.scheme.specs.Calls.{At}
use Rattle.calls.proofs.Dispatch.{is_spook_lem, is_isap, enters_by}
use Rattle.calls.proofs.SpookCalls.{can_call, enters}
use Rattle.calls.proofs.enter.Goals as goal

pub enter-requires : goal.enter-requires
enter-requires c =
    let a = c.args in
    can_call (is_spook_lem a.instance _ c.is_spook.ensures c.if-is_spook.true) c.if-sealing.true
    a.at.part a.at.call a.at.round a.assoc.now a.text.now a.out.now c.requires.0 c.requires.1

pub returns-then-sealing : goal.returns-then-sealing
returns-then-sealing c =
    let a = c.args in
    enters (is_spook_lem a.instance _ c.is_spook.ensures c.if-is_spook.true) c.if-sealing.true
    a.at.part a.at.call a.key a.nonce a.assoc.now a.text.now a.state a.session a.out.now a.tag
    c.enter.result.state c.enter.result.session (c.enter.ensures a.key)

pub enter-requires-then-at-lt5 : goal.enter-requires-then-at-lt5
enter-requires-then-at-lt5 c =
    let a = c.args in
    can_call (is_spook_lem a.instance _ c.is_spook.ensures c.if-is_spook.true) c.if-sealing.false
    a.at.part a.at.call a.at.round a.assoc.now a.text.now a.out.now c.requires.0 c.requires.1

pub returns-then-at-lt5 : goal.returns-then-at-lt5
returns-then-at-lt5 c =
    let a = c.args in
    enters (is_spook_lem a.instance _ c.is_spook.ensures c.if-is_spook.true) c.if-sealing.false
    a.at.part a.at.call a.key a.nonce a.assoc.now a.text.now a.state a.session a.out.now a.tag
    c.enter-then-at-lt5.result.state c.enter-then-at-lt5.result.session (c.enter-then-at-lt5.ensures a.key)

pub enter-requires-then-is_spook : goal.enter-requires-then-is_spook
enter-requires-then-is_spook c =
    let a = c.args in
    can_call (is_spook_lem a.instance _ c.is_spook.ensures c.if-is_spook.true) refl
    a.at.part a.at.call a.at.round a.assoc.now a.text.now a.out.now c.requires.0 c.requires.1

pub returns-then-is_spook : goal.returns-then-is_spook
returns-then-is_spook c =
    let a = c.args in
    enters (is_spook_lem a.instance _ c.is_spook.ensures c.if-is_spook.true) refl
    a.at.part a.at.call a.key a.nonce a.assoc.now a.text.now a.state a.session a.out.now a.tag
    c.enter-then-is_spook.result.state c.enter-then-is_spook.result.session (c.enter-then-is_spook.ensures a.key)

pub enter-requires-2 : goal.enter-requires-2
enter-requires-2 c =
    let a = c.args in
    let e = is_isap a.instance _ c.is_spook.ensures c.if-is_spook.false in
    (subst (λ (s : Scheme). At s a.sealing (length a.assoc.now) (length a.text.now) a.at.part a.at.call a.at.round) e c.requires.0, c.requires.1)

pub returns : goal.returns
returns c =
    let a = c.args in
    enters_by (is_isap a.instance _ c.is_spook.ensures c.if-is_spook.false) (given a.sealing a.key a.nonce a.assoc.now a.text.now)
    a.at.part a.at.call (machine a.state a.session a.out.now a.tag) c.enter-2.result.state c.enter-2.result.session (c.enter-2.ensures a.tag)
