-- `calls::rounds` meets its contract: the scheme's own code does, in either case.
-- Assumes nothing.
use Rattle.std.proofs.Common.{refl, subst}
use Rattle.scheme.specs.Scheme.{Scheme}
use Rattle.scheme.specs.Calls.{Rest}
use Rattle.calls.proofs.Dispatch.{is_spook_lem, is_isap, turns_by}
use Rattle.calls.proofs.SpookCalls.{can_turn, turns}
use Rattle.calls.proofs.rounds.Goals as goal

pub rounds-requires : goal.rounds-requires
rounds-requires c =
    let a = c.args in
    can_turn (is_spook_lem a.instance _ c.is_spook.ensures c.if-is_spook.true) c.if-sealing.true a.at.part a.at.round a.count c.requires

pub returns-then-sealing : goal.returns-then-sealing
returns-then-sealing c =
    let a = c.args in
    turns (is_spook_lem a.instance _ c.is_spook.ensures c.if-is_spook.true) c.if-sealing.true
    a.key a.at.part a.at.round a.count a.state a.session c.rounds.result c.rounds.ensures

pub rounds-requires-then-at-lt5 : goal.rounds-requires-then-at-lt5
rounds-requires-then-at-lt5 c =
    let a = c.args in
    can_turn (is_spook_lem a.instance _ c.is_spook.ensures c.if-is_spook.true) c.if-sealing.false a.at.part a.at.round a.count c.requires

pub returns-then-at-lt5 : goal.returns-then-at-lt5
returns-then-at-lt5 c =
    let a = c.args in
    turns (is_spook_lem a.instance _ c.is_spook.ensures c.if-is_spook.true) c.if-sealing.false
    a.key a.at.part a.at.round a.count a.state a.session c.rounds-then-at-lt5.result c.rounds-then-at-lt5.ensures

pub rounds-requires-then-is_spook : goal.rounds-requires-then-is_spook
rounds-requires-then-is_spook c =
    let a = c.args in
    can_turn (is_spook_lem a.instance _ c.is_spook.ensures c.if-is_spook.true) refl a.at.part a.at.round a.count c.requires

pub returns-then-is_spook : goal.returns-then-is_spook
returns-then-is_spook c =
    let a = c.args in
    turns (is_spook_lem a.instance _ c.is_spook.ensures c.if-is_spook.true) refl
    a.key a.at.part a.at.round a.count a.state a.session c.rounds-then-is_spook.result c.rounds-then-is_spook.ensures

pub rounds-requires-2 : goal.rounds-requires-2
rounds-requires-2 c =
    let a = c.args in
    subst (λ (s : Scheme). Rest s a.sealing a.at.part a.at.round a.count) (is_isap a.instance _ c.is_spook.ensures c.if-is_spook.false) c.requires

pub returns : goal.returns
returns c =
    let a = c.args in
    turns_by (is_isap a.instance _ c.is_spook.ensures c.if-is_spook.false) a.sealing
    a.key a.at.part a.at.round a.count a.state a.session c.rounds-2.result (c.rounds-2.ensures a.key a.session)
