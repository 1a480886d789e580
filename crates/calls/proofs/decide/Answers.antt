-- `calls::decide` meets its contract: the scheme's own code does, in either case.
-- Assumes nothing.
use Rattle.std.proofs.Common.{Bool, List, false, subst, sym, true, ℕ, ◌≡◌}
use Rattle.scheme.specs.Machine.{given, machine}
use Rattle.scheme.specs.Scheme.{Scheme}
use Rattle.scheme.specs.Calls.{Decides}
use Rattle.instances.specs.Schemes.{scheme_of, lawful-scheme}
use Rattle.calls.proofs.Dispatch.{is_spook_lem, is_isap}
use Rattle.calls.proofs.decide.Goals as goal

-- a sealing has nothing to decide
sealing_decides : (i : ℕ) (sealing : Bool) (state session tag : List ℕ) → sealing ≡ true → Decides (scheme_of i) sealing state session tag true
unfolding Decides
sealing_decides i sealing state session tag e key nonce assoc text out =
    sym ((lawful-scheme i).accepts (given sealing key nonce assoc text) e (machine state session out tag))

pub returns-then-sealing : goal.returns-then-sealing
returns-then-sealing c = let a = c.args in sealing_decides a.instance a.sealing a.state a.session a.tag c.if-sealing.true

pub returns-then-is_spook : goal.returns-then-is_spook
returns-then-is_spook c =
    let a = c.args in
    subst (λ (b : Bool). Decides (scheme_of a.instance) b a.state a.session a.tag c.decide.result) (sym c.if-sealing.false)
    (subst (λ (s : Scheme). Decides s false a.state a.session a.tag c.decide.result)
    (sym (is_spook_lem a.instance _ c.is_spook.ensures c.if-is_spook.true)) (c.decide.ensures a.tag))

pub returns : goal.returns
returns c =
    let a = c.args in
    subst (λ (b : Bool). Decides (scheme_of a.instance) b a.state a.session a.tag c.decide-2.result) (sym c.if-sealing.false)
    (subst (λ (s : Scheme). Decides s false a.state a.session a.tag c.decide-2.result)
    (sym (is_isap a.instance _ c.is_spook.ensures c.if-is_spook.false)) (c.decide-2.ensures a.session))
