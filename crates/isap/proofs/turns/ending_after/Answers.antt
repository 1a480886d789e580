-- `isap::turns::ending_after` meets its contract: a wrong tag at the decision, else the last of all rounds.
-- Assumes nothing.
use Rattle.std.proofs.Common.{Bool, List, ap, eq-eqb, eqb, false, ne_eqb, refl, subst, sym, true, ℕ, ◌+◌, ◌∙◌, ◌≡◌}
use mir.Val.{bool_byte}
use Rattle.bits.specs.Pick.{pick}
use Rattle.stopping.specs.Course.{ending_of}
use Rattle.stopping.specs.Follows.{ends_true}
use Rattle.scheme.specs.Machine.{machine}
use Rattle.scheme.specs.Calls.{Decides}
use Rattle.instances.specs.Schemes.{scheme_of}
use Rattle.isap.specs.declared.Job.{Job}
use Rattle.isap.specs.Records.{sealing_of, course_of}
use Rattle.isap.specs.Turns.{Ends}
use Rattle.isap.proofs.turns.ending_after.Goals as goal
use Rattle.isap.proofs.turns.ending_after.Goals.{else-done-counts-via-then-done-counts+else-not-decide, else-done-counts-via-else-done-counts}

-- what the code decides is what the record's course would
decided : (j : Job) (tag s ss : List ℕ) (w : Bool) → w ≡ sealing_of j.direction → (r b : Bool) → Decides (scheme_of j.instance) w s ss tag r → r ≡ b
    → (assoc text out : List ℕ) → (course_of scheme_of j assoc text).accepts (machine s ss out tag) ≡ b
unfolding Decides course_of
decided j tag s ss w e r b d q assoc text out =
    let d' = subst (λ (v : Bool). Decides (scheme_of j.instance) v s ss tag r) e d in
    sym (d' j.key j.nonce assoc text out) ∙ q

as_number : (b : Bool) → bool_byte b ≡ pick b 1 0
as_number true = refl
as_number false = refl

-- past the decision's round, what the decision would say has no part in it
elsewhere : (v e d : ℕ) (ok : Bool) → (d ≡ v → ⊥) → ending_of v e d ok ≡ pick (eqb d (v + e)) 1 0
unfolding ending_of
elsewhere v e d ok f = rw (ne_eqb d v f)

pub returns-then-not-decide : goal.returns-then-not-decide
unfolding ending_of Ends
returns-then-not-decide c x y z =
    let a = c.args in
    let d = decided a.job a.tag a.state a.session _ c.sealing.ensures c.decide.result false c.decide.ensures c.if-not-decide.true x y z in
    rw (eq-eqb _ _ c.if-done-counts.true, d)

pub returns : goal.returns
unfolding Ends
returns c x y z =
    let a = c.args in
    let v = a.counts.front in
    let e = a.counts.back in
    let last = c.from.ensures ∙ as_number _ ∙ ap (λ (n : ℕ). pick (eqb a.done n) 1 0) c.total.ensures in
    elim c.else-done-counts.branch [
      | else-done-counts-via-then-done-counts+else-not-decide w ↦
          last ∙ sym (ends_true v e a.done)
          ∙ sym (ap (ending_of v e a.done) (decided a.job a.tag a.state a.session _ w.sealing.ensures w.decide.result true w.decide.ensures w.if-not-decide.false x y z))
      | else-done-counts-via-else-done-counts w ↦ last ∙ sym (elsewhere v e a.done _ w.if-done-counts.false)
    ]
