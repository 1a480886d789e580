use Rattle.std.proofs.Common.{arith, inl, inr, subst, sym, ℕ, ◌-◌, ◌∙◌, ◌≡◌, ◌⊎◌}
use Rattle.instances.specs.Schemes.{scheme_of, lawful-scheme}
use Rattle.isap.specs.Sofar.{Sofar, sofar-start, sofar-fresh, sofar_more}
use Rattle.isap.specs.Rows.{rounds_on}
use Rattle.isap.proofs.Beginning.{some_number}
use Rattle.isap.proofs.Slicing.{unrefused, refuses, finishes, timed_now}
use Rattle.isap.proofs.slices.slice.Goals as goal
use Rattle.isap.proofs.slices.slice.Goals.{then-loop-left-test+else-current-eq0, else-loop-left-test}

pub returns-in-Err : goal.returns-in-Err
returns-in-Err c =
    let a = c.args in
    let n = c.number.ensures in
    refuses a.job a.assoc.now a.text.now a.out.now a.budget c.number.result (n ∙ c.in-Err.ensures) (λ z. some_number c.in-Err.refusal (sym n ∙ z))

pub of-counts-requires : goal.of-counts-requires
of-counts-requires c =
    let a = c.args in
    let f = unrefused a.job a.assoc.now a.text.now a.out.now (sym c.in_default.ensures) in
    (f.assoc_limit, f.text_limit)

pub loop-left-init : goal.loop-left-init
loop-left-init c =
    let a = c.args in
    sofar-start scheme_of lawful-scheme a.job a.assoc.now a.text.now a.out.now a.budget
    (unrefused a.job a.assoc.now a.text.now a.out.now (sym c.in_default.ensures))

pub further-next-requires : goal.further-next-requires
further-next-requires c =
    let a = c.args in
    let l = c.loop-left in (
      sofar-fresh scheme_of lawful-scheme a.job a.assoc.now a.text.now a.out.now a.budget l.left l.current l.out l.invariant c.if-current-eq0.true,
      timed_now a.job a.assoc.now a.text.now a.out.now a.budget l.left l.current l.out _ _ l.invariant c.of-counts.ensures,
      c.loop-left-test.true,
    )

pub loop-left-preserved : goal.loop-left-preserved
loop-left-preserved c =
    let g = c.further-next in
    let f = g.ensures in
    let a = c.args in
    let l = c.loop-left in
    let n : g.result.done - l.current.done ≡ f.count = omega (arith, rounds_on scheme_of f.turned) in
    subst (λ (k : ℕ). Sofar scheme_of a.job a.assoc.now a.text.now a.out.now a.budget (l.left - k) g.result g.new.out) (sym n)
    (sofar_more scheme_of lawful-scheme a.job a.assoc.now a.text.now a.out.now a.budget l.left l.current l.out f.count g.result g.new.out l.invariant f.fits f.turned)

pub returns : goal.returns
returns c =
    let a = c.args in
    let l = c.loop-left in
    let w : (l.left ≡ 0) ⊎ (l.current.ending ≡ 0 → ⊥) =
    elim c.loop-left-test.branch [ then-loop-left-test+else-current-eq0 w ↦ inr w.if-current-eq0.false | else-loop-left-test w ↦ inl (omega arith) ] in
    finishes a.job a.assoc.now a.text.now a.out.now a.budget l.left l.current l.out c.number_of.result (sym c.in_default.ensures) l.invariant w c.number_of.ensures
