use Rattle.std.proofs.Common.{List, arith, length, rules, subst, sym, take_all, ℕ, ◌-◌, ◌∙◌, ◌≡◌}
use Rattle.std.proofs.Math.Nat.{sub_self}
use Rattle.shadow.specs.OnBytes.{bundle_bytes, bundles_are}
use Rattle.s1p.specs.Spook.{spook, spook-lawful}
use Rattle.spook.specs.Going.{TextGone}
use Rattle.spook.proofs.Blocks.{words_back}
use Rattle.spook.proofs.Rowing.{text_none, text_more-at}
use Rattle.spook.proofs.in_words.text_row.Goals as goal

pub loop-i-init : goal.loop-i-init
loop-i-init c =
    let a = c.args in
    let long : length a.state ≡ 64 = search rules in
    let u = bundle_bytes c.load-bundles.result in (
      c.requires.2,
      subst (λ (n : ℕ). TextGone spook a.sealing a.writes a.first n a.text.now a.state a.out.now u a.out.now) (sym (sub_self a.first))
          (text_none spook spook-lawful.round a.sealing a.writes a.first a.text.now a.state a.out.now u
          (c.load-bundles.ensures ∙ take_all 64 a.state (omega arith))),
    )

pub loop-i-preserved : goal.loop-i-preserved
unfolding spook
loop-i-preserved c =
    let a = c.args in
    let l = c.loop-i in (
      search rules,
      text_more-at spook spook-lawful.round a.sealing a.writes a.first l.i a.text.now a.state a.out.now (bundle_bytes l.bundles) (bundle_bytes c.taken.result)
          (bundle_bytes c.run-bundles.result) l.out c.write_next.new.out l.auto.i l.invariant.1 (bundles_are l.bundles).long l.invariant.0 c.requires.0
          (omega (arith, c.requires.1, c.loop-i-test.true)) c.taken.ensures c.run-bundles.ensures c.write_next.ensures,
    )

pub returns : goal.returns
returns c =
    let a = c.args in
    let l = c.loop-i in
    let long : length a.state ≡ 64 = search rules in
    let all : l.i - a.first ≡ a.calls = omega (arith, l.auto.i-end, c.loop-i-test.false) in
    let back = words_back (bundle_bytes l.bundles) a.state c.store.new.state long c.store.ensures in
    subst (λ (n : ℕ). TextGone spook a.sealing a.writes a.first n a.text.now a.state a.out.now c.store.new.state l.out) all
    (subst (λ (u : List ℕ). TextGone spook a.sealing a.writes a.first (l.i - a.first) a.text.now a.state a.out.now u l.out) (sym back) l.invariant.1)
