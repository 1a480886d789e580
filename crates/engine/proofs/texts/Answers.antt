use Rattle.std.proofs.Common.{arith, length, refl, rules, ◌+◌, ◌-◌, ◌≡◌}
use Rattle.engine.specs.Fed.{nothing_in}
use Rattle.engine.proofs.Holding.{holds_start-at, holds_more-at, holds_end, so_far-start, so_far-end, so_far-more, in_string}
use Rattle.engine.proofs.texts.Goals as goal

pub loop-i-init : goal.loop-i-init
loop-i-init g c =
    let e = g.E.Engine in
    let a = c.args in
    let long : length a.state ≡ 64 = search rules in (
      holds_start-at e.width e.round a.from a.count nothing_in a.first a.state (e.bytes_of c.load-words.result) (omega (arith, g.met.E.Engine.room))
          c.load-words.ensures,
      so_far-start e.width e.round a.from a.count a.first a.state e.BLOCK a.text.now a.out.now,
    )

pub loop-i-preserved : goal.loop-i-preserved
loop-i-preserved g c =
    let e = g.E.Engine in
    let met = g.met.E.Engine in
    let a = c.args in
    let l = c.loop-i in
    let u = e.bytes_of l.words in
    let v = e.bytes_of c.run-words.result in
    let fits = in_string e.BLOCK l.i (a.first + a.calls) a.text.now c.loop-i-test.true c.requires.0 in
    let h = holds_more-at e.width e.round a.from a.count nothing_in a.first a.state met.keeps l.i u u v l.auto.i l.invariant.0 refl l.invariant.0.long
    c.run-words.ensures in (
      h,
      so_far-more e.width e.round a.from a.count a.first a.state e.BLOCK a.text.now a.out.now l.i v l.out c.write_xored.new.out l.auto.i h met.within fits
          l.invariant.1 (rw c.BLOCK.ensures at c.write_xored.ensures),
    )

pub returns : goal.returns
returns g c =
    let e = g.E.Engine in
    let a = c.args in
    let l = c.loop-i in
    let all : l.i - a.first ≡ a.calls = omega (arith, l.auto.i-end, c.loop-i-test.false) in (
      holds_end e.width e.round a.from a.count nothing_in a.first a.state (l.i - a.first) a.calls (e.bytes_of l.words) c.store.new.state l.invariant.0
          c.store.ensures all,
      so_far-end e.width e.round a.from a.count a.first a.state e.BLOCK a.text.now a.out.now l.i a.calls l.out l.invariant.1 all,
    )
