use Rattle.std.proofs.Common.{arith, length, rules, ◌+◌, ◌-◌, ◌≡◌}
use Rattle.engine.specs.Fed.{block_in}
use Rattle.engine.proofs.Holding.{holds_start-at, holds_end, block_more, in_string}
use Rattle.engine.proofs.blocks.Goals as goal

pub loop-i-init : goal.loop-i-init
loop-i-init g c =
    let e = g.E.Engine in
    let a = c.args in
    let long : length a.state ≡ 64 = search rules in
    holds_start-at e.width e.round a.from a.count (block_in e.BLOCK a.src.now) a.first a.state (e.bytes_of c.load-words.result) (omega (arith, g.met.E.Engine.room)) c.load-words.ensures

pub loop-i-preserved : goal.loop-i-preserved
loop-i-preserved g c =
    let e = g.E.Engine in
    let a = c.args in
    let l = c.loop-i in
    block_more g.met.E.Engine.keeps a.from a.count a.first a.state e.BLOCK a.src.now l.i (e.bytes_of l.words) (e.bytes_of c.absorbed.result)
    (e.bytes_of c.run-words.result) l.auto.i l.invariant g.met.E.Engine.within (in_string e.BLOCK l.i (a.first + a.calls) a.src.now c.loop-i-test.true c.requires.0)
    (rw (c.BLOCK.ensures, c.BLOCK-in-loop-i.ensures) at c.absorbed.ensures)
    c.run-words.ensures

pub returns : goal.returns
returns g c =
    let e = g.E.Engine in
    let a = c.args in
    let l = c.loop-i in
    holds_end e.width e.round a.from a.count (block_in e.BLOCK a.src.now) a.first a.state (l.i - a.first) a.calls (e.bytes_of l.words) c.store.new.state l.invariant
    c.store.ensures
    (omega (arith, l.auto.i-end, c.loop-i-test.false))
