use Rattle.std.proofs.Common.{arith, length, rules, ◌-◌, ◌≡◌}
use Rattle.engine.proofs.Holding.{holds_start-at, holds_end}
use Rattle.rows.specs.Bits.{bit_in}
use Rattle.rows.proofs.Holding.{bit_more}
use Rattle.rows.proofs.each_bit.Goals as goal

pub loop-i-init : goal.loop-i-init
loop-i-init g c =
    let e = g.E.Engine in
    let a = c.args in
    let long : length a.state ≡ 64 = search rules in
    holds_start-at e.width e.round a.from a.count (bit_in a.y.now) a.first a.state (e.bytes_of c.load-words.result) (omega (arith, g.met.E.Engine.room))
    c.load-words.ensures

pub loop-i-preserved : goal.loop-i-preserved
loop-i-preserved g c =
    let e = g.E.Engine in
    let met = g.met.E.Engine in
    let a = c.args in
    let l = c.loop-i in
    bit_more met.keeps a.from a.count a.first a.state (omega (arith, met.some, met.within)) a.y.now l.i c.bit_at-bit.result (e.bytes_of l.words)
    (e.bytes_of c.with_first.result) (e.bytes_of c.run-words.result) l.auto.i l.invariant c.bit_at-bit.ensures c.with_first.ensures c.run-words.ensures

pub returns : goal.returns
returns g c =
    let e = g.E.Engine in
    let a = c.args in
    let l = c.loop-i in
    holds_end e.width e.round a.from a.count (bit_in a.y.now) a.first a.state (l.i - a.first) a.calls (e.bytes_of l.words) c.store.new.state l.invariant
    c.store.ensures
    (omega (arith, l.auto.i-end, c.loop-i-test.false))
