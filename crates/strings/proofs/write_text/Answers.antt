-- `strings::write_text` meets its contract: the part of the output that is lent is the text's block (`wrote`).
-- Assumes nothing.
use Rattle.std.proofs.Common.{List, ap, arith, length, rules, sym, ℕ, ◌*◌, ◌∙◌, ◌≡◌, ◌≤◌}
use Rattle.bits.specs.Put.{put_at, put_at_none}
use Rattle.bits.specs.Xors.{xors, xors_none}
use Rattle.bits.specs.StringLaws.{block_none}
use Rattle.strings.proofs.Placing.{wrote}
use Rattle.strings.proofs.write_text.Goals as goal

pub returns-then-text-a : goal.returns-then-text-a
returns-then-text-a c =
    let a = c.args in
    let past : length a.text.now ≤ a.i * a.b = omega arith in
    sym
    (ap (λ (u : List ℕ). put_at (a.i * a.b) (xors a.state u) a.out.now) (block_none a.b a.i a.text.now past)
    ∙ ap (λ (u : List ℕ). put_at (a.i * a.b) u a.out.now) (xors_none a.state)
    ∙ put_at_none (a.i * a.b) a.out.now)

pub returns : goal.returns
returns c =
    let e = c.min-e in
    let a = c.args in
    let long : length a.state ≡ 64 = search rules in
    wrote a.i a.b e.result c.write_block.new.out a.text.now a.state a.out.now
    (omega (arith, c.requires.1)) (omega arith) e.ensures c.write_block.ensures
