-- Two strings, one behind the other.
use Rattle.std.proofs.Common.{sym, arith}
use borrow.Author.Tests.{eq-eqb, ne_eqb}
use Rattle.planning.specs.Lines.{refused, rest}
use Rattle.planning.specs.PutLaws.{put_then, put_as}
use Rattle.planning.proofs.lines.put_rest.Goals as goal

pub returns-then-r-eq0 : goal.returns-then-r-eq0
unfolding rest refused
returns-then-r-eq0 c =
    put_as (sym (simp (eq-eqb c.args.r.number 0 c.if-r-eq0.true))) (put_then c.put_ended-next.ensures c.put_ended.ensures (omega arith)) (omega arith)

pub returns : goal.returns
unfolding rest refused
returns c =
    put_as (sym (simp (ne_eqb c.args.r.number 0 c.if-r-eq0.false))) (put_then c.put_text-next.ensures c.put_ended-2.ensures (omega arith)) (omega arith)
