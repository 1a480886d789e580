-- What the library writes is the number in decimal digits, of which there are seven at most; behind them a character.
use Rattle.std.proofs.Common.{◌≡◌, ◌∙◌, length, arith, rules}
use Rattle.planning.specs.Lines.{ended}
use Rattle.planning.specs.PutLaws.{put_then, put_as}
use Rattle.planning.proofs.Spelled.{spelled, at_most_seven}
use Rattle.planning.proofs.lines.put_ended.Goals as goal

pub put_text-end-requires : goal.put_text-end-requires
put_text-end-requires c = omega (arith, at_most_seven c.args.n _ (c.as_bytes.ensures.value ∙ c.format.ensures.text) c.requires.0)

pub put_text-requires : goal.put_text-requires
put_text-requires c =
    let short = at_most_seven c.args.n _ (c.as_bytes.ensures.value ∙ c.format.ensures.text) c.requires.0 in
    let same : length c.put_text-end.new.out ≡ length c.args.out.now = search rules in
    omega (arith, c.put_text-end.ensures.ends, short, same)

pub returns : goal.returns
unfolding ended
returns c =
    let text = c.as_bytes.ensures.value ∙ c.format.ensures.text in
    let number = put_as (text ∙ spelled c.args.n c.requires.0) c.put_text-end.ensures (at_most_seven c.args.n _ text c.requires.0) in
    put_then number c.put_text.ensures (omega arith)
