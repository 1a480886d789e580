-- The line put at the start is what the buffer then begins with.
use Rattle.std.proofs.Common.{◌∙◌, ℕ, ap₂, get_or, rules}
use Rattle.planning.specs.Lines.{line, answer}
use Rattle.planning.specs.PutLaws.{put-start}
use Rattle.planning.proofs.lines.put_line.Goals as goal

pub returns-clause-out_after : goal.returns-clause-out_after
unfolding answer
returns-clause-out_after c =
    let p = put-start c.put_plan.ensures (search rules) in
    p.2 ∙ ap₂ (λ (a m : ℕ). line (get_or c.args.request 0 0) a m) c.pair.ensures c.pair-2.ensures
