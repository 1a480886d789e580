-- `sponge::start` meets its contract: sixteen bytes, and the initial value behind them.
-- Assumes nothing.
use Rattle.std.proofs.Common.{ap, ap₂, arith, length, rules, take, ℕ, ◌++◌, ◌+◌, ◌-◌, ◌∙◌, ◌≡◌}
use Rattle.bits.specs.Put.{put_at, put_at_then, put_at_zero}
use Rattle.mode.specs.Params.{iv}
use Rattle.mode.specs.Instances.{params_of}
use Rattle.sponge.proofs.start.Goals as goal

pub returns : goal.returns
returns c =
    let a = c.args in
    let n = c.state_bytes-m in
    let value = c.initial-value in
    let long : length a.sixteen ≡ 16 = search rules in
    let state-long : length a.state ≡ 64 = search rules in
    let flagged = iv (params_of a.instance) a.flag in
    let e : take (n.result - 16) value.result ≡ flagged = ap (λ (k : ℕ). take (k - 16) value.result) n.ensures.0 ∙ value.ensures in
    let at : 16 ≡ 0 + length a.sixteen = omega arith in
    c.put_at.ensures
    ∙ ap₂ (put_at 16) e c.put_at-s.ensures
    ∙ ap (λ (k : ℕ). put_at k flagged (put_at 0 a.sixteen a.state)) at
    ∙ put_at_then 0 a.sixteen flagged a.state (omega arith)
    ∙ put_at_zero (a.sixteen ++ flagged) a.state
