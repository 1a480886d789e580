-- `sponge::cleared` meets its contract: zeros are put over the instance's part of the session bytes.
-- Assumes nothing.
use Rattle.std.proofs.Common.{List, ap, arith, replicate, take, ℕ, ◌∙◌}
use Rattle.bits.specs.Put.{put, put_at_zero}
use Rattle.sponge.proofs.Placing.{take-zeros}
use Rattle.sponge.proofs.cleared.Goals as goal

pub returns : goal.returns
returns c =
    let a = c.args in
    let n = c.state_bytes-n in
    c.put_at.ensures
    ∙ put_at_zero (take n.result (replicate 64 0)) a.session
    ∙ ap (λ (u : List ℕ). put u a.session) (take-zeros n.result 64 (omega (arith, n.ensures.2)))
    ∙ ap (λ (k : ℕ). put (replicate k 0) a.session) n.ensures.0
