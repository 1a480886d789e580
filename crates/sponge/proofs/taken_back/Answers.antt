-- `sponge::taken_back` meets its contract: the session bytes from 16 on are put behind the state's first sixteen.
-- Assumes nothing.
use Rattle.std.proofs.Common.{List, ap, arith, drop, length, rules, sym, take, ℕ, ◌++◌, ◌∙◌, ◌≡◌}
use Rattle.bits.specs.Put.{put, put_at, put_at_keep}
use Rattle.sponge.proofs.Placing.{drop-take}
use Rattle.sponge.proofs.taken_back.Goals as goal

pub returns : goal.returns
returns c =
    let a = c.args in
    let n = c.state_bytes-n in
    let long : length a.state ≡ 64 = search rules in
    c.put_at.ensures
    ∙ ap (λ (u : List ℕ). put_at 16 u a.state) (sym (drop-take 16 n.result a.session (omega (arith, n.ensures))))
    ∙ put_at_keep 16 (drop 16 (take n.result a.session)) a.state (omega arith)
    ∙ ap (λ (k : ℕ). put (take 16 a.state ++ drop 16 (take k a.session)) a.state) n.ensures.0
