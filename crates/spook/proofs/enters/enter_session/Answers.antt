-- `spook::enters::enter_session` meets its contract: a whole state stands in the session bytes.
-- Assumes nothing.
use Rattle.std.proofs.Common.{ap, arith, length, rules, sym, take_all, ◌∙◌, ◌≡◌}
use Rattle.s1p.proofs.Laws.{put_all}
use Rattle.spook.specs.Kinds.{number}
use Rattle.spook.specs.Entering.{session_bytes}
use Rattle.spook.proofs.enters.enter_session.Goals as goal

pub returns-in-Closing : goal.returns-in-Closing
unfolding session_bytes
returns-in-Closing c =
    let a = c.args in
    let long : length a.state ≡ 64 = search rules in
    let session-long : length a.session ≡ 64 = search rules in
    rw (session_bytes, sym c.of.ensures ∙ ap number c.in-Closing.is, take_all 64 a.state (omega arith)) (sym (put_all a.state a.session (long ∙ sym session-long)))
