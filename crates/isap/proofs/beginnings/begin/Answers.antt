-- `isap::beginnings::begin` meets its contract: the first refusal, or the record, for which everything has its length.
-- Assumes nothing.
use Rattle.std.proofs.Common.{length, sym, ◌∙◌}
use Rattle.std.proofs.lemmas.Result.{err_from_is_err_and}
use Rattle.instances.specs.Schemes.{scheme_of, key_bytes_lem}
use Rattle.isap.specs.Begun.{limits_none, tag_none}
use Rattle.isap.proofs.Beginning.{first_refusal, next_refusal, refused_or, begun_or_lem}
use Rattle.isap.proofs.beginnings.begin.Goals as goal

pub returns-in_err-check_limits : goal.returns-in_err-check_limits
returns-in_err-check_limits c =
    let p = err_from_is_err_and c.from_residual.result c.from_residual.ensures.1 in
    let e = c.in_err-check_limits.field-0.0 in
    rw (p.1, p.2) (refused_or _ _ e (first_refusal e _ _ c.in_err-check_limits.ensures))

pub returns-in_err-check_tag : goal.returns-in_err-check_tag
returns-in_err-check_tag c =
    let p = err_from_is_err_and c.from_residual-in_err-check_tag.result c.from_residual-in_err-check_tag.ensures.1 in
    let e = c.in_err-check_tag.field-0.0 in
    rw (p.1, p.2) (refused_or _ _ e (next_refusal _ _ _ c.in_ok-check_limits.ensures c.in_err-check_tag.ensures))

pub begun_job-requires : goal.begun_job-requires
begun_job-requires c =
    let a = c.args in
    let t = limits_none scheme_of a.instance (length a.key.now) (length a.nonce.now) a.a a.m (sym c.in_ok-check_limits.ensures) in
    (t.1 ∙ key_bytes_lem a.instance, t.2, tag_none (length a.tag.now) (sym c.in_ok-check_tag.ensures), t.3, t.4)

pub returns : goal.returns
returns c = begun_or_lem _ _ (next_refusal _ _ _ c.in_ok-check_limits.ensures c.in_ok-check_tag.ensures) _ c.begun_job.ensures
