-- `isap::beginnings::begin_seal` meets its contract: a tag of zeros is not refused.
-- Assumes nothing.
use Rattle.std.proofs.Common.{ap, length, replicate, ◌∙◌}
use Rattle.instances.specs.Schemes.{scheme_of}
use Rattle.isap.specs.Beginnings.{limits_refusal, begun_job, begun_or, begin_seal_of}
use Rattle.isap.proofs.Beginning.{or_none_else}
use Rattle.isap.proofs.beginnings.begin_seal.Goals as goal

pub returns : goal.returns
unfolding begin_seal_of
returns c =
    let a = c.args in
    c.begun.ensures ∙ c.begin.ensures
    ∙ ap (λ r. begun_or r (begun_job scheme_of a.instance 1 a.key.now a.nonce.now (replicate 16 0) a.a a.m))
    (or_none_else (limits_refusal scheme_of a.instance (length a.key.now) (length a.nonce.now) a.a a.m))
