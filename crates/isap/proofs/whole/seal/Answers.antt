-- `isap::whole::seal` meets its contract: its refusal, or a beginning and one slice that ends the job.
-- Assumes nothing.
use Rattle.std.proofs.Common.{arith, sym}
use Rattle.instances.specs.Schemes.{scheme_of}
use Rattle.isap.specs.Fits.{fits}
use Rattle.isap.proofs.Beginning.{some_number}
use Rattle.isap.proofs.Wholes.{seal_refused, seal_done}
use Rattle.isap.proofs.whole.seal.Goals as goal

pub returns-in-Err : goal.returns-in-Err
returns-in-Err c =
    let a = c.args in
    rw c.refused.ensures
    (seal_refused a.instance a.key.now a.nonce.now a.assoc.now a.text.now a.out.now a.tag.now _ c.in-Err.ensures (some_number c.in-Err.refusal))

pub overflow_cast-a : goal.overflow_cast-a
overflow_cast-a c =
    let a = c.args in
    let h = fits scheme_of a.instance a.key.now a.nonce.now a.assoc.now a.text.now a.out.now a.tag.now (sym c.in_default.ensures) in
    omega (arith, h.assoc_limit)

pub overflow_cast-m : goal.overflow_cast-m
overflow_cast-m c =
    let a = c.args in
    let h = fits scheme_of a.instance a.key.now a.nonce.now a.assoc.now a.text.now a.out.now a.tag.now (sym c.in_default.ensures) in
    omega (arith, h.text_limit)

pub put_tag-requires : goal.put_tag-requires
put_tag-requires c =
    let a = c.args in
    let h = fits scheme_of a.instance a.key.now a.nonce.now a.assoc.now a.text.now a.out.now a.tag.now (sym c.in_default.ensures) in
    h.tag_long

pub returns : goal.returns
returns c =
    let a = c.args in
    rw c.into.ensures
    (seal_done a.instance a.key.now a.nonce.now a.assoc.now a.text.now a.out.now a.tag.now (sym c.in_default.ensures)
    c.begin_seal-begun.result c.begin_seal-begun.ensures c.slice-ended.result c.slice-ended.ensures.0 c.slice-ended.new.out c.slice-ended.ensures.1 c.put_tag.new.tag c.put_tag.ensures)
