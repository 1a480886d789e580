-- `isap::whole::open` meets its contract: its refusal, or a beginning and one slice that ends the job.
-- Assumes nothing.
use Rattle.std.proofs.Common.{arith, sym}
use Rattle.instances.specs.Schemes.{scheme_of}
use Rattle.isap.specs.Fits.{fits}
use Rattle.isap.proofs.Beginning.{some_number}
use Rattle.isap.proofs.Wholes.{open_refused, open_done}
use Rattle.isap.proofs.whole.open.Goals as goal

pub returns-in-Err : goal.returns-in-Err
returns-in-Err c =
    let a = c.args in
    rw c.refused.ensures
    (open_refused a.instance a.key.now a.nonce.now a.assoc.now a.text.now a.tag.now a.out.now _ c.in-Err.ensures (some_number c.in-Err.refusal))

pub overflow_cast-a : goal.overflow_cast-a
overflow_cast-a c =
    let a = c.args in
    let h = fits scheme_of a.instance a.key.now a.nonce.now a.assoc.now a.text.now a.out.now a.tag.now (sym c.in_default.ensures) in
    omega (arith, h.assoc_limit)

pub overflow_cast-m : goal.overflow_cast-m
overflow_cast-m c =
    let a = c.args in
    let h = fits scheme_of a.instance a.key.now a.nonce.now a.assoc.now a.text.now a.out.now a.tag.now (sym c.in_default.ensures) in
    omega (arith, h.text_limit)

pub returns : goal.returns
returns c =
    let a = c.args in
    rw c.into.ensures
    (open_done a.instance a.key.now a.nonce.now a.assoc.now a.text.now a.tag.now a.out.now
    (record { each = λ i. (c.type_inv.key i).fits }) (record { each = λ i. (c.type_inv.nonce i).fits }) (record { each = λ i. (c.type_inv.assoc i).fits }) (record { each = λ i. (c.type_inv.text i).fits }) (record { each = λ i. (c.type_inv.tag i).fits })
    (sym c.in_default.ensures)
    c.begin_open-begun.result c.begin_open-begun.ensures c.slice.result c.slice.ensures.0 c.slice.new.out c.slice.ensures.1)
