-- `sponge::initial` meets its contract: the eight bytes are the instance's numbers, and zeros follow as far as its state goes.
-- Assumes nothing.
use Rattle.std.proofs.Common.{arith, replicate, ◌*◌, ◌-◌, ◌∙◌, ◌∷◌}
use Rattle.mode.specs.Params.{iv}
use Rattle.mode.specs.InstanceLaws.{lawful_instance}
use Rattle.mode.specs.Instances.{params_of}
use Rattle.sponge.proofs.Placing.{value-front}
use Rattle.sponge.proofs.initial.Goals as goal

pub returns : goal.returns
unfolding iv
returns c =
    let instance = c.args.instance in
    let flag = c.args.flag in
    let n = (params_of instance).n in
    let q = c.numbers_of-q.result in
    let e = c.numbers_of-q.ensures in
    rw c.copy_from_slice.ensures.after
    (value-front n flag 128 (8 * q.b) 1 q.sh q.sb q.se q.sk (lawful_instance instance).room (omega (arith, e.n))
    ∙ (λ i. flag ∷ 128 ∷ 8 * e.b i ∷ 1 ∷ e.sh i ∷ e.sb i ∷ e.se i ∷ e.sk i ∷ replicate (n - 24) 0))
