-- `sponge::state_bytes` meets its contract: an instance's state has room for a key and an initial value.
-- Assumes nothing.
use Rattle.std.proofs.Common.{arith}
use Rattle.mode.specs.InstanceLaws.{lawful_instance}
use Rattle.sponge.proofs.state_bytes.Goals as goal

pub returns : goal.returns
returns c = let l = (lawful_instance c.args.instance).room in let e = c.numbers_of.ensures in (e.n, omega arith, omega arith)
