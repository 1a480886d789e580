-- The parts whose calls the code does several in one go.
-- Assumes nothing.
use Rattle.std.specs.Prelude.{Bool, ℕ}
use Rattle.bits.specs.Pick.{pick}
use Rattle.plan.specs.Kinds.{kind_of}
use Rattle.rows.specs.Gone.{many}
use Rattle.instances.specs.Schemes.{is_spook}
use Rattle.spook.specs.Going as spook

unfoldable pub rowable : (instance : ℕ) → (sealing : Bool) → (part : ℕ) → Bool
rowable instance sealing part = pick (is_spook instance) (spook.many part) (many (kind_of sealing part))
