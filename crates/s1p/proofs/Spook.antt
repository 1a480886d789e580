-- Spook[128,512,su] is a lawful scheme.
-- Assumes nothing.
use Rattle.scheme.specs.Lawful.{LawfulScheme}
use Rattle.s1p.proofs.Lawful.{lawful_s1p}
use Rattle.s1p.specs.Spook.{spook, spook_scheme, spook-lawful}

-- ---- the scheme

pub lawful-spook : LawfulScheme spook_scheme
lawful-spook = lawful_s1p spook spook-lawful
