-- A choice by a test.
-- Assumes nothing.
use Rattle.std.specs.Prelude.{Bool, true, false}

-- x if the test is true, else y
abbrev pub pick {ℓ} : {A : Type ℓ} → Bool → A → A → A
pick true x y = x
pick false x y = y
