-- A row on an engine's words is the instance's row: its rounds are the engine's, and its block is.
-- Assumes nothing.
use mathlib.Core.Path.{◌≡◌, sym, ap, ◌∙◌}
use mathlib.Core.List.{List}
use Prim.Native.Nat.{ℕ, ◌-◌}
use Rattle.bits.specs.Run.{run}
use Rattle.mode.specs.Params.{Params}
use Rattle.sponge.specs.Engines.{Runs}
use Rattle.engine.specs.Fed.{fed, block_in, written_by}
use Rattle.rows.specs.Gone.{rounds_of}

module _ {p : Params} {n b m : ℕ} {r : ℕ → List ℕ → List ℕ} (e : Runs p n b m r) (most count rounds : ℕ) (em : most ≡ p.most) (ec : count ≡ rounds) where
  pub fed_as : (g : ℕ → List ℕ → List ℕ) (first calls : ℕ) (state : List ℕ)
      → fed (λ s. run n r (most - count) count s) g first calls state ≡ fed (λ s. rounds_of p rounds s) g first calls state
  fed_as g first calls state =
      (λ i. fed (λ s. sym (e.run (most - count) count s) i) g first calls state)
      ∙ (λ i. fed (λ s. run p.n p.round (em i - ec i) (ec i) s) g first calls state)

  pub blocks_as : (t : List ℕ) (first calls : ℕ) (state : List ℕ)
      → fed (λ s. run n r (most - count) count s) (block_in b t) first calls state ≡ fed (λ s. rounds_of p rounds s) (block_in p.b t) first calls state
  blocks_as t first calls state =
      fed_as (block_in b t) first calls state ∙ ap (λ (c : ℕ). fed (λ s. rounds_of p rounds s) (block_in c t) first calls state) (sym e.block)

  pub written_as : (t : List ℕ) (first calls : ℕ) (state out : List ℕ)
      → written_by (λ s. run n r (most - count) count s) b t first calls state out ≡ written_by (λ s. rounds_of p rounds s) p.b t first calls state out
  written_as t first calls state out =
      (λ i. written_by (λ s. sym (e.run (most - count) count s) i) b t first calls state out)
      ∙ (λ i. written_by (λ s. run p.n p.round (em i - ec i) (ec i) s) (sym e.block i) t first calls state out)
