-- THEOREM. Clyde-128 and its inverse undo one another in either order, for every key and tweak: on rows (`either_order`), on blocks of 16
-- bytes (`either_order_bytes`), and as twelve rounds, one after the other, on the bytes (`either_order_turns`), which are the two
-- (`clyde-turns`, `clyde-turns-back`).
-- Assumes nothing.
use Rattle.std.specs.Prelude.{◌≡◌, List, ℕ}
use Rattle.std.proofs.Math.Path.{sym, ap}
use Rattle.std.proofs.Common.{◌∙◌}
use Rattle.bits.specs.Bytes.{Buffer}
use Rattle.bits.specs.Run.{turns, rounds}
use Rattle.clyde.specs.declared.Rows.{Rows}
use Rattle.clyde.specs.Clyde.{clyde, clyde_inverse, rows_of, bytes_of, clyde_bytes, clyde_bytes_inverse}
use Rattle.clyde.specs.Sbox.{Fit}
use Rattle.clyde.proofs.Undone.{clyde-fit, clyde_inverse-fit, clyde_undone, clyde_undoes}
use Rattle.clyde.specs.Rounds.{clyde-rounds, clyde_inverse-rounds}
use Rattle.clyde.specs.OnBytes.{clyde_turn, clyde_turn_back}
use Rattle.clyde.proofs.OnBytes.{rows_of-bytes_of, rows_are, block_fit, block_back, forward_bytes, backward_bytes}

pub either_order : {k t s : Rows} → Fit k → Fit t → Fit s → (clyde_inverse k t (clyde k t s) ≡ s) × (clyde k t (clyde_inverse k t s) ≡ s)
either_order {s = s} hk ht hs = (clyde_undone hk ht s hs, clyde_undoes hk ht s hs)

module _ (k t s : List ℕ) (hk : Buffer 16 k) (ht : Buffer 16 t) (hs : Buffer 16 s) where
  fk : Fit (rows_of k)
  fk = block_fit hk

  ft : Fit (rows_of t)
  ft = block_fit ht

  fs : Fit (rows_of s)
  fs = block_fit hs

  pub either_order_bytes : (clyde_bytes_inverse k t (clyde_bytes k t s) ≡ s) × (clyde_bytes k t (clyde_bytes_inverse k t s) ≡ s)
  unfolding clyde_bytes clyde_bytes_inverse
  either_order_bytes = (
    ap (λ (x : Rows). bytes_of (clyde_inverse (rows_of k) (rows_of t) x)) (rows_of-bytes_of _ (clyde-fit fk ft (rows_of s) fs))
        ∙ ap bytes_of (clyde_undone fk ft (rows_of s) fs) ∙ block_back s hs,
    ap (λ (x : Rows). bytes_of (clyde (rows_of k) (rows_of t) x)) (rows_of-bytes_of _ (clyde_inverse-fit fk ft (rows_of s) fs))
        ∙ ap bytes_of (clyde_undoes fk ft (rows_of s) fs) ∙ block_back s hs,
  )

  pub clyde-turns : turns (clyde_turn k t) 12 s ≡ clyde_bytes k t s
  unfolding turns rounds clyde_bytes
  clyde-turns =
      ap (turns (clyde_turn k t) 12) (sym (block_back s hs)) ∙ sym (forward_bytes k t hk ht 0 12 (rows_of s) fs)
      ∙ ap bytes_of (clyde-rounds (rows_of k) (rows_of t) (rows_of s))

  pub clyde-turns-back : turns (clyde_turn_back k t) 12 s ≡ clyde_bytes_inverse k t s
  unfolding turns rounds clyde_bytes_inverse
  clyde-turns-back =
      ap (turns (clyde_turn_back k t) 12) (sym (block_back s hs)) ∙ sym (backward_bytes k t hk ht 0 12 (rows_of s) fs)
      ∙ ap bytes_of (clyde_inverse-rounds (rows_of k) (rows_of t) (rows_of s))

pub clyde-block : (k t s : List ℕ) → Buffer 16 (clyde_bytes k t s)
unfolding clyde_bytes
clyde-block k t s = rows_are (clyde (rows_of k) (rows_of t) (rows_of s))

pub clyde-block-back : (k t s : List ℕ) → Buffer 16 (clyde_bytes_inverse k t s)
unfolding clyde_bytes_inverse
clyde-block-back k t s = rows_are (clyde_inverse (rows_of k) (rows_of t) (rows_of s))

pub either_order_turns : (k t s : List ℕ) → Buffer 16 k → Buffer 16 t → Buffer 16 s
    → (turns (clyde_turn_back k t) 12 (turns (clyde_turn k t) 12 s) ≡ s) × (turns (clyde_turn k t) 12 (turns (clyde_turn_back k t) 12 s) ≡ s)
either_order_turns k t s hk ht hs =
    let both = either_order_bytes k t s hk ht hs in (
      ap (turns (clyde_turn_back k t) 12) (clyde-turns k t s hk ht hs)
          ∙ clyde-turns-back k t (clyde_bytes k t s) hk ht (clyde-block k t s) ∙ both.0,
      ap (turns (clyde_turn k t) 12) (clyde-turns-back k t s hk ht hs)
          ∙ clyde-turns k t (clyde_bytes_inverse k t s) hk ht (clyde-block-back k t s) ∙ both.1,
    )
