-- A constant's bits, shifted by less than four places, lose nothing.
-- Assumes nothing.
use Rattle.std.specs.Prelude.{◌≡◌, ℕ, ◌*◌, ◌%◌, ◌^◌, ◌<◌}
use Rattle.std.proofs.Common.{arith, shl_exact}
use Rattle.clyde.specs.declared.Rows.{Rows}
use Rattle.clyde.specs.Components.{W}
use Rattle.clyde.specs.Constants.{W_bits}
use Rattle.shadow.specs.Shadow.{shifted}

-- as a program shifts
abbrev pub cut : ℕ → Rows → Rows
cut b w =
    record { x0 = w.x0 * 2 ^ b % 2 ^ 32; x1 = w.x1 * 2 ^ b % 2 ^ 32; x2 = w.x2 * 2 ^ b % 2 ^ 32; x3 = w.x3 * 2 ^ b % 2 ^ 32 }

pub cut-shifted : (r b : ℕ) → b < 4 → cut b (W r) ≡ shifted b (W r)
unfolding shifted
cut-shifted r b l =
    let h = W_bits r in
    let e0 = shl_exact 1 b 32 h.b0 (omega arith) in
    let e1 = shl_exact 1 b 32 h.b1 (omega arith) in
    let e2 = shl_exact 1 b 32 h.b2 (omega arith) in
    let e3 = shl_exact 1 b 32 h.b3 (omega arith) in
    λ i. record { x0 = e0 i; x1 = e1 i; x2 = e2 i; x3 = e3 i }
