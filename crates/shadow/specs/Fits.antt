-- What a round of Shadow-512 gives has 32 digits a row, whatever it is given.
-- Assumes nothing.
use Rattle.std.specs.Prelude.{Bool, true, false, [], ◌∷◌, ℕ, ◌+◌, ◌*◌, ◌%◌, ◌^◌, ◌<◌, eqb}
use Rattle.std.proofs.Common.{lt_of_lt_of_le, arith, lit<, pow_mono, shl_lt}
use Rattle.bits.specs.Digit.{bit}
use Rattle.bits.specs.Number.{number_lt}
use Rattle.bits.specs.Pick.{pick}
use Rattle.clyde.specs.Components.{s_layer, lbox, W}
use Rattle.clyde.specs.Constants.{W_bits}
use Rattle.clyde.proofs.Lbox.{lbox-fit}
use Rattle.clyde.specs.Sbox.{Fit}
use Rattle.clyde.proofs.Undone.{add_fit, on_pairs-fit}
use Rattle.shadow.specs.declared.Bundles.{Bundles}
use Rattle.shadow.specs.Shadow.{each, sl_layer, d_bit, d_row, d_bundle, d_layer, shifted, with_constant, layers, round}

-- every row has 32 digits
pub record Fits (x : Bundles) : Type 0 where
  pub f0 : Fit x.b0
  pub f1 : Fit x.b1
  pub f2 : Fit x.b2
  pub f3 : Fit x.b3

sl_layers_fits : (x : Bundles) → Fits (each sl_layer x)
unfolding each sl_layer
sl_layers_fits x =
    record {
      f0 = on_pairs-fit lbox lbox-fit (s_layer x.b0);
      f1 = on_pairs-fit lbox lbox-fit (s_layer x.b1);
      f2 = on_pairs-fit lbox lbox-fit (s_layer x.b2);
      f3 = on_pairs-fit lbox lbox-fit (s_layer x.b3);
    }

d_row_lt : (b x0 x1 x2 x3 : ℕ) → d_row b x0 x1 x2 x3 < 2 ^ 32
unfolding d_row
d_row_lt b x0 x1 x2 x3 = number_lt 32 (λ j. d_bit b (bit x0 j ∷ bit x1 j ∷ bit x2 j ∷ bit x3 j ∷ []))

d_bundle-fit : (b : ℕ) (x : Bundles) → Fit (d_bundle b x)
unfolding d_bundle
d_bundle-fit b x = record { f0 = d_row_lt b _ _ _ _; f1 = d_row_lt b _ _ _ _; f2 = d_row_lt b _ _ _ _; f3 = d_row_lt b _ _ _ _ }

d_layer-fits : (x : Bundles) → Fits (d_layer x)
unfolding d_layer
d_layer-fits x = record { f0 = d_bundle-fit 0 x; f1 = d_bundle-fit 1 x; f2 = d_bundle-fit 2 x; f3 = d_bundle-fit 3 x }

layers-fits : (r : ℕ) (x : Bundles) → Fits (layers r x)
unfolding layers
layers-fits r x = by (eqb (r % 2) 0)
  where
    by : (b : Bool) → Fits (pick b (each sl_layer x) (d_layer (each s_layer x)))
    by true = sl_layers_fits x
    by false = d_layer-fits (each s_layer x)

shifted-fit : (r b : ℕ) → b < 4 → Fit (shifted b (W r))
unfolding shifted
shifted-fit r b l = let h = W_bits r in record { f0 = low h.b0; f1 = low h.b1; f2 = low h.b2; f3 = low h.b3 }
  where
    low : {w : ℕ} → w < 2 → w * 2 ^ b < 2 ^ 32
    low h = lt_of_lt_of_le (shl_lt 1 b h) (pow_mono {i = 1 + b} {j = 32} (omega arith))

pub round-fits : (r : ℕ) (x : Bundles) → Fits (round r x)
unfolding round with_constant
round-fits r x =
    let h = layers-fits r x in
    record {
      f0 = add_fit (shifted-fit r 0 (lit< tt)) h.f0;
      f1 = add_fit (shifted-fit r 1 (lit< tt)) h.f1;
      f2 = add_fit (shifted-fit r 2 (lit< tt)) h.f2;
      f3 = add_fit (shifted-fit r 3 (lit< tt)) h.f3;
    }
