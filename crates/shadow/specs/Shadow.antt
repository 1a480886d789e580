-- Shadow-512 (document 004, sections 3.3 and 3.4): Algorithm 2 with six steps, on four bundles of four rows; x[b, i, j] is digit j of row i
-- of bundle b. The S-box, the L-box and the constants are Clyde-128's.
-- Assumes nothing.
use Rattle.std.specs.Prelude.{◌≡◌, refl, Bool, true, false, ◌&&◌, List, [], ◌∷◌, ℕ, ◌+◌, ◌*◌, ◌%◌, ◌^◌, get_or, eqb}
use Rattle.bits.specs.Digit.{bit}
use Rattle.bits.specs.Number.{number}
use Rattle.bits.specs.Pick.{pick}
use Rattle.bits.specs.Run.{turns}
use Rattle.circulant.specs.Parity.{parity}
use Rattle.clyde.specs.declared.Rows.{Rows}
use Rattle.clyde.specs.Components.{rows, s_layer, lbox, on_pairs, add, W}
use Rattle.shadow.specs.declared.Bundles.{Bundles}

-- ---- S-box layer and L-box layer, on each bundle (in Algorithm 2 the line of the L-box leaves out the bundle's index)

unfoldable pub each : (Rows → Rows) → Bundles → Bundles
each f x = record { b0 = f x.b0; b1 = f x.b1; b2 = f x.b2; b3 = f x.b3 }

unfoldable pub sl_layer : Rows → Rows
sl_layer s = on_pairs lbox (s_layer s)

-- ---- diffusion layer

-- D, line by line
unfoldable pub matrix : List (List Bool)
matrix =
    (false ∷ true ∷ true ∷ true ∷ [])
    ∷ (true ∷ false ∷ true ∷ true ∷ [])
    ∷ (true ∷ true ∷ false ∷ true ∷ [])
    ∷ (true ∷ true ∷ true ∷ false ∷ []) ∷ []

-- bit b of D · (x0, x1, x2, x3)
unfoldable pub d_bit : ℕ → List Bool → Bool
d_bit b x = parity 4 (λ c. get_or (get_or matrix b []) c false && get_or x c false)

-- D on x[⋆, i, j] for each j: of row i of each bundle, row i of bundle b
unfoldable pub d_row : ℕ → ℕ → ℕ → ℕ → ℕ → ℕ
d_row b x0 x1 x2 x3 = number 32 (λ j. d_bit b (bit x0 j ∷ bit x1 j ∷ bit x2 j ∷ bit x3 j ∷ []))

-- row i of all four bundles
unfoldable pub d_rows : ℕ → ℕ → ℕ → ℕ → Rows
d_rows x0 x1 x2 x3 = rows (d_row 0 x0 x1 x2 x3) (d_row 1 x0 x1 x2 x3) (d_row 2 x0 x1 x2 x3) (d_row 3 x0 x1 x2 x3)

-- all four rows of bundle b
unfoldable pub d_bundle : ℕ → Bundles → Rows
d_bundle b x =
    rows (d_row b x.b0.x0 x.b1.x0 x.b2.x0 x.b3.x0) (d_row b x.b0.x1 x.b1.x1 x.b2.x1 x.b3.x1)
    (d_row b x.b0.x2 x.b1.x2 x.b2.x2 x.b3.x2) (d_row b x.b0.x3 x.b1.x3 x.b2.x3 x.b3.x3)

unfoldable pub d_layer : Bundles → Bundles
d_layer x = record { b0 = d_bundle 0 x; b1 = d_bundle 1 x; b2 = d_bundle 2 x; b3 = d_bundle 3 x }

-- ---- constant addition: W(r) on x[b, ⋆, b], digit b of bundle b's rows

unfoldable pub shifted : ℕ → Rows → Rows
shifted b w = rows (w.x0 * 2 ^ b) (w.x1 * 2 ^ b) (w.x2 * 2 ^ b) (w.x3 * 2 ^ b)

unfoldable pub with_constant : Rows → Bundles → Bundles
with_constant w x =
    record { b0 = add (shifted 0 w) x.b0; b1 = add (shifted 1 w) x.b1; b2 = add (shifted 2 w) x.b2; b3 = add (shifted 3 w) x.b3 }

-- ---- Algorithm 2: step σ = n is round A, then round B

unfoldable pub round_a : ℕ → Bundles → Bundles
round_a n x = with_constant (W (2 * n)) (each sl_layer x)

unfoldable pub round_b : ℕ → Bundles → Bundles
round_b n x = with_constant (W (2 * n + 1)) (d_layer (each s_layer x))

unfoldable pub step : ℕ → Bundles → Bundles
step n x = round_b n (round_a n x)

unfoldable pub shadow : Bundles → Bundles
shadow x = turns step 6 x

-- ---- the same as twelve rounds: an even one is a round A, an odd one a round B

unfoldable pub layers : ℕ → Bundles → Bundles
layers r x = pick (eqb (r % 2) 0) (each sl_layer x) (d_layer (each s_layer x))

unfoldable pub round : ℕ → Bundles → Bundles
round r x = with_constant (W r) (layers r x)

pub shadow-rounds : (x : Bundles) → turns round 12 x ≡ shadow x
unfolding turns round_a round_b step shadow layers round
shadow-rounds x = refl
