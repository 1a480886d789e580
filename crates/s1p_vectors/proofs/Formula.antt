-- Spook with the L-box by document 004's formula, which computes in a third of the steps that the matrices take. It is the same Spook: the
-- L-box stands behind the S-box layer, whose rows have 32 digits, and on such rows clyde shows the formula (`lbox_formula_lem`).
-- Assumes nothing.
use mathlib.Core.Path.{◌≡◌}
use mathlib.Core.List.{List}
use Prim.Native.Nat.{ℕ, ◌+◌, ◌/◌, ◌%◌}
use lib.Dec.{eqb}
use Rattle.bits.specs.Pick.{pick}
use Rattle.clyde.specs.declared.Rows.{Rows}
use Rattle.clyde.specs.Components.{rows, s_layer, lbox, on_pairs, add, W}
use Rattle.clyde.proofs.Sbox.{s_layer-fit}
use Rattle.clyde.specs.Lbox.{lbox_formula}
use Rattle.clyde.proofs.Lbox.{lbox_formula_lem}
use Rattle.clyde.specs.Clyde.{TK, round, first, second, clyde_round, rows_of, bytes_of}
use Rattle.clyde.specs.OnBytes.{clyde_turn, clyde_turn_back}
use Rattle.shadow.specs.Shadow.{each, sl_layer, d_layer, with_constant, layers, round as shadowRound}
use Rattle.shadow.specs.OnBytes.{bundles_of, bundle_bytes, shadow_turn}
use Rattle.s1p.specs.Cipher.{Cipher}
use Rattle.s1p.specs.Spook.{spook}

-- S-box layer and L-box layer
unfoldable pub mixed : Rows → Rows
mixed s = on_pairs lbox_formula (s_layer s)

mixed_is : (s : Rows) → mixed s ≡ on_pairs lbox (s_layer s)
unfolding mixed on_pairs
mixed_is s =
    let t = s_layer s in
    let h = s_layer-fit s in
    let p = lbox_formula_lem (record { a = t.x0; b = t.x1 }) (record { fa = h.f0; fb = h.f1 }) in
    let q = lbox_formula_lem (record { a = t.x2; b = t.x3 }) (record { fa = h.f2; fb = h.f3 }) in
    λ a. rows (p a).a (p a).b (q a).a (q a).b

-- a round of Clyde-128
unfoldable pub clyde_mixed : (key tweak : List ℕ) → ℕ → List ℕ → List ℕ
clyde_mixed k t i s =
    bytes_of (second (TK (rows_of k) (rows_of t) ((i + 1) / 2)) i (add (W i) (mixed (first (TK (rows_of k) (rows_of t) 0) i (rows_of s)))))

clyde_is : (k t : List ℕ) (i : ℕ) (s : List ℕ) → clyde_mixed k t i s ≡ clyde_turn k t i s
unfolding clyde_mixed clyde_turn clyde_round round
clyde_is k t i s = λ a.
    bytes_of (second (TK (rows_of k) (rows_of t) ((i + 1) / 2)) i (add (W i) (mixed_is (first (TK (rows_of k) (rows_of t) 0) i (rows_of s)) a)))

-- a round of Shadow-512
unfoldable pub shadow_mixed : ℕ → List ℕ → List ℕ
shadow_mixed i s =
    bundle_bytes (with_constant (W i) (pick (eqb (i % 2) 0) (each mixed (bundles_of s)) (d_layer (each s_layer (bundles_of s)))))

shadow_is : (i : ℕ) (s : List ℕ) → shadow_mixed i s ≡ shadow_turn i s
unfolding shadow_mixed shadow_turn shadowRound layers each sl_layer
shadow_is i s = λ a.
    bundle_bytes (with_constant (W i) (pick (eqb (i % 2) 0) (each (λ x. mixed_is x a) (bundles_of s)) (d_layer (each s_layer (bundles_of s)))))

unfoldable pub by_formula : Cipher
by_formula = record { forward = clyde_mixed; backward = clyde_turn_back; round = shadow_mixed }

pub by_formula_is : by_formula ≡ spook
unfolding by_formula spook
by_formula_is = λ a. record { forward = λ k t i s. clyde_is k t i s a; backward = clyde_turn_back; round = λ i s. shadow_is i s a }
