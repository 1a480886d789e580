-- The L-box and its inverse undo one another in either order: the formula of one, on what the formula of the other gives, has the first lines
-- of the identity (`Lbox`).
-- Assumes nothing.
use Rattle.std.proofs.Common.{◌≡◌, sym, ap, ◌∙◌}
use Rattle.clyde.specs.declared.Pair.{Pair}
use Rattle.clyde.specs.Components.{lbox, lbox_inverse}
use Rattle.clyde.specs.Lbox.{Fit2}
use Rattle.clyde.proofs.Lbox.{lbox_formula_lem, lbox_inverse-fit, inverse_of_formula, formula_of_inverse}

pub lbox_undone : (p : Pair) → Fit2 p → lbox_inverse (lbox p) ≡ p
lbox_undone p h = ap lbox_inverse (sym (lbox_formula_lem p h)) ∙ inverse_of_formula p h

pub lbox_undoes : (p : Pair) → Fit2 p → lbox (lbox_inverse p) ≡ p
lbox_undoes p h = sym (lbox_formula_lem (lbox_inverse p) (lbox_inverse-fit p)) ∙ formula_of_inverse p h
