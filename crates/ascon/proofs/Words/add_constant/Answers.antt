-- `ascon::Words::add_constant` meets its contract: the rule of the table, tested at its twelve entries.
-- Assumes nothing.
use Rattle.std.proofs.Common.{Bool, bit_xor, eqb, eqb-true, get_or, refl, true, ℕ, ◌*◌, ◌-◌, ◌≡◌}
use Rattle.bits.specs.Every.{every, every_at}
use Rattle.ascon.specs.Permutation.{constants, p_c}
use Rattle.ascon.proofs.Words.add_constant.Goals as goal

falls : ℕ → Bool
falls i = eqb (240 - 15 * i) (get_or constants i 0)

all_fall : every 12 falls ≡ true
unfolding falls every constants
all_fall = refl

pub returns : goal.returns
unfolding falls p_c
returns c =
    let w = c.args.self in
    let e = eqb-true (240 - 15 * c.args.i) (get_or constants c.args.i 0) (every_at 12 falls all_fall c.args.i c.requires) in
    λ i. record { x0 = w.x0; x1 = w.x1; x2 = bit_xor w.x2 (e i); x3 = w.x3; x4 = w.x4 }
