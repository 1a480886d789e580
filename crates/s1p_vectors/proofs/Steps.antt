-- A job of Spook beside its lines: the test of `Table`, computed with the L-box by its formula, and what it shows of Spook.
-- Assumes nothing.
use mathlib.Core.Path.{◌≡◌, sym, ap, ◌∙◌}
use mathlib.Core.Bool.{Bool, true}
use mathlib.Core.List.{List, ◌∷◌}
use Prim.Native.Nat.{ℕ, suc, ◌<◌}
use lib.ListN.{length, get_or}
use Rattle.bits.specs.Digit.{odd, bit}
use Rattle.bits.specs.Number.{number}
use Rattle.bits.specs.Rotate.{rotr}
use Rattle.bits.specs.BigEndian.{be_bytes}
use Rattle.bits.specs.LittleEndian.{le_bytes, from_le}
use Rattle.bits.specs.Run.{front}
use Rattle.bits.specs.Put.{put, put_at}
use Rattle.bits.specs.Xors.{xors}
use Rattle.bits.specs.Strings.{xor_into, xor_at, block, same}
use Rattle.circulant.specs.Parity.{parity}
use Rattle.clyde.specs.Components.{sbox_table, sbox, column, substituted, s_layer, s_inverse, lbox_inverse, on_pairs, add, register_step, W}
use Rattle.clyde.specs.Lbox.{lbox_formula}
use Rattle.clyde.specs.Clyde.{rows_of, bytes_of, delta, TK, round_inverse, first, second, clyde_round_inverse}
use Rattle.clyde.specs.OnBytes.{clyde_turn_back}
use Rattle.shadow.specs.Shadow.{each, matrix, d_bit, d_row, d_bundle, d_layer, shifted, with_constant}
use Rattle.shadow.specs.OnBytes.{bundles_of, bundle_bytes}
use Rattle.stopping.specs.Stopped.{entered, left, one}
use Rattle.stopping.specs.Parts.{rounds_in, call_of, shapes}
use Rattle.stopping.specs.Places.{place_of, part_at, call_at}
use Rattle.stopping.specs.Course.{Core, ending_of, front_rounds, back_rounds, stands_at, step, steps}
use Rattle.scheme.specs.Machine.{Machine, Input, cipher_of}
use Rattle.s1p.specs.Cipher.{Cipher}
use Rattle.s1p.specs.Paper.{blocks, iv, text_mark, short_mark, padded, last_data, last_text, closing_tweak}
use Rattle.s1p.specs.Parts.{unless_empty, written, due, next, seeded, seed, begin, assocs, texts, set_aside, tagged, tagging, verifying, sealing_course, opening_course, course}
use Rattle.s1p.specs.Spook.{spook}
use Rattle.s1p_vectors.specs.Table.{same_core, follows, steps_follow}
use Rattle.s1p_vectors.proofs.Formula.{mixed, clyde_mixed, shadow_mixed, by_formula, by_formula_is}

-- each line is one step from the line before it, the first from a; whoever unfolds this unfolds all that a step is made of
unfoldable pub goes : Input → Core Machine → List (Core Machine) → Bool
unfolding odd bit number rotr be_bytes le_bytes from_le front put put_at xors xor_into xor_at block same parity sbox_table sbox column substituted s_layer s_inverse lbox_formula lbox_inverse on_pairs add register_step W rows_of bytes_of delta TK round_inverse first second clyde_round_inverse clyde_turn_back each matrix d_bit d_row d_bundle d_layer shifted with_constant bundles_of bundle_bytes mixed clyde_mixed shadow_mixed by_formula entered left one rounds_in call_of shapes place_of part_at call_at ending_of front_rounds back_rounds stands_at step cipher_of blocks iv text_mark short_mark padded last_data last_text closing_tweak unless_empty written due next seeded seed begin assocs texts set_aside tagged tagging verifying sealing_course opening_course course same_core follows
goes x a l = follows (course by_formula x) a l

module _ (x : Input) (a : Core Machine) (l : List (Core Machine)) where
  goes_is : goes x a l ≡ follows (course spook x) a l
  unfolding goes
  goes_is = ap (λ (p : Cipher). follows (course p x) a l) by_formula_is

  pub goes-steps : goes x a l ≡ true → (n : ℕ) → n < suc (length l) → steps (course spook x) n a ≡ get_or (a ∷ l) n a
  goes-steps e = steps_follow (course spook x) a a l (sym goes_is ∙ e)
