-- The parts by their kinds, seen from the code: their shapes, their rounds, and what the last round of a call leaves.
-- Assumes nothing.
use Rattle.std.specs.Prelude.{◌≡◌, refl, ℕ, ◌+◌, ◌-◌, ◌*◌, ◌<◌, eqb, length, take}
use Rattle.std.proofs.Math.Path.{ap}
use Rattle.std.proofs.Common.{◌∙◌}
use mathlib.Core.List.{List, ◌++◌}
use Rattle.bits.specs.Pick.{pick}
use Rattle.bits.specs.Every.{upto_at}
use Rattle.bits.specs.Put.{put_at}
use Rattle.bits.specs.Run.{front}
use Rattle.bits.specs.Xors.{xors}
use Rattle.stopping.specs.Parts.{Shape}
use Rattle.stopping.specs.PlaceLaws.{shape-part}
use Rattle.stopping.specs.Places.{part_at, shape_at}
use Rattle.bits.specs.Strings.{block}
use Rattle.mode.specs.Params.{Params}
use Rattle.scheme.specs.Machine.{Input, on_state, machine}
use Rattle.mode.specs.Parts.{tag_of, part, key_start, key_bits, key_end, written, texts, mac_start, assocs, ciphers, mac_key_start, mac_key_bits, mac_key_end, tagged, mac_end, enc_parts, mac_parts}
use Rattle.mode.proofs.CountLaws.{shapes_sealing}
use Rattle.plan.specs.Kinds.{shape_of}
use Rattle.sponge.specs.Kinds.{part_of}

-- what the last round of a call leaves in the output, and as the tag
abbrev pub out_left : Params → Input → (kind call : ℕ) → (state out : List ℕ) → List ℕ
out_left p x kind call s o = pick (eqb kind 3) (put_at (call * p.b) (xors s (block p.b call x.text)) o) o

abbrev pub tag_left : Input → (kind : ℕ) → (state tag : List ℕ) → List ℕ
tag_left x kind s g = pick (eqb kind 10) (pick x.sealing (take 16 s) g) g

module _ (p : Params) (x : Input) where
  -- the calls and the rounds of a kind are the plan's
  pub shape_of_lem : (kind : ℕ) → (part_of p x kind).shape ≡ shape_of p (length x.assoc) (length x.text) kind
  unfolding part_of shape_of
  shape_of_lem kind = shape-part (enc_parts p x ++ mac_parts p x) kind ∙ ap (λ (hs : List Shape). shape_at hs kind) (shapes_sealing p x)

  -- round k of a call
  abbrev Turned : ℕ → ℕ → Type 0
  Turned k kind = (part_of p x kind).turn k ≡ on_state (front p.n (p.round (p.most - (part_of p x kind).shape.rounds + k)))

  pub turn_of : (kind k : ℕ) → kind < 11 → Turned k kind
  unfolding part_of part_at part key_start key_bits key_end texts mac_start assocs ciphers mac_key_start mac_key_bits mac_key_end mac_end
  turn_of kind k h = upto_at (Turned k) 11 (((((((((((tt, refl), refl), refl), refl), refl), refl), refl), refl), refl), refl), refl) kind h

  -- only a text block and the last call of the MAC leave anything
  abbrev Left : (call : ℕ) → (s ss o g : List ℕ) → ℕ → Type 0
  Left call s ss o g kind = (part_of p x kind).leave call (machine s ss o g) ≡ machine s ss (out_left p x kind call s o) (tag_left x kind s g)

  pub leave_of : (kind call : ℕ) (s ss o g : List ℕ) → kind < 11 → Left call s ss o g kind
  unfolding part_of part_at part key_start key_bits key_end written texts mac_start assocs ciphers mac_key_start mac_key_bits mac_key_end tagged tag_of mac_end
  leave_of kind call s ss o g h =
      upto_at (Left call s ss o g) 11 (((((((((((tt, refl), refl), refl), refl), refl), refl), refl), refl), refl), refl), refl) kind h
