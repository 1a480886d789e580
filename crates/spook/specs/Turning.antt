-- The rounds of a call, as the code runs them, and the decision: a seed and a closing call are Clyde's on the first 16 bytes, all others
-- Shadow's on 64. A reader may skip these: `turned` and `decided` show that they are the parts' and the course's.
-- Assumes nothing.
use Rattle.std.specs.Prelude.{◌≡◌, refl, Bool, ℕ, ◌+◌, ◌%◌, ◌≤◌, ◌<◌, eqb, take}
use Rattle.std.proofs.Common.{sym, ◌∙◌, mod-lt, arith, lit<}
use Rattle.std.proofs.Math.Path.{ap}
use Rattle.std.proofs.Math.Bool.{true, false}
use mathlib.Core.List.{List}
use Rattle.std.proofs.Math.ListN.{length, replicate}
use Rattle.bits.specs.Pick.{pick}
use Rattle.bits.specs.Every.{upto_at}
use Rattle.bits.specs.Run.{turns, rounds, run, front}
use Rattle.bits.specs.Strings.{same}
use Rattle.stopping.specs.Parts.{Part}
use Rattle.stopping.specs.Places.{part_at, shape_at}
use Rattle.scheme.specs.Machine.{Machine, machine, given, on_state}
use Rattle.scheme.specs.Scheme.{all_shapes}
use Rattle.scheme.specs.Calls.{Rest, Turns, Decides, shape_in}
use Rattle.s1p.specs.Cipher.{Cipher}
use Rattle.s1p.specs.Paper.{closing_tweak}
use Rattle.s1p.specs.Parts.{seed, begin, assocs, texts, tagging, verifying, sealing_course, opening_course, course}
use Rattle.s1p.specs.Counts.{front_shapes, back_shapes, second_shapes}
use Rattle.s1p.specs.Scheme.{s1p_scheme}
use Rattle.s1p.proofs.Calls.{turns_on}
use Rattle.spook.specs.Kinds.{part_of, part_is, part_count}

-- ---- a call's rounds

unfoldable pub closed : Cipher → (sealing : Bool) → (key : List ℕ) → (from count : ℕ) → (state session : List ℕ) → List ℕ
closed p sealing key from count s ss =
    pick sealing (run 16 (p.forward key (closing_tweak ss)) from count s) (run 16 (p.backward key (closing_tweak ss)) from count s)

unfoldable pub turned_bytes : Cipher → (sealing : Bool) → (key : List ℕ) → (kind from count : ℕ) → (state session : List ℕ) → List ℕ
turned_bytes p sealing key kind from count s ss =
    pick (eqb kind 0) (run 16 (p.forward key (replicate 16 0)) from count s)
    (pick (eqb kind 4) (closed p sealing key from count s ss) (run 64 p.round from count s))

module _ (p : Cipher) (key nonce assoc text : List ℕ) (writes : Bool) (calls from count : ℕ) (s ss o g : List ℕ) where
  abbrev Turned : (b : Bool) → ℕ → Type 0
  Turned b kind =
      turns (λ (i : ℕ). (part_of p (given b key nonce assoc text) writes calls kind).turn (from + i)) count (machine s ss o g)
      ≡ machine (turned_bytes p b key kind from count s ss) ss o g

  -- Shadow's rounds
  shadowed : turns (λ (i : ℕ) (m : Machine). on_state (front 64 (p.round (from + i))) m) count (machine s ss o g)
      ≡ machine (run 64 p.round from count s) ss o g
  unfolding run rounds
  shadowed = turns_on (λ (z : List ℕ) (i : ℕ). front 64 (p.round (from + i))) count (machine s ss o g)

  -- Clyde's, either way
  clyded : (f : (key tweak : List ℕ) → ℕ → List ℕ → List ℕ) (t : List ℕ → List ℕ)
      → turns (λ (i : ℕ) (m : Machine). on_state (front 16 (f key (t m.session) (from + i))) m) count (machine s ss o g)
      ≡ machine (run 16 (f key (t ss)) from count s) ss o g
  unfolding run rounds
  clyded f t = turns_on (λ (z : List ℕ) (i : ℕ). front 16 (f key (t z) (from + i))) count (machine s ss o g)

  turn_of : (b : Bool) (kind : ℕ) → kind < 5 → Turned b kind
  unfolding part_of part_at seed begin assocs texts tagging verifying turned_bytes closed
  turn_of true kind h =
      upto_at (Turned true) 5 (((((tt, clyded p.forward (λ z. replicate 16 0)), shadowed), shadowed), shadowed), clyded p.forward closing_tweak) kind h
  turn_of false kind h =
      upto_at (Turned false) 5 (((((tt, clyded p.forward (λ z. replicate 16 0)), shadowed), shadowed), shadowed), clyded p.backward closing_tweak) kind h

module _ (p : Cipher) (sealing : Bool) (part from count : ℕ) (rest : Rest (s1p_scheme p) sealing part from count) where
  -- every call has twelve
  abbrev Twelve : Bool → ℕ → Type 0
  Twelve b j = (shape_in (s1p_scheme p) b rest.a rest.m j).rounds ≡ 12

  twelve : (b : Bool) (j : ℕ) → j < length (all_shapes (s1p_scheme p) b rest.a rest.m) → Twelve b j
  unfolding s1p_scheme all_shapes front_shapes back_shapes second_shapes shape_at
  twelve true j h = upto_at (Twelve true) 5 (((((tt, refl), refl), refl), refl), refl) j h
  twelve false j h = upto_at (Twelve false) 9 (((((((((tt, refl), refl), refl), refl), refl), refl), refl), refl), refl) j h

  pub within : from + count ≤ 12
  within = omega (arith, rest.fits, twelve sealing part rest.is_part)

  -- a state found so is the one that the rounds give
  pub turned : (key state session state' : List ℕ) → state' ≡ turned_bytes p sealing key (part % 5) from count state session
      → Turns (s1p_scheme p) sealing key part from count state session state'
  unfolding Turns
  turned key s ss s' e nonce assoc text o g =
      let h : part < length (all_shapes (s1p_scheme p) sealing (length assoc) (length text)) =
      omega (arith, rest.is_part, part_count p sealing rest.a rest.m, part_count p sealing (length assoc) (length text)) in
      ap (λ (q : Part Machine). turns (λ (i : ℕ). q.turn (from + i)) count (machine s ss o g)) (part_is p sealing key nonce assoc text part h)
      ∙ turn_of p key nonce assoc text _ _ from count s ss o g sealing (part % 5) (mod-lt part (lit< tt))
      ∙ ap (λ (u : List ℕ). machine u ss o g) (sym e)

-- ---- the decision

pub decided : (p : Cipher) (sealing : Bool) (state session tag : List ℕ) (r : Bool)
    → r ≡ pick sealing true (same (take 16 state) (take 16 session)) → Decides (s1p_scheme p) sealing state session tag r
unfolding Decides s1p_scheme course sealing_course opening_course
decided p true s ss g r e key nonce assoc text o = e
decided p false s ss g r e key nonce assoc text o = e
