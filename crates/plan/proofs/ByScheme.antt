-- An instance's shapes by its scheme: Spook's are those of its walks, ISAP's those of its kinds.
-- Assumes nothing.
use mathlib.Core.Path.{◌≡◌, refl, sym, ap, ◌∙◌}
use mathlib.Core.Bool.{Bool, true, false}
use Prim.Native.Nat.{ℕ, ◌≤◌, ◌<◌}
use native.Mathlib.Omega.{arith}
use Rattle.stopping.specs.Parts.{Shape}
use Rattle.stopping.specs.Places.{shape_at}
use Rattle.scheme.specs.Scheme.{Scheme, all_shapes, parts_of}
use Rattle.mode.specs.Instances.{params_of}
use Rattle.mode.specs.Counts.{front_count, back_count}
use Rattle.mode.specs.Isap.{isap_scheme}
use Rattle.s1p.specs.Counts as s1p
use Rattle.s1p.specs.Scheme.{s1p_scheme}
use Rattle.s1p.specs.Spook.{spook}
use Rattle.instances.specs.Schemes.{is_spook, scheme_of, scheme-spook, scheme_isap, by_scheme}
use Rattle.plan.specs.Kinds.{kind_of, shape_of, eleven_parts, shape_of_part}
use Rattle.plan.specs.Walks.{calls_of, walk_parts, walk-parts_most, parts_are, shape_of_lem}

module _ (i : ℕ) (s : Bool) where
  pub spook-parts : is_spook i ≡ true → walk_parts s ≡ parts_of (scheme_of i) s
  spook-parts e = parts_are spook s ∙ ap (λ (q : Scheme). parts_of q s) (sym (scheme-spook i e))

  pub isap_parts : is_spook i ≡ false → 11 ≡ parts_of (scheme_of i) s
  isap_parts e = eleven_parts i s ∙ ap (λ (q : Scheme). parts_of q s) (sym (scheme_isap i e))

  module _ (a m part : ℕ) where
    abbrev shape : Scheme → Shape
    shape q = shape_at (all_shapes q s a m) part

    pub spook-shape : is_spook i ≡ true → part < walk_parts s → record { count = calls_of a m part; rounds = 12 } ≡ shape (scheme_of i)
    spook-shape e h = sym (shape_of_lem spook s a m part h) ∙ ap shape (sym (scheme-spook i e))

    pub isap_shape : is_spook i ≡ false → part < 11 → (kind : ℕ) → kind ≡ kind_of s part → shape_of (params_of i) a m kind ≡ shape (scheme_of i)
    isap_shape e h kind k = shape_of_part i s a m part kind h k ∙ ap shape (sym (scheme_isap i e))

pub parts_most : (i : ℕ) (s : Bool) → parts_of (scheme_of i) s ≤ 255
parts_most i s =
    by_scheme (λ q. parts_of q s ≤ 255) (omega (arith, parts_are spook s, walk-parts_most s)) (λ j. omega (arith, eleven_parts j s)) i

-- ---- the rounds up to the decision, and after it

module _ (i : ℕ) (s : Bool) (a m : ℕ) where
  pub spook-front : is_spook i ≡ true → s1p.verify_rounds a m ≡ (scheme_of i).front_count s a m
  unfolding s1p_scheme
  spook-front e = ap (λ (q : Scheme). q.front_count s a m) (sym (scheme-spook i e))

  pub spook-back : is_spook i ≡ true → s1p.back_count s a m ≡ (scheme_of i).back_count s a m
  unfolding s1p_scheme
  spook-back e = ap (λ (q : Scheme). q.back_count s a m) (sym (scheme-spook i e))

  pub isap_front : is_spook i ≡ false → front_count (params_of i) s a m ≡ (scheme_of i).front_count s a m
  unfolding isap_scheme
  isap_front e = ap (λ (q : Scheme). q.front_count s a m) (sym (scheme_isap i e))

  pub isap_back : is_spook i ≡ false → back_count (params_of i) s m ≡ (scheme_of i).back_count s a m
  unfolding isap_scheme
  isap_back e = ap (λ (q : Scheme). q.back_count s a m) (sym (scheme_isap i e))

-- a sealing has nothing after its decision
pub sealing_back : (i a m : ℕ) → ◌≡◌ {A = ℕ} 0 ((scheme_of i).back_count true a m)
unfolding s1p_scheme isap_scheme s1p.back_count back_count
sealing_back i a m = by_scheme (λ q. ◌≡◌ {A = ℕ} 0 (q.back_count true a m)) refl (λ j. refl) i
