-- ISAP's parts by their kinds: 0 to 3 are encryption's, 4 to 10 the MAC's; an opening's order starts with the MAC.
-- Assumes nothing.
use Rattle.std.specs.Prelude.{◌≡◌, Bool, [], ◌∷◌, ◌++◌, ℕ, ◌+◌, ◌/◌, ◌%◌, ◌≤◌, ◌<◌, eqb, ltb, leb, length}
use Rattle.std.proofs.Math.Path.{refl}
use Rattle.std.proofs.Common.{sym, ap, ◌∙◌, subst, leb-true}
use Rattle.std.proofs.Math.Bool.{true, false}
use Rattle.bits.specs.Pick.{pick}
use Rattle.bits.specs.Every.{upto_at, passes, passes_at}
use Rattle.stopping.specs.Parts.{Shape}
use Rattle.stopping.specs.Places.{shape_at}
use Rattle.scheme.specs.Scheme as schemes
use Rattle.scheme.specs.Scheme.{parts_of}
use Rattle.mode.specs.Params.{Params}
use Rattle.mode.specs.Paper.{blocks}
use Rattle.mode.specs.InstanceLaws.{by_instance}
use Rattle.mode.specs.Instances.{isap_a128a, isap_a128, isap_k128a, isap_k128, params_of}
use Rattle.mode.specs.Counts.{enc_shapes, mac_shapes, front_shapes, back_shapes, all_shapes}
use Rattle.mode.specs.Isap.{isap_scheme}

unfoldable pub kind_of : Bool → ℕ → ℕ
kind_of sealing part = pick sealing part ((part + 4) % 11)

unfoldable pub shape_of : Params → (a m kind : ℕ) → Shape
shape_of p a m kind = shape_at (enc_shapes p a m ++ mac_shapes p a m) kind

-- the calls of each kind, as the code finds them (`Kinds` shows them to be the shapes'; a reader may skip these)
unfoldable pub encryption_calls : Params → (m kind : ℕ) → ℕ
encryption_calls p m kind = pick (eqb kind 1) 127 (pick (eqb kind 3) (blocks p m) 1)

unfoldable pub mac_calls : Params → (a m kind : ℕ) → ℕ
mac_calls p a m kind = pick (eqb kind 5) (a / p.b + 1) (pick (eqb kind 6) (m / p.b + 1) (pick (eqb kind 8) 127 1))

module _ (p : Params) (a m : ℕ) where
  -- the calls of each kind
  abbrev Called : ℕ → Type 0
  Called k = (shape_of p a m k).count ≡ pick (ltb k 4) (encryption_calls p m k) (mac_calls p a m k)

  pub calls_of_lem : (k : ℕ) → k < 11 → Called k
  unfolding shape_of shape_at enc_shapes mac_shapes encryption_calls mac_calls
  calls_of_lem k h = upto_at Called 11 (((((((((((tt, refl), refl), refl), refl), refl), refl), refl), refl), refl), refl), refl) k h

  -- the rounds of each kind
  abbrev Turned : ℕ → Type 0
  Turned k =
      (shape_of p a m k).rounds
      ≡ pick (eqb k 1) p.s_b (pick (eqb k 8) p.s_b (pick (eqb k 3) p.s_e
      (pick (eqb k 0) p.s_k (pick (eqb k 2) p.s_k (pick (eqb k 7) p.s_k (pick (eqb k 9) p.s_k p.s_h))))))

  pub rounds_of_lem : (k : ℕ) → k < 11 → Turned k
  unfolding shape_of shape_at enc_shapes mac_shapes
  rounds_of_lem k h = upto_at Turned 11 (((((((((((tt, refl), refl), refl), refl), refl), refl), refl), refl), refl), refl), refl) k h

  -- both directions have eleven parts, and each part is of its kind
  abbrev Ordered : Bool → ℕ → Type 0
  Ordered s j = shape_at (all_shapes p s a m) j ≡ shape_of p a m (kind_of s j)

  pub parts_of_lem : (s : Bool) (j : ℕ) → j < 11 → Ordered s j
  unfolding shape_of shape_at enc_shapes mac_shapes all_shapes front_shapes back_shapes kind_of
  parts_of_lem true j h = upto_at (Ordered true) 11 (((((((((((tt, refl), refl), refl), refl), refl), refl), refl), refl), refl), refl), refl) j h
  parts_of_lem false j h = upto_at (Ordered false) 11 (((((((((((tt, refl), refl), refl), refl), refl), refl), refl), refl), refl), refl), refl) j h

  pub eleven : (s : Bool) → length (all_shapes p s a m) ≡ 11
  unfolding enc_shapes mac_shapes all_shapes front_shapes back_shapes
  eleven true = refl
  eleven false = refl

-- ---- as the scheme has them

pub eleven_parts : (i : ℕ) (s : Bool) → 11 ≡ parts_of (isap_scheme (params_of i)) s
unfolding parts_of isap_scheme schemes.all_shapes all_shapes
eleven_parts i s = sym (eleven (params_of i) 0 0 s)

pub shape_of_part : (i : ℕ) (s : Bool) (a m part kind : ℕ) → part < 11 → kind ≡ kind_of s part
    → shape_of (params_of i) a m kind ≡ shape_at (schemes.all_shapes (isap_scheme (params_of i)) s a m) part
unfolding isap_scheme schemes.all_shapes all_shapes
shape_of_part i s a m part kind h k =
    ap (shape_of (params_of i) a m) k ∙ sym (parts_of_lem (params_of i) a m s part h)

fits_most : (i : ℕ) → passes (leb (params_of i).s_h (params_of i).most ∷ leb (params_of i).s_b (params_of i).most ∷ leb (params_of i).s_e (params_of i).most ∷ leb (params_of i).s_k (params_of i).most ∷ []) ≡ true
unfolding isap_a128a isap_a128 isap_k128a isap_k128 passes
fits_most = by_instance (λ p. passes (leb p.s_h p.most ∷ leb p.s_b p.most ∷ leb p.s_e p.most ∷ leb p.s_k p.most ∷ []) ≡ true) refl refl refl refl

pick_most : (b : Bool) (x y z : ℕ) → x ≤ z → y ≤ z → pick b x y ≤ z
pick_most true x y z h k = h
pick_most false x y z h k = k

-- no call has more rounds than the permutation
pub rounds_most : (i a m k : ℕ) → k < 11 → (shape_of (params_of i) a m k).rounds ≤ (params_of i).most
rounds_most i a m k h =
    let p = params_of i in
    let t = passes_at _ (fits_most i) in
    let sh = leb-true p.s_h p.most (t 0) in
    let sb = leb-true p.s_b p.most (t 1) in
    let se = leb-true p.s_e p.most (t 2) in
    let sk = leb-true p.s_k p.most (t 3) in
    subst (λ (n : ℕ). n ≤ p.most) (sym (rounds_of_lem p a m k h))
    (pick_most (eqb k 1) _ _ _ sb (pick_most (eqb k 8) _ _ _ sb (pick_most (eqb k 3) _ _ _ se
    (pick_most (eqb k 0) _ _ _ sk (pick_most (eqb k 2) _ _ _ sk (pick_most (eqb k 7) _ _ _ sk (pick_most (eqb k 9) _ _ _ sk sh)))))))
