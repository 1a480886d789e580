-- What holds of the host task between two turns, and that a turn keeps it.
-- Assumes nothing.
use Rattle.std.proofs.Common.{◌≡◌, refl, sym, ap, ◌∙◌, subst, List, ℕ, zero, suc, ◌+◌, ◌≤◌, ◌<◌, length, arith}
use Rattle.instances.specs.Schemes.{scheme_of}
use Rattle.isap.specs.declared.Job.{Job}
use Rattle.isap.specs.declared.Answer.{Answer}
use Rattle.station.specs.Statements.{KeepsSlice}
use Rattle.task.specs.declared.Turns.{Turns}
use Rattle.task.specs.Turns.{served_of, Going, first, turn, turns_of}
use Rattle.task.specs.TurnLaws.{fewer_left, another, over}

module _ (h : Job) (assoc text ys : List ℕ) (n m : ℕ) where
  -- the task after at most k turns more, and after all
  abbrev pub after : ℕ → Going → Going
  after k g = turns_of scheme_of assoc text n k g

  abbrev pub last : Going
  last = after m (first h ys m)

  -- where at most k turns come
  pub record Holds (k : ℕ) (g : Going) : Type 0 where
    pub left : g.turns.left ≤ k
    pub had : g.turns.served + k ≡ m
    pub leads : after k g ≡ last
    pub long : length g.out ≡ length ys

  pub begins : Holds m (first h ys m)
  begins = record { left = omega arith; had = omega arith; leads = refl; long = refl }

  -- the sampler's count fits
  pub fits_more : (k : ℕ) (g : Going) → m < 4294967296 → Holds k g → 0 < g.turns.left → g.turns.served + 1 < 4294967296
  fits_more k g fits f some = omega (arith, f.had, f.left, fits)

  -- a turn leads to where one less comes
  next : (k : ℕ) (g : Going) → Holds (suc k) g → 0 < g.turns.left → (r : Answer) (u : Turns) (j : Job) (zs : List ℕ)
      → KeepsSlice scheme_of g.job assoc text g.out n r j zs → u ≡ served_of g.turns r → length zs ≡ length g.out
      → Holds k (record { turns = u; job = j; out = zs })
  unfolding turn served_of
  next k g f going r u j zs e e' l =
      let same : record { turns = u; job = j; out = zs } ≡ turn scheme_of assoc text n g =
      λ i. record { turns = (e' ∙ ap (served_of g.turns) e.0) i; job = e.1 i; out = e.2 i } in
      let one : u.served ≡ g.turns.served + 1 = ap (λ (v : Turns). v.served) e' in
      record {
        left = subst (λ (v : Turns). v.left ≤ k) (sym e') (fewer_left g.turns r k f.left);
        had = omega (arith, f.had, one);
        leads = ap (after k) same ∙ sym (another scheme_of assoc text n k g going) ∙ f.leads;
        long = l ∙ f.long;
      }

  pub goes_on : (k : ℕ) (g : Going) → Holds k g → 0 < g.turns.left → (r : Answer) (u : Turns) (j : Job) (zs : List ℕ)
      → KeepsSlice scheme_of g.job assoc text g.out n r j zs → u ≡ served_of g.turns r → length zs ≡ length g.out
      → (i : ℕ) × Holds i (record { turns = u; job = j; out = zs })
  goes_on zero g f going r u j zs e e' l = absurd (omega (arith, f.left, going))
  goes_on (suc k) g f going r u j zs e e' l = (k, next k g f going r u j zs e e' l)

  -- with no turn left it is where all of them lead
  pub at_end : (k : ℕ) (g : Going) → Holds k g → g.turns.left ≡ 0 → last ≡ g
  at_end k g f none = sym f.leads ∙ over scheme_of assoc text n k g none
