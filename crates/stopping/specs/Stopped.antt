-- What it means to stop an algorithm after n rounds. An algorithm is a row of calls of a permutation; a call is some rounds, what goes
-- with the first of them and what goes with the last. Nothing here knows which algorithm it is.
-- Assumes nothing.
use Rattle.std.specs.Prelude.{◌≡◌, ◌⊎◌, ltb, eqb}
use Rattle.std.proofs.Math.Path.{refl, sym, ap}
use Rattle.std.proofs.Common.{◌∙◌, inl, inr, arith}
use mathlib.Core.List.{List, [], ◌∷◌}
use Prim.Native.Nat.{ℕ, zero, suc, ◌+◌, ◌-◌, ◌≤◌, ◌<◌}
use Rattle.std.proofs.Math.Decide.{dec_lt}
use borrow.Author.Tests.{lt-ltb, le-ltb, eq-eqb, ne_eqb}
use Rattle.bits.specs.Pick.{pick}
use Rattle.bits.specs.Run.{turns}

-- one call: `rounds` rounds, `turn k` the k-th of them from 0; `enter` goes with the first round, `leave` with the last
pub record Call (M : Type 0) : Type 0 where
  pub rounds : ℕ
  pub enter : M → M
  pub turn : ℕ → M → M
  pub leave : M → M

last_or_not : (k n : ℕ) → k < n → (suc k < n) ⊎ (suc k ≡ n)
last_or_not k n h = elim (dec_lt (suc k) n) [ yes m ↦ inl m | no f ↦ inr (omega arith) ]

module _ {M : Type 0} where
  -- a call broken off after k rounds: with no round nothing is done
  unfoldable pub broken : Call M → ℕ → M → M
  broken c zero s = s
  broken c (suc k) s = turns c.turn (suc k) (c.enter s)

  -- a call done whole
  unfoldable pub whole : Call M → M → M
  whole c s = c.leave (turns c.turn c.rounds (c.enter s))

  -- a row of calls, stopped after n rounds
  unfoldable pub stopped : List (Call M) → ℕ → M → M
  stopped [] n s = s
  stopped (c ∷ cs) n s = pick (ltb n c.rounds) (broken c n s) (stopped cs (n - c.rounds) (whole c s))

  -- the rounds of a row
  unfoldable pub total : List (Call M) → ℕ
  total [] = 0
  total (c ∷ cs) = c.rounds + total cs

  -- ---- one round of a call, with what goes with it

  unfoldable pub entered : Call M → ℕ → M → M
  entered c zero s = c.enter s
  entered c (suc k) s = s

  unfoldable pub left : Call M → ℕ → M → M
  left c k s = pick (eqb (suc k) c.rounds) (c.leave s) s

  -- round k of a call
  unfoldable pub one : Call M → ℕ → M → M
  one c k s = left c k (c.turn k (entered c k s))

  -- round n of a row is round k of its call c
  pub data At : List (Call M) → ℕ → Call M → ℕ → Type 0 where
    here : {c : Call M} {cs : List (Call M)} {k : ℕ} → k < c.rounds → At (c ∷ cs) k c k
    later : {c d : Call M} {cs : List (Call M)} {n k : ℕ} → At cs n d k → At (c ∷ cs) (c.rounds + n) d k

  -- no call is without a round
  unfoldable pub AllSome : List (Call M) → Type 0
  AllSome [] = Unit {0}
  AllSome (c ∷ cs) = (0 < c.rounds) × AllSome cs

  -- ---- laws

  pub stopped-short : (c : Call M) (cs : List (Call M)) (n : ℕ) (s : M) → n < c.rounds → stopped (c ∷ cs) n s ≡ broken c n s
  unfolding stopped
  stopped-short c cs n s h = rw (stopped, lt-ltb n c.rounds h)

  pub stopped_past : (c : Call M) (cs : List (Call M)) (n : ℕ) (s : M) → c.rounds ≤ n → stopped (c ∷ cs) n s ≡ stopped cs (n - c.rounds) (whole c s)
  unfolding stopped
  stopped_past c cs n s h = rw (stopped, le-ltb n c.rounds h)

  pub stopped_zero : (cs : List (Call M)) (s : M) → AllSome cs → stopped cs 0 s ≡ s
  unfolding AllSome stopped broken
  stopped_zero [] s h = refl
  stopped_zero (c ∷ cs) s h = stopped-short c cs 0 s h.0

  pub left_more : (c : Call M) (k : ℕ) (s : M) → suc k < c.rounds → left c k s ≡ s
  unfolding left
  left_more c k s h = rw (left, ne_eqb (suc k) c.rounds (λ e. omega arith))

  pub left_last : (c : Call M) (k : ℕ) (s : M) → suc k ≡ c.rounds → left c k s ≡ c.leave s
  unfolding left
  left_last c k s h = rw (left, eq-eqb (suc k) c.rounds h)

  broken_more : (c : Call M) (k : ℕ) (s : M) → c.turn k (entered c k (broken c k s)) ≡ broken c (suc k) s
  unfolding broken entered turns
  broken_more c zero s = refl
  broken_more c (suc k) s = refl

  whole_last : (c : Call M) (k : ℕ) (s : M) → suc k ≡ c.rounds → c.leave (broken c (suc k) s) ≡ whole c s
  unfolding broken whole
  whole_last c k s h = ap (λ (n : ℕ). c.leave (turns c.turn n (c.enter s))) h

  one_short : (c : Call M) (cs : List (Call M)) (k : ℕ) (s : M) → k < c.rounds → one c k (stopped (c ∷ cs) k s) ≡ left c k (broken c (suc k) s)
  unfolding one
  one_short c cs k s h = rw (stopped-short c cs k s h, broken_more c k s)

  -- one round more, inside the first call
  more_here : (c : Call M) (cs : List (Call M)) (k : ℕ) (s : M) → AllSome cs → k < c.rounds
      → (suc k < c.rounds) ⊎ (suc k ≡ c.rounds) → stopped (c ∷ cs) (suc k) s ≡ one c k (stopped (c ∷ cs) k s)
  more_here c cs k s all h (inl m) = stopped-short c cs (suc k) s m ∙ sym (left_more c k (broken c (suc k) s) m) ∙ sym (one_short c cs k s h)
  more_here c cs k s all h (inr e) =
      stopped_past c cs (suc k) s (omega arith)
      ∙ ap (λ (n : ℕ). stopped cs n (whole c s)) (omega arith)
      ∙ stopped_zero cs (whole c s) all
      ∙ sym (whole_last c k s e)
      ∙ sym (left_last c k (broken c (suc k) s) e)
      ∙ sym (one_short c cs k s h)

  -- one round more
  pub stopped_more : {cs : List (Call M)} {n : ℕ} {c : Call M} {k : ℕ} (s : M) → AllSome cs → At cs n c k
      → stopped cs (suc n) s ≡ one c k (stopped cs n s)
  unfolding AllSome
  stopped_more s all (here {c} {cs} {k} h) = more_here c cs k s all.1 h (last_or_not k c.rounds h)
  stopped_more s all (later {c} {d} {cs} {n} {k} a) =
      stopped_past c cs (suc (c.rounds + n)) s (omega arith)
      ∙ ap (λ (m : ℕ). stopped cs m (whole c s)) (omega arith)
      ∙ stopped_more (whole c s) all.1 a
      ∙ ap (one d k) (ap (λ (m : ℕ). stopped cs m (whole c s)) (omega arith) ∙ sym (stopped_past c cs (c.rounds + n) s (omega arith)))
