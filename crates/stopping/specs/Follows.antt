-- A job that is stepped follows its course: after n steps it is the algorithm stopped after n rounds, and has ended as that has.
-- Assumes nothing.
use Rattle.std.specs.Prelude.{◌≡◌, Bool, ltb, eqb}
use Rattle.std.proofs.Math.Path.{refl, sym, ap, ap₂}
use Rattle.std.proofs.Common.{◌∙◌}
use Rattle.std.proofs.Math.Bool.{true, false}
use mathlib.Core.List.{List}
use Prim.Native.Nat.{ℕ, zero, suc, ◌+◌, min, ◌≤◌, ◌<◌}
use Rattle.std.proofs.Math.Nat.{min-eq_left}
use Rattle.std.proofs.Math.Decide.{dec_lt}
use native.Mathlib.Omega.{arith}
use borrow.Author.Tests.{lt-ltb, le-ltb, eq-eqb, ne_eqb, eqb-true}
use Rattle.bits.specs.Pick.{pick}
use Rattle.stopping.specs.Stopped.{stopped, one, stopped_zero, stopped_more}
use Rattle.stopping.specs.Rows.{run, at_end, stopped-front}
use Rattle.stopping.specs.Parts.{rounds_in, EachSome, row, shapes, shapes-append, row-append, total-row, some_row, rounds_in-append, some_shapes}
use Rattle.stopping.specs.PlaceLaws.{at_place}
use Rattle.stopping.specs.Places.{call_at}
use Rattle.stopping.specs.Course.{Course, parts, front_rounds, back_rounds, accepted, lasts, halted, ended_by, Core, ending_of, core_at, stands_at, step, steps, begun, Lawful}

module _ {M : Type 0} (c : Course M) where
  pub steps_snoc : (k : ℕ) (j : Core M) → steps c (suc k) j ≡ step c (steps c k j)
  unfolding steps
  steps_snoc zero j = refl
  steps_snoc (suc k) j = steps_snoc k (step c j)

  pub steps-add : (i k : ℕ) (j : Core M) → steps c (i + k) j ≡ steps c k (steps c i j)
  unfolding steps
  steps-add zero k j = let e : 0 + k ≡ k = omega arith in ap (λ (n : ℕ). steps c n j) e
  steps-add (suc i) k j = let e : suc i + k ≡ suc (i + k) = omega arith in ap (λ (n : ℕ). steps c n j) e ∙ steps-add i k (step c j)

  pub step-ended : (j : Core M) → (j.ending ≡ 0 → ⊥) → step c j ≡ j
  unfolding step
  step-ended j h = rw (step, ne_eqb j.ending 0 h)

  pub steps-ended : (k : ℕ) (j : Core M) → (j.ending ≡ 0 → ⊥) → steps c k j ≡ j
  unfolding steps
  steps-ended zero j h = refl
  steps-ended (suc k) j h = ap (steps c k) (step-ended j h) ∙ steps-ended k j h

  pub step_on : (j : Core M) → j.ending ≡ 0
      → step c j ≡ core_at c (suc j.done) (one (call_at (parts c) (stands_at c j.done)) (stands_at c j.done).round j.machine)
  unfolding step
  step_on j h = rw (step, eq-eqb j.ending 0 h)

  pub all_rounds : rounds_in (shapes (parts c)) ≡ front_rounds c + back_rounds c
  unfolding front_rounds back_rounds
  all_rounds = ap rounds_in (shapes-append c.front c.back) ∙ rounds_in-append (shapes c.front) (shapes c.back)

  pub all_some : Lawful c → EachSome (shapes (parts c))
  all_some l = rw (shapes-append c.front c.back) (some_shapes (shapes c.front) (shapes c.back) l.front_some l.back_some)

-- the ending that round n gives is the algorithm's
by_test : (ok : Bool) (v e n : ℕ) → 0 < v → 0 < n → n ≤ pick ok (v + e) v → (a : Bool) → (n ≡ v → a ≡ ok)
    → ending_of v e n a ≡ pick (ltb n (pick ok (v + e) v)) 0 (pick ok 1 2)
unfolding ending_of
by_test true v e n hv hn b a f =
    elim (dec_lt n v) [
      | yes y ↦ rw (ne_eqb n v (λ q. omega arith), ne_eqb n (v + e) (λ q. omega arith), lt-ltb n (v + e) (omega arith))
      | no g ↦ elim (dec_lt v n) [
        | yes y ↦ elim (dec_lt n (v + e)) [
          | yes z ↦ rw (ne_eqb n v (λ q. omega arith), ne_eqb n (v + e) (λ q. omega arith), lt-ltb n (v + e) z)
          | no z ↦ rw (ne_eqb n v (λ q. omega arith), eq-eqb n (v + e) (omega arith), le-ltb n (v + e) (omega arith))
        ]
        | no k ↦ elim (dec_lt 0 e) [
          | yes z ↦ rw (eq-eqb n v (omega arith), f (omega arith), ne_eqb e 0 (λ q. omega arith), lt-ltb n (v + e) (omega arith))
          | no z ↦ rw (eq-eqb n v (omega arith), f (omega arith), eq-eqb e 0 (omega arith), le-ltb n (v + e) (omega arith))
        ]
      ]
    ]
by_test false v e n hv hn b a f =
    elim (dec_lt n v) [
      | yes y ↦ rw (ne_eqb n v (λ q. omega arith), ne_eqb n (v + e) (λ q. omega arith), lt-ltb n v y)
      | no g ↦ rw (eq-eqb n v (omega arith), f (omega arith), le-ltb n v (omega arith))
    ]

one_not : ◌≡◌ {A = ℕ} 1 0 → ⊥
one_not z = omega arith

two_not : ◌≡◌ {A = ℕ} 2 0 → ⊥
two_not z = omega arith

-- with the last of all rounds a job ends
pub total_ends : (v e d : ℕ) (ok : Bool) → d ≡ v + e → ending_of v e d ok ≡ 0 → ⊥
unfolding ending_of
total_ends v e d ok q z = go (eqb d v) ok refl (sym (ap (λ (b : Bool). pick (eqb d v) (pick ok (pick (eqb e 0) 1 0) 2) (pick {A = ℕ} b 1 0)) (eq-eqb d (v + e) q)) ∙ z)
  where
    go : (b k : Bool) → eqb d v ≡ b → ◌≡◌ {A = ℕ} (pick b (pick k (pick (eqb e 0) 1 0) 2) 1) 0 → ⊥
    go true true f u = let n : e ≡ 0 = omega (arith, eqb-true d v f) in one_not (sym (ap (λ (b : Bool). pick {A = ℕ} b 1 0) (eq-eqb e 0 n)) ∙ u)
    go true false f u = two_not u
    go false k f u = one_not u

-- where the decision accepts, only the last of all rounds ends a job
pub ends_true : (v e d : ℕ) → ending_of v e d true ≡ pick (eqb d (v + e)) 1 0
unfolding ending_of
ends_true v e d = go (eqb d v) refl
  where
    go : (b : Bool) → eqb d v ≡ b → ◌≡◌ {A = ℕ} (pick b (pick (eqb e 0) 1 0) (pick (eqb d (v + e)) 1 0)) (pick (eqb d (v + e)) 1 0)
    go true f =
        let at : d ≡ v = eqb-true d v f in
        elim (dec_lt 0 e) [
          | yes l ↦ rw (ne_eqb e 0 (λ q. omega arith), ne_eqb d (v + e) (λ q. omega arith))
          | no l ↦ rw (eq-eqb e 0 (omega arith), eq-eqb d (v + e) (omega arith))
        ]
    go false f = refl

not_zero : (b : Bool) → pick {A = ℕ} b 1 2 ≡ 0 → ⊥
not_zero true e = omega arith
not_zero false e = omega arith

module _ {M : Type 0} (c : Course M) (l : Lawful c) (m : M) where
  abbrev pub after : ℕ → M
  after n = stopped (row (parts c)) n m

  -- one round more of the algorithm
  one_more : (n : ℕ) → n < front_rounds c + back_rounds c → after (suc n) ≡ one (call_at (parts c) (stands_at c n)) (stands_at c n).round (after n)
  unfolding stands_at
  one_more n h =
      stopped_more m (some_row (parts c) (all_some c l)) (at_place (parts c) (all_some c l) n (rw (all_rounds c) h))

  -- the machine at the decision
  decided : after (front_rounds c) ≡ run (row c.front) m
  unfolding front_rounds
  decided =
      let v = sym (total-row c.front) in
      ap (λ (cs : List _). stopped cs (rounds_in (shapes c.front)) m) (row-append c.front c.back)
      ∙ stopped-front (row c.front) (row c.back) (rounds_in (shapes c.front)) m (some_row c.back l.back_some) (omega (arith, v))
      ∙ ap (λ (n : ℕ). stopped (row c.front) n m) v ∙ at_end (row c.front) m

  ends_as : (n : ℕ) → 0 < n → n ≤ lasts c m → ending_of (front_rounds c) (back_rounds c) n (c.accepts (after n)) ≡ ended_by c n m
  unfolding ended_by lasts accepted
  ends_as n hn b =
      by_test (c.accepts (run (row c.front) m)) (front_rounds c) (back_rounds c) n l.decides hn b (c.accepts (after n))
      (λ e. ap c.accepts (ap after e ∙ decided))

  pub lasts_least : front_rounds c ≤ lasts c m
  unfolding lasts
  lasts_least = go (accepted c m)
    where
      go : (b : Bool) → front_rounds c ≤ pick b (front_rounds c + back_rounds c) (front_rounds c)
      go true = omega arith
      go false = omega arith

  pub lasts_most : lasts c m ≤ front_rounds c + back_rounds c
  unfolding lasts
  lasts_most = go (accepted c m)
    where
      go : (b : Bool) → pick b (front_rounds c + back_rounds c) (front_rounds c) ≤ front_rounds c + back_rounds c
      go true = omega arith
      go false = omega arith

  -- the algorithm stopped after n rounds, as a job
  unfoldable pub following : ℕ → Core M
  following n = record { machine = halted c n m; done = min n (lasts c m); ending = ended_by c n m }

  -- before its end
  pub following_on : (n : ℕ) → n ≤ lasts c m → following n ≡ record { machine = after n; done = n; ending = ended_by c n m }
  unfolding following halted
  following_on n h =
      ap (λ (k : ℕ). record { machine = stopped (row (parts c)) k m; done = k; ending = ended_by c n m }) (min-eq_left h)

  pub unended : (n : ℕ) → n < lasts c m → ended_by c n m ≡ 0
  unfolding ended_by
  unended n h = rw (ended_by, lt-ltb n (lasts c m) h)

  pub ended : (n : ℕ) → lasts c m ≤ n → ended_by c n m ≡ pick (accepted c m) 1 2
  unfolding ended_by
  ended n h = rw (ended_by, le-ltb n (lasts c m) h)

  -- past its end nothing changes
  stays : (n : ℕ) → lasts c m ≤ n → following n ≡ following (suc n)
  unfolding following halted
  stays n h =
      let e : min n (lasts c m) ≡ min (suc n) (lasts c m) = omega arith in
      ap₂ (λ (k i : ℕ). record { machine = stopped (row (parts c)) k m; done = k; ending = i }) e
      (ended n h ∙ sym (ended (suc n) (omega arith)))

  -- one step of it
  step_follows : (n : ℕ) → step c (following n) ≡ following (suc n)
  unfolding following
  step_follows n =
      elim (dec_lt n (lasts c m)) [
        | yes y ↦
            let j : Core M = record { machine = after n; done = n; ending = ended_by c n m } in
            let most = lasts_most in
            ap (step c) (following_on n (omega arith))
            ∙ step_on c j (unended n y)
            ∙ ap (core_at c (suc n)) (sym (one_more n (omega arith)))
            ∙ ap (λ (k : ℕ). record { machine = after (suc n); done = suc n; ending = k }) (ends_as (suc n) (omega arith) y)
            ∙ sym (following_on (suc n) y)
        | no f ↦
            step-ended c (following n) (λ e. not_zero (accepted c m) (sym (ended n (omega arith)) ∙ e)) ∙ stays n (omega arith)
      ]

  pub follows : (n : ℕ) → steps c n (begun m) ≡ following n
  unfolding steps
  follows zero =
      let least = lasts_least in
      let d = l.decides in
      sym
      (following_on 0 (omega arith)
      ∙ ap₂ (λ (u : M) (k : ℕ). record { machine = u; done = 0; ending = k })
      (stopped_zero (row (parts c)) m (some_row (parts c) (all_some c l))) (unended 0 (omega arith)))
  follows (suc n) = steps_snoc c n (begun m) ∙ ap (step c) (follows n) ∙ step_follows n
