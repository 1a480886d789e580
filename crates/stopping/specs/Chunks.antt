-- Several rounds of one call in one go are as many steps: what lets an engine run a permutation for more than a round at a time.
-- Assumes nothing.
use Rattle.std.specs.Prelude.{◌≡◌, refl}
use Rattle.std.proofs.Math.Path.{sym, ap, ap₂, subst}
use Rattle.std.proofs.Common.{◌∙◌, add-zero, arith}
use Prim.Native.Nat.{ℕ, zero, suc, ◌+◌, ◌<◌}
use borrow.Author.Tests.{ne_eqb}
use Rattle.bits.specs.Run.{turns}
use Rattle.stopping.specs.Stopped.{Call, entered, left, one, left_more}
use Rattle.stopping.specs.Parts.{rounds_in, shapes, shapes-append}
use Rattle.stopping.specs.PlaceLaws.{rounds_at_lem, place_past, place-back, into, place-start, Moves, moves}
use Rattle.stopping.specs.Places.{Place, place, place_of, call_at}
use Rattle.stopping.specs.Course.{Course, parts, front_rounds, back_rounds, Core, ending_of, core_at, stands_at, step, steps, Lawful}
use Rattle.stopping.specs.Follows.{steps_snoc, step_on, all_rounds, all_some}

-- k rounds of one call, from its round j on, with what goes with the first
unfoldable pub some : {M : Type 0} → Call M → ℕ → ℕ → M → M
some f j k m = turns (λ (i : ℕ). f.turn (j + i)) k (entered f j m)

entered_not : {M : Type 0} (f : Call M) (j : ℕ) (m : M) → 0 < j → entered f j m ≡ m
unfolding entered
entered_not f zero m h = absurd (omega arith)
entered_not f (suc j) m h = refl

module _ {M : Type 0} (c : Course M) (l : Lawful c) where
  -- the decision and the end stand at the start of a part
  decision_starts : into (stands_at c (front_rounds c)) ≡ 0
  unfolding stands_at front_rounds
  decision_starts =
      let v = rounds_in (shapes c.front) in
      let e : v ≡ v + 0 = sym (add-zero v) in
      ap₂ (λ hs n. into (place_of hs n)) (shapes-append c.front c.back) e
      ∙ ap into (place-back (shapes c.front) (shapes c.back) 0) ∙ place-start (shapes c.back)

  end_starts : into (stands_at c (front_rounds c + back_rounds c)) ≡ 0
  unfolding stands_at
  end_starts = ap into (place_past (shapes (parts c)) (front_rounds c + back_rounds c) (omega (arith, all_rounds c)))

  -- so a round inside a part ends nothing
  pub inside : (d : ℕ) (m : M) → 0 < into (stands_at c d) → (core_at c d m).ending ≡ 0
  unfolding ending_of
  inside d m h =
      rw (
        ne_eqb d (front_rounds c) (λ e. omega (arith, decision_starts, ap (λ (n : ℕ). into (stands_at c n)) e)),
        ne_eqb d (front_rounds c + back_rounds c) (λ e. omega (arith, end_starts, ap (λ (n : ℕ). into (stands_at c n)) e)),
      )

  module _ (j : Core M) (going : j.ending ≡ 0) (more : j.done < front_rounds c + back_rounds c) where
    w : Place
    w = stands_at c j.done

    f : Call M
    f = call_at (parts c) w

    -- k rounds further in the same call
    further : (k : ℕ) → w.round + k < f.rounds → stands_at c (j.done + k) ≡ place w.part w.call (w.round + k)
    unfolding w f stands_at Moves
    further k h =
        (moves (shapes (parts c)) (all_some c l) j.done k (rw (all_rounds c) more)).0
        (rw (rounds_at_lem (parts c) (place_of (shapes (parts c)) j.done)) at h)

    -- k rounds of the call in one go
    gone : ℕ → Core M
    gone k = core_at c (j.done + suc k) (left f (w.round + k) (some f w.round (suc k) j.machine))

    gone_more : (k : ℕ) → w.round + suc k < f.rounds → step c (gone k) ≡ gone (suc k)
    unfolding gone one some turns f call_at
    gone_more k h =
        let m = some f w.round (suc k) j.machine in
        let d : ℕ = j.done + suc k in
        let e = further (suc k) h in
        let inner = left_more f (w.round + k) m (omega arith) in
        let i : 0 < into (stands_at c d) = omega (arith, ap Place.round e) in
        ap (λ (u : M). step c (core_at c d u)) inner
        ∙ step_on c (core_at c d m) (inside d m i)
        ∙ ap (λ (v : Place). core_at c (suc d) (one (call_at (parts c) v) v.round m)) e
        ∙ ap (λ (u : M). core_at c (suc d) (left f (w.round + suc k) (f.turn (w.round + suc k) u))) (entered_not f (w.round + suc k) m (omega arith))
        ∙ ap (λ (n : ℕ). core_at c n (left f (w.round + suc k) (f.turn (w.round + suc k) m))) (omega arith)

    chunked : (k : ℕ) → w.round + k < f.rounds → steps c (suc k) j ≡ gone k
    unfolding steps gone some one turns f w
    chunked zero h =
        step_on c j going
        ∙ ap₂ (λ n i. core_at c n (left f i (f.turn i (entered f w.round j.machine)))) (omega arith) (sym (add-zero w.round))
    chunked (suc k) h = steps_snoc c (suc k) j ∙ ap (step c) (chunked k (omega arith)) ∙ gone_more k h

  -- suc k rounds of the call at which an unended job stands
  pub chunk : (j : Core M) → j.ending ≡ 0 → j.done < front_rounds c + back_rounds c → (w : Place) → stands_at c j.done ≡ w
      → (k : ℕ) → w.round + k < (call_at (parts c) w).rounds
      → steps c (suc k) j
      ≡ core_at c (j.done + suc k) (left (call_at (parts c) w) (w.round + k) (some (call_at (parts c) w) w.round (suc k) j.machine))
  unfolding gone f w
  chunk j going more v e k h =
      subst
      (λ (v : Place). v.round + k < (call_at (parts c) v).rounds
      → steps c (suc k) j
      ≡ core_at c (j.done + suc k) (left (call_at (parts c) v) (v.round + k) (some (call_at (parts c) v) v.round (suc k) j.machine)))
      e (chunked j going more k) h
