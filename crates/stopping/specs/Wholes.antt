-- Several whole calls of one part in one go are as many steps as they have rounds: what lets an engine keep its words from call to call.
-- The last call of a part is not among them, so none of them ends anything.
-- Assumes nothing.
use Rattle.std.specs.Prelude.{◌≡◌, List}
use Rattle.std.proofs.Math.Path.{refl, ap, ap₂, subst}
use Rattle.std.proofs.Common.{sym, ◌∙◌, suc-mul, add-zero, zero-mul, arith}
use Prim.Native.Nat.{ℕ, zero, suc, ◌+◌, ◌-◌, ◌*◌, ◌<◌}
use Rattle.std.proofs.Math.Decide.{dec_lt}
use Rattle.bits.specs.Run.{turns}
use Rattle.stopping.specs.Stopped.{Call, whole, entered, left, left_last}
use Rattle.stopping.specs.Parts.{Part, Shape, call_of, shapes}
use Rattle.stopping.specs.PlaceLaws.{shape-part, place_inside, place_past, into, Moves, moves}
use Rattle.stopping.specs.Places.{Place, place, place_of, part_at, call_at, shape_at}
use Rattle.stopping.specs.Course.{Course, parts, front_rounds, back_rounds, Core, core_at, stands_at, steps, Lawful}
use Rattle.stopping.specs.Follows.{steps-add, all_rounds, all_some}
use Rattle.stopping.specs.Chunks.{some, inside, chunk}

-- k whole calls of a part, from the i-th on
unfoldable pub wholes : {M : Type 0} → Part M → ℕ → ℕ → M → M
wholes q i zero m = m
wholes q i (suc k) m = whole (call_of q (i + k)) (wholes q i k m)

-- all rounds of a call in one go are the whole call
all_of : {M : Type 0} (f : Call M) (k : ℕ) (m : M) → suc k ≡ f.rounds → left f (0 + k) (some f 0 (suc k) m) ≡ whole f m
unfolding whole some entered
all_of f k m e =
    let z : 0 + k ≡ k = omega arith in
    ap (λ (n : ℕ). left f n (some f 0 (suc k) m)) z
    ∙ left_last f k (some f 0 (suc k) m) e
    ∙ ap₂ (λ (t : ℕ → _) (n : ℕ). f.leave (turns t n (f.enter m))) (λ i k. f.turn (zero_plus k i)) e
  where
    zero_plus : (n : ℕ) → 0 + n ≡ n
    zero_plus n = omega arith

module _ {M : Type 0} (c : Course M) (l : Lawful c) (j : Core M) (going : j.ending ≡ 0) (more : j.done < front_rounds c + back_rounds c)
    (part call : ℕ) (stands : stands_at c j.done ≡ place part call 0) where
  abbrev q : Part M
  q = part_at (parts c) part

  hs : List Shape
  hs = shapes (parts c)

  shape_is : q.shape ≡ shape_at hs part
  unfolding hs
  shape_is = shape-part (parts c) part

  -- the rounds of k of its calls
  abbrev rounds : ℕ → ℕ
  rounds k = k * q.shape.rounds

  one_more : (k : ℕ) → rounds (suc k) ≡ rounds k + q.shape.rounds
  one_more k = suc-mul k q.shape.rounds

  none : rounds 0 ≡ 0
  none = zero-mul q.shape.rounds

  some_rounds : 0 < q.shape.rounds
  unfolding hs stands_at
  some_rounds =
      let i = place_inside hs (all_some c l) j.done (rw (all_rounds c) more) in
      let h : 0 < (shape_at hs part).rounds = subst (λ (w : Place). w.round < (shape_at hs w.part).rounds) stands i.round in
      omega (arith, h, ap Shape.rounds shape_is)

  -- behind the first call nothing has ended
  still : (k : ℕ) → stands_at c (j.done + rounds k) ≡ place part (call + k) 0 → j.done + rounds k < front_rounds c + back_rounds c
  unfolding stands_at
  still zero e = omega (arith, none, more)
  still (suc k) e =
      elim (dec_lt (j.done + rounds (suc k)) (front_rounds c + back_rounds c)) [
        | yes y ↦ y
        | no f ↦
            let past = place_past (shapes (parts c)) (j.done + rounds (suc k)) (omega (arith, all_rounds c)) in
            absurd (omega (arith, ap into (sym e ∙ past)))
      ]

  -- where k calls more lead
  pub row-place : (k : ℕ) → call + k < q.shape.count → stands_at c (j.done + rounds k) ≡ place part (call + k) 0
  unfolding stands_at Moves hs
  row-place zero h =
      ap₂ (λ (n i : ℕ). place_of (shapes (parts c)) n) (omega (arith, none)) none
      ∙ stands ∙ ap (λ (i : ℕ). place part i 0) (sym (add-zero call))
  row-place (suc k) h =
      let e = row-place k (omega arith) in
      let n : ℕ = j.done + rounds k in
      let m : Moves hs n q.shape.rounds (place part (call + k) 0) =
      subst (Moves hs n q.shape.rounds) e (moves hs (all_some c l) n q.shape.rounds (rw (all_rounds c) (still k e))) in
      let all : 0 + q.shape.rounds ≡ (shape_at hs part).rounds = omega (arith, ap Shape.rounds shape_is) in
      let next : suc (call + k) < (shape_at hs part).count = omega (arith, ap Shape.count shape_is) in
      let sum : j.done + rounds (suc k) ≡ n + q.shape.rounds = omega (arith, one_more k) in
      ap (place_of hs) sum ∙ (m.1 all).0 next ∙ ap (λ (i : ℕ). place part i 0) (omega arith)

  pub row_within : (k : ℕ) → call + k < q.shape.count → j.done + rounds k < front_rounds c + back_rounds c
  row_within k h = still k (row-place k h)

  gone : ℕ → Core M
  gone k = record { machine = wholes q call k j.machine; done = j.done + rounds k; ending = 0 }

  -- one call more
  row_next : (k : ℕ) → call + suc k < q.shape.count → steps c q.shape.rounds (gone k) ≡ gone (suc k)
  unfolding gone wholes call_at call_of
  row_next k h =
      let f = call_of q (call + k) in
      let m = wholes q call k j.machine in
      let n : ℕ = j.done + rounds k in
      let d : ℕ = j.done + rounds (suc k) in
      let i : ℕ = q.shape.rounds - 1 in
      let r : suc i ≡ q.shape.rounds = omega (arith, some_rounds) in
      let fits : 0 + i < (call_at (parts c) (place part (call + k) 0)).rounds = omega (arith, some_rounds) in
      let e = row-place k (omega arith) in
      let there = row-place (suc k) h in
      ap (λ (n : ℕ). steps c n (gone k)) (sym r)
      ∙ chunk c l (gone k) refl (still k e) (place part (call + k) 0) e i fits
      ∙ ap₂ (core_at c) (omega (arith, one_more k)) (all_of f i m r)
      ∙ ap (λ (z : ℕ). record { machine = whole f m; done = d; ending = z }) (inside c l d (whole f m) (omega (arith, ap into there)))

  -- k whole calls in one go
  pub row-steps : (k : ℕ) → call + k < q.shape.count
      → steps c (rounds k) j ≡ record { machine = wholes q call k j.machine; done = j.done + rounds k; ending = 0 }
  unfolding steps wholes gone
  row-steps zero h =
      ap (λ (n : ℕ). steps c n j) none ∙ (λ i. record { machine = j.machine; done = same i; ending = going i })
    where
      same : j.done ≡ j.done + rounds 0
      same = omega (arith, none)
  row-steps (suc k) h =
      ap (λ (n : ℕ). steps c n j) (one_more k) ∙ steps-add c (rounds k) q.shape.rounds j
      ∙ ap (steps c q.shape.rounds) (row-steps k (omega arith)) ∙ row_next k h
