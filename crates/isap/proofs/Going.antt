-- `row_calls` and `row`, from what each of their calls gives: how many calls go in one go, and that they are as many steps as they have rounds.
-- Assumes nothing.
use mathlib.Core.Path.{◌≡◌, sym, ap, ap₂, ◌∙◌, subst}
use mathlib.Core.List.{List}
use Prim.Native.Nat.{ℕ, ◌+◌, ◌-◌, ◌*◌, ◌≤◌, ◌<◌}
use native.Mathlib.Omega.{arith}
use lib.ListN.{length}
use Rattle.stopping.specs.Parts.{Shape}
use Rattle.stopping.specs.Places.{shape_at}
use Rattle.scheme.specs.Scheme.{all_shapes, all_count, parts_of}
use Rattle.scheme.specs.Calls.{Inner}
use Rattle.instances.specs.Schemes.{scheme_of, lawful-scheme}
use Rattle.instances.specs.Limits.{most_assoc, most_text, most_calls, most_rounds, total_most}
use Rattle.plan.specs.declared.places.Place.{Place}
use Rattle.isap.specs.declared.Job.{Job}
use Rattle.isap.specs.Records.{sealing_of, shapes_of, front_of, back_of, total_of, changed}
use Rattle.isap.specs.Turns.{At, shape_here}
use Rattle.isap.specs.Sofar.{Fresh, fresh_at, Turned}
use Rattle.isap.specs.Rows.{rounds_at, Row, Rowable, Rows, Went, row_upto, row-turned}

module _ (j : Job) where
  pub is_part_lem : At scheme_of j j.place → j.place.part < parts_of (scheme_of j.instance) (sealing_of j.direction)
  unfolding shapes_of
  is_part_lem a = omega (arith, a.is_part, (lawful-scheme j.instance).fixed (sealing_of j.direction) j.assoc j.text)

  abbrev pub Count : ℕ → Type 0
  Count count = count ≡ (shape_at (all_shapes (scheme_of j.instance) (sealing_of j.direction) j.assoc j.text) j.place.part).count

  -- the rounds of a call by the counting leaf, whatever the lengths
  pub rounds_is : (rounds : ℕ) → ((a m : ℕ) → rounds ≡ (shape_at (all_shapes (scheme_of j.instance) (sealing_of j.direction) a m) j.place.part).rounds)
      → rounds ≡ rounds_at scheme_of j
  unfolding shapes_of
  rounds_is rounds r = r j.assoc j.text

  pub count_is : (count : ℕ) → Count count → count ≡ (shape_here scheme_of j j.place).count
  unfolding shapes_of
  count_is count n = n

  -- a call that is there is below the count
  pub below : At scheme_of j j.place → (count : ℕ) → Count count → j.place.call < count
  below a count n = omega (arith, a.is_call, count_is count n)

  -- ---- the choice

  pub chosen : (left rounds : ℕ) → rounds ≡ rounds_at scheme_of j → j.place.round ≡ 0 → (j.place.call ≡ 0 → ⊥) → Rowable j → (count : ℕ) → Count count → count ≤ most_calls
      → (calls : ℕ) → j.place.call + calls ≤ count - 1 → 0 < count → calls * rounds ≤ left → Rows scheme_of j left calls
  chosen left rounds r start later can count n most calls up pos fits =
      record {
        is_row = λ some. record {
          row = record { at_start = start; not_first = omega (arith, later); not_last = omega (arith, count_is count n); small = omega arith };
          is_many = can;
        };
        fits = subst (λ (i : ℕ). calls * i ≤ left) r fits;
      }

-- ---- the row

-- no record within the limits has more rounds than the longest job
pub total_of_lem : (j : Job) → j.assoc ≤ most_assoc → j.text ≤ most_text → total_of scheme_of j ≤ most_rounds
unfolding front_of back_of all_count
total_of_lem j a m = total_most j.instance (sealing_of j.direction) j.assoc j.text a m

module _ (j : Job) (assoc text out : List ℕ) (h : Fresh scheme_of j assoc text out) (calls : ℕ) (row : Row scheme_of j calls) where
  -- the row by the lent lengths
  pub inner : Inner (scheme_of j.instance) (sealing_of j.direction) (length assoc) (length text) j.place.part j.place.call calls
  unfolding shapes_of
  inner =
      let at = fresh_at scheme_of lawful-scheme h in
      record {
        is_part = subst (λ (hs : List Shape). j.place.part < length hs) lent at.is_part;
        not_first = row.not_first;
        not_last = subst (λ (hs : List Shape). j.place.call + calls < (shape_at hs j.place.part).count) lent row.not_last;
      }
    where
      lent : all_shapes (scheme_of j.instance) (sealing_of j.direction) j.assoc j.text ≡ all_shapes (scheme_of j.instance) (sealing_of j.direction) (length assoc) (length text)
      lent = ap₂ (all_shapes (scheme_of j.instance) (sealing_of j.direction)) (sym h.assoc_long) (sym h.text_long)

module _ (j : Job) (assoc text out : List ℕ) (h : Fresh scheme_of j assoc text out) (calls : ℕ) (row : Row scheme_of j calls) (rounds : ℕ) (rs : rounds ≡ rounds_at scheme_of j) where
  done_fits : j.done + calls * rounds_at scheme_of j ≤ most_rounds
  done_fits = omega (arith, row_upto scheme_of lawful-scheme j assoc text out h calls row, total_of_lem j h.assoc_limit h.text_limit)

  pub sum_fits : j.done + calls * rounds ≤ most_rounds
  sum_fits = omega (arith, done_fits, ap (λ (n : ℕ). calls * n) rs)

  pub gone_on : (state out' : List ℕ) → Went scheme_of j calls assoc text out state out' → length out' ≡ length out → (r : Job)
      → r ≡ changed j j.tag (j.done + calls * rounds) (record { part = j.place.part; call = j.place.call + calls; round = 0 }) j.ending state j.session
      → Turned scheme_of j assoc text out (calls * rounds_at scheme_of j) r out'
  gone_on state out' g l r e =
      let at : Place = record { part = j.place.part; call = j.place.call + calls; round = 0 } in
      let d : j.done + calls * rounds_at scheme_of j ≡ j.done + calls * rounds = ap (λ (n : ℕ). j.done + calls * n) (sym rs) in
      subst (λ (y : Job). Turned scheme_of j assoc text out (calls * rounds_at scheme_of j) y out')
      (ap (λ (n : ℕ). changed j j.tag n at j.ending state j.session) d ∙ sym e)
      (row-turned scheme_of lawful-scheme j assoc text out h calls row state out' g l)
