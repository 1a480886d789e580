-- The host task's job is demand 3's: its turns are a row of slices of one budget, as many as the sampler was served, and with turns enough
-- they take the job to its end (`task_row`, `task_stopped`, `task_ends`). Two results that its statement allows are equal (`one_task`). A
-- reader may skip the rest.
-- Assumes nothing.
use Rattle.std.specs.Prelude.{◌≡◌, Bool, eqb, replicate}
use Rattle.std.proofs.Math.Path.{refl, ap, subst}
use Rattle.std.proofs.Common.{sym, ◌∙◌}
use Rattle.std.proofs.Math.Bool.{true, false}
use mathlib.Core.List.{List, []}
use Prim.Native.Nat.{ℕ, zero, suc, ◌+◌, ◌-◌, ◌*◌, ◌≤◌, ◌<◌, min}
use Rattle.std.proofs.Math.Decide.{dec_lt}
use native.Mathlib.Omega.{arith}
use borrow.Author.Tests.{ne_eqb, lt-ltb}
use Rattle.bits.specs.Pick.{pick}
use Rattle.stopping.specs.Course.{lasts, halted, ended_by}
use Rattle.stopping.specs.Follows.{unended}
use Rattle.scheme.specs.Scheme.{Scheme}
use Rattle.scheme.specs.Lawful.{LawfulScheme}
use Rattle.isap.specs.declared.Job.{Job}
use Rattle.isap.specs.declared.Sliced.{Sliced}
use Rattle.isap.specs.Records.{course_of, machine_of}
use Rattle.isap.specs.Slices.{number_of, slice_of, out_of}
use Rattle.isap.specs.Reached.{Begun, law, at}
use Rattle.isap.specs.Budgets.{Progress, sum, onward, sliced, slice_at, budgets}
use Rattle.task.specs.declared.Kept.{Kept}
use Rattle.task.specs.Turns.{served_of, Going, first, turn, turns_of, RunsTask}

-- the same record and the same output
abbrev Alike : Progress → Going → Type 0
Alike p g = (p.job ≡ g.job) × (p.out ≡ g.out)

module _ (of : ℕ → Scheme) (assoc text : List ℕ) (b : ℕ) where
  -- the turns that are had, of at most n
  unfoldable turns_had : ℕ → Going → ℕ
  turns_had zero g = 0
  turns_had (suc n) g = pick (eqb g.turns.left 0) 0 (suc (turns_had n (turn of assoc text b g)))

  -- from g to e there are k turns, and they are k slices
  record Row (g e : Going) (p : Progress) (k : ℕ) : Type 0 where
    served : e.turns.served ≡ g.turns.served + k
    alike : Alike (sliced of assoc text (replicate k b) p) e

  alike_turn : (p : Progress) (g : Going) → Alike p g → Alike (onward of assoc text b p) (turn of assoc text b g)
  unfolding onward turn
  alike_turn p g h =
      let e : (i : 𝕀) → Progress = λ i. onward of assoc text b (record { job = h.0 i; out = h.1 i; rounds = p.rounds }) in
      (λ i. (e i).job, λ i. (e i).out)

  rows : (n : ℕ) (g : Going) (p : Progress) → Alike p g → Row g (turns_of of assoc text b n g) p (turns_had n g)
  unfolding turns_had turns_of sliced turn served_of
  rows zero g p h = record { served = omega arith; alike = h }
  rows (suc n) g p h = by_left (eqb g.turns.left 0) (rows n (turn of assoc text b g) (onward of assoc text b p) (alike_turn p g h))
    where
      by_left : (z : Bool) → Row (turn of assoc text b g) (turns_of of assoc text b n (turn of assoc text b g)) (onward of assoc text b p) (turns_had n (turn of assoc text b g))
          → Row g (pick z g (turns_of of assoc text b n (turn of assoc text b g))) p (pick z 0 (suc (turns_had n (turn of assoc text b g))))
      by_left true r = record { served = omega arith; alike = h }
      by_left false r = record { served = r.served ∙ omega arith; alike = r.alike }

  -- the sampler is served once a turn
  served_all : (j : Job) (out : List ℕ) (turns : ℕ) (r : Kept) (out' : List ℕ) → RunsTask of j assoc text out b turns r out'
      → r.turns.served ≡ turns_had turns (first j out turns)
  served_all j out turns r out' h =
      ap (λ (k : Kept). k.turns.served) h.0 ∙ (rows turns (first j out turns) (record { job = j; out = out; rounds = 0 }) (refl, refl)).served ∙ omega arith

  -- what the task hands back is what so many slices of its budget leave
  pub task_row : (j : Job) (out : List ℕ) (turns : ℕ) (r : Kept) (out' : List ℕ) → RunsTask of j assoc text out b turns r out'
      → (r.job ≡ (sliced of assoc text (replicate r.turns.served b) (record { job = j; out = out; rounds = 0 })).job)
      × (out' ≡ (sliced of assoc text (replicate r.turns.served b) (record { job = j; out = out; rounds = 0 })).out)
  task_row j out turns r out' h =
      let q = (rows turns (first j out turns) (record { job = j; out = out; rounds = 0 }) (refl, refl)).alike in
      let n = sym (served_all j out turns r out' h) in
      let row : ℕ → Progress = λ k. sliced of assoc text (replicate k b) (record { job = j; out = out; rounds = 0 }) in
      (ap (λ (k : Kept). k.job) h.0 ∙ sym q.0 ∙ ap (λ (k : ℕ). (row k).job) n, h.1 ∙ sym q.1 ∙ ap (λ (k : ℕ). (row k).out) n)

  pub one_task : (j : Job) (out : List ℕ) (turns : ℕ) (r r' : Kept) (o o' : List ℕ)
      → RunsTask of j assoc text out b turns r o → RunsTask of j assoc text out b turns r' o' → (r ≡ r') × (o ≡ o')
  one_task j out turns r r' o o' h k = (h.0 ∙ sym k.0, h.1 ∙ sym k.1)

-- ---- from a beginning

sum-replicate : (k b : ℕ) → sum (replicate k b) ≡ k * b
unfolding sum
sum-replicate zero b = omega arith
sum-replicate (suc k) b = ap (λ (n : ℕ). b + n) (sum-replicate k b) ∙ omega arith

module _ (of : ℕ → Scheme) (laws : (i : ℕ) → LawfulScheme (of i)) (j : Job) (assoc text out : List ℕ) (h : Begun of j assoc text out) where
  -- the algorithm stopped after as many rounds as the turns' budgets have in all, or at its end
  pub task_stopped : (budget turns : ℕ) (r : Kept) (out' : List ℕ) → RunsTask of j assoc text out budget turns r out'
      → (r.job ≡ at of laws j assoc text out h (r.turns.served * budget)) × (out' ≡ (halted (course_of of j assoc text) (r.turns.served * budget) (machine_of j out)).out)
  task_stopped budget turns r out' e =
      let s = task_row of assoc text budget j out turns r out' e in
      let d = budgets of laws j assoc text out h (replicate r.turns.served budget) in
      let n = sum-replicate r.turns.served budget in
      (s.0 ∙ ap Progress.job d ∙ ap (λ (k : ℕ). at of laws j assoc text out h k) n, s.1 ∙ ap Progress.out d ∙ ap (λ (k : ℕ). (halted (course_of of j assoc text) k (machine_of j out)).out) n)

  -- ---- to the end

  abbrev last : ℕ
  last = lasts (course_of of j assoc text) (machine_of j out)

  -- the task where its job has had p rounds
  abbrev Standing : ℕ → Going → Type 0
  Standing p g = (g.job ≡ at of laws j assoc text out h p) × (g.out ≡ (halted (course_of of j assoc text) p (machine_of j out)).out)

  -- a turn that does not come to the end leaves all turns but itself
  going_on : (b p n : ℕ) (g : Going) → Standing p g → g.turns.left ≡ suc n → p + b < last
      → Standing (p + b) (turn of assoc text b g) × ((turn of assoc text b g).turns.left ≡ n)
  unfolding turn served_of number_of
  going_on b p n g is left within =
      let c = course_of of j assoc text in
      let m = machine_of j out in
      let s = slice_at of laws j assoc text out h p b in
      let yes = lt-ltb p last (omega (arith, within)) in
      let none = unended c (law of laws j assoc text out h) m (p + b) within in
      let full : Sliced = record { number = number_of (ended_by c (p + b) m); rounds = min (p + b) last - p; job = at of laws j assoc text out h (p + b) } in
      let over : Sliced = record { number = 10; rounds = 0; job = at of laws j assoc text out h p } in
      let same : slice_of of g.job assoc text g.out b ≡ full = (λ i. slice_of of (is.0 i) assoc text (is.1 i) b) ∙ s.0 ∙ ap (λ (z : Bool). pick z full over) yes in
      let hundred : (slice_of of g.job assoc text g.out b).number ≡ 100 = ap (λ (u : Sliced). u.number) same ∙ ap number_of none in
      let fewer : g.turns.left - 1 ≡ n = omega (arith, left) in (
        (ap (λ (u : Sliced). u.job) same, (λ i. out_of of (is.0 i) assoc text (is.1 i) b) ∙ s.1),
        ap (λ (k : ℕ). pick (eqb k 100) (g.turns.left - 1) 0) hundred ∙ fewer,
      )

  enough : (b n p : ℕ) (g : Going) → Standing p g → g.turns.left ≡ n → last ≤ p + n * b → last ≤ p + turns_had of assoc text b n g * b
  unfolding turns_had
  enough b zero p g is left most = most
  enough b (suc n) p g is left most =
      let had = ap (λ (z : Bool). pick z 0 (suc (turns_had of assoc text b n (turn of assoc text b g)))) (ne_eqb g.turns.left 0 (λ z. omega (arith, left, z))) in
      subst (λ (k : ℕ). last ≤ p + k * b) (sym had)
      (elim (dec_lt (p + b) last) [
        | yes y ↦ let on = going_on b p n g is left y in omega (arith, enough b n (p + b) (turn of assoc text b g) on.0 on.1 (omega (arith, most)))
        | no k ↦ omega arith
      ])

  -- given turns whose budgets have all of the job's rounds, the task takes it to its end
  pub task_ends : (budget turns : ℕ) (r : Kept) (out' : List ℕ) → RunsTask of j assoc text out budget turns r out' → last ≤ turns * budget → last ≤ r.turns.served * budget
  unfolding sliced sum
  task_ends budget turns r out' e most =
      let z = budgets of laws j assoc text out h [] in
      let all = enough budget turns 0 (first j out turns) (ap Progress.job z, ap Progress.out z) refl (omega (arith, most)) in
      subst (λ (k : ℕ). last ≤ k * budget) (sym (served_all of assoc text budget j out turns r out' e)) (omega (arith, all))
