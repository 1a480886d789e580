-- A job begun and sliced by any row of budgets is the algorithm stopped after as many rounds.
-- Assumes nothing.
use Rattle.std.specs.Prelude.{◌≡◌, refl, Bool, true, false, eqb, ltb, length}
use Rattle.std.proofs.Math.Path.{sym, ap, ap₂}
use Rattle.std.proofs.Common.{◌∙◌}
use mathlib.Core.List.{List, [], ◌∷◌}
use Prim.Native.Nat.{ℕ, ◌+◌, ◌-◌, ◌≤◌, ◌<◌, min}
use Rattle.std.proofs.Math.Decide.{dec_lt}
use native.Mathlib.Omega.{arith}
use borrow.Author.Tests.{eq-eqb, lt-ltb, le-ltb}
use Rattle.bits.specs.Pick.{pick}
use Rattle.bits.specs.Every.{passes}
use Rattle.stopping.specs.Stopped.{stopped}
use Rattle.stopping.specs.Parts.{row}
use Rattle.stopping.specs.Course.{Course, Core, parts, accepted, lasts, halted, ended_by, steps, begun, Lawful}
use Rattle.stopping.specs.Follows.{steps-add, following, unended, ended, follows}
use Rattle.scheme.specs.Machine.{Machine}
use Rattle.scheme.specs.Scheme.{Scheme}
use Rattle.scheme.specs.Lawful.{LawfulScheme}
use Rattle.plan.specs.declared.places.Place.{Place}
use Rattle.isap.specs.declared.Job.{Job}
use Rattle.isap.specs.Records.{machine_of, course_of, shapes_of, after, ran}
use Rattle.isap.specs.Slices.{lent_of, number_of, refusal_of, answer, slice_of, out_of}
use Rattle.isap.specs.Beginnings.{begun_job}
use Rattle.isap.specs.Reached as reached
use Rattle.isap.specs.Reached.{Begun}

-- a job between two slices: its record, the output, and the rounds that its slices did
pub record Progress : Type 0 where
  pub job : Job
  pub out : List ℕ
  pub rounds : ℕ

unfoldable pub sum : List ℕ → ℕ
sum [] = 0
sum (b ∷ bs) = b + sum bs

module _ (of : ℕ → Scheme) where
  -- one slice
  unfoldable pub onward : (assoc text : List ℕ) → ℕ → Progress → Progress
  onward assoc text b q =
      record {
        job = (slice_of of q.job assoc text q.out b).job;
        out = out_of of q.job assoc text q.out b;
        rounds = q.rounds + (slice_of of q.job assoc text q.out b).rounds;
      }

  -- sliced by each budget of a row in turn
  unfoldable pub sliced : (assoc text : List ℕ) → List ℕ → Progress → Progress
  sliced assoc text [] q = q
  sliced assoc text (b ∷ bs) q = sliced assoc text bs (onward assoc text b q)

module _ (of : ℕ → Scheme) (laws : (i : ℕ) → LawfulScheme (of i)) where
  module _ (j : Job) (assoc text out : List ℕ) (h : Begun of j assoc text out) where
    abbrev c : Course Machine
    c = course_of of j assoc text

    abbrev m : Machine
    m = machine_of j out

    abbrev law : Lawful c
    law = reached.law of laws j assoc text out h

    -- its record after n rounds
    abbrev at : ℕ → Job
    at n = reached.at of laws j assoc text out h n

    -- ---- a slice of it

    lent_at : (n : ℕ) → lent_of (at n) assoc text (halted c n m).out ≡ true
    unfolding lent_of reached.at passes
    lent_at n =
        let a = eq-eqb (length assoc) j.assoc h.assoc_long in
        let t = eq-eqb (length text) j.text h.text_long in
        let o = eq-eqb (length (halted c n m).out) j.text (reached.out_long_lem of laws j assoc text out h n) in
        λ i. passes (a i ∷ t i ∷ o i ∷ [])

    refusal_at : (n : ℕ) → refusal_of of (at n) assoc text (halted c n m).out ≡ pick (eqb (ended_by c n m) 0) 0 10
    unfolding refusal_of reached.at following
    refusal_at n =
        let s = reached.stands_at_lem of laws j assoc text out h n in
        let g = lent_at n in
        λ i. pick (s i) (pick (eqb (ended_by c n m) 0) (pick (g i) 0 11) 10) 9

    ran_at : (n b : ℕ) → ran of (at n) assoc text (halted c n m).out b ≡ following c law m (n + b)
    unfolding ran course_of reached.at following
    ran_at n b = ap (steps c b) (sym (follows c law m n)) ∙ sym (steps-add c n b (begun m)) ∙ follows c law m (n + b)

    -- past its end nothing changes
    stays : (n b : ℕ) → lasts c m ≤ n → following c law m n ≡ following c law m (n + b)
    unfolding following halted
    stays n b k =
        let e : min n (lasts c m) ≡ min (n + b) (lasts c m) = omega arith in
        let z = ended c law m n k ∙ sym (ended c law m (n + b) (omega arith)) in
        λ i. record { machine = stopped (row (parts c)) (e i) m; done = e i; ending = z i }

    refusal_on : (n : ℕ) → n < lasts c m → refusal_of of (at n) assoc text (halted c n m).out ≡ 0
    refusal_on n y = refusal_at n ∙ ap (λ (e : ℕ). pick (eqb e 0) 0 10) (unended c law m n y)

    refusal_over : (n : ℕ) → lasts c m ≤ n → refusal_of of (at n) assoc text (halted c n m).out ≡ 10
    refusal_over n k = refusal_at n ∙ ap (λ (e : ℕ). pick (eqb e 0) 0 10) (ended c law m n k) ∙ go (accepted c m)
      where
        go : (b : Bool) → ◌≡◌ {A = ℕ} (pick (eqb (pick b 1 2) 0) 0 10) 10
        go true = refl
        go false = refl

    slice_on : (n b : ℕ) → n < lasts c m → slice_of of (at n) assoc text (halted c n m).out b
        ≡ record { number = number_of (ended_by c (n + b) m); rounds = min (n + b) (lasts c m) - n; job = at (n + b) }
    unfolding slice_of answer reached.at following shapes_of
    slice_on n b y =
        let r = refusal_on n y in
        let d : min n (lasts c m) ≡ n = omega arith in
        (λ i. pick (eqb (r i) 0) (answer of (at n) assoc text (halted c n m).out b) (record { number = r i; rounds = 0; job = at n }))
        ∙ (λ i. record { number = number_of (ran_at n b i).ending; rounds = (ran_at n b i).done - d i; job = after of j (ran_at n b i) })

    out_on : (n b : ℕ) → n < lasts c m → out_of of (at n) assoc text (halted c n m).out b ≡ (halted c (n + b) m).out
    unfolding out_of following
    out_on n b y =
        ap (λ (r : ℕ). pick (eqb r 0) (ran of (at n) assoc text (halted c n m).out b).machine.out (halted c n m).out) (refusal_on n y)
        ∙ ap (λ (k : Core Machine). k.machine.out) (ran_at n b)

    slice_over : (n b : ℕ) → lasts c m ≤ n → slice_of of (at n) assoc text (halted c n m).out b ≡ record { number = 10; rounds = 0; job = at n }
    unfolding slice_of
    slice_over n b k =
        let r = refusal_over n k in
        λ i. pick (eqb (r i) 0) (answer of (at n) assoc text (halted c n m).out b) (record { number = r i; rounds = 0; job = at n })

    out_over : (n b : ℕ) → lasts c m ≤ n → out_of of (at n) assoc text (halted c n m).out b ≡ (halted c (n + b) m).out
    unfolding out_of following
    out_over n b k =
        ap (λ (r : ℕ). pick (eqb r 0) (ran of (at n) assoc text (halted c n m).out b).machine.out (halted c n m).out) (refusal_over n k)
        ∙ ap (λ (u : Core Machine). u.machine.out) (stays n b k)

    -- unended it does as many rounds as the budget has, ended it is refused
    pub slice_at : (n b : ℕ)
        → (slice_of of (at n) assoc text (halted c n m).out b
        ≡ pick (ltb n (lasts c m)) (record { number = number_of (ended_by c (n + b) m); rounds = min (n + b) (lasts c m) - n; job = at (n + b) })
        (record { number = 10; rounds = 0; job = at n }))
        × (out_of of (at n) assoc text (halted c n m).out b ≡ (halted c (n + b) m).out)
    slice_at n b =
        elim (dec_lt n (lasts c m)) [
          | yes y ↦ (rw (lt-ltb n (lasts c m) y) (slice_on n b y), out_on n b y)
          | no k ↦ (rw (le-ltb n (lasts c m) (omega arith)) (slice_over n b (omega arith)), out_over n b (omega arith))
        ]

    -- ---- a row of slices

    unfoldable stand : ℕ → Progress
    stand n = record { job = at n; out = (halted c n m).out; rounds = min n (lasts c m) }

    onward_at : (n b : ℕ) → onward of assoc text b (stand n) ≡ stand (n + b)
    unfolding onward stand reached.at
    onward_at n b =
        let o = (slice_at n b).1 in
        elim (dec_lt n (lasts c m)) [
          | yes y ↦
              let s = slice_on n b y in
              let r : min n (lasts c m) + (min (n + b) (lasts c m) - n) ≡ min (n + b) (lasts c m) = omega arith in
              (λ i. record { job = (s i).job; out = o i; rounds = min n (lasts c m) + (s i).rounds })
              ∙ ap (λ (k : ℕ). record { job = at (n + b); out = (halted c (n + b) m).out; rounds = k }) r
          | no k ↦
              let l : lasts c m ≤ n = omega arith in
              let s = slice_over n b l in
              let r : min n (lasts c m) + 0 ≡ min (n + b) (lasts c m) = omega arith in
              (λ i. record { job = (s i).job; out = o i; rounds = min n (lasts c m) + (s i).rounds })
              ∙ ap₂ (λ (u : Core Machine) (k : ℕ). record { job = after of j u; out = (halted c (n + b) m).out; rounds = k }) (stays n b l) r
        ]

    onwards : (bs : List ℕ) (n : ℕ) → sliced of assoc text bs (stand n) ≡ stand (n + sum bs)
    unfolding sliced sum
    onwards [] n = ap stand (omega arith)
    onwards (b ∷ bs) n = ap (sliced of assoc text bs) (onward_at n b) ∙ onwards bs (n + b) ∙ ap stand (omega arith)

    -- before the first round
    stand_first : record { job = j; out = out; rounds = 0 } ≡ stand 0
    unfolding stand reached.at steps following shapes_of begun_job
    stand_first =
        let z : 0 ≡ min 0 (lasts c m) = omega arith in
        let d = ap (λ (y : Job). y.done) h.is_begun in
        let w = ap (λ (y : Job). y.place) h.is_begun in
        let e = ap (λ (y : Job). y.ending) h.is_begun in
        let k = follows c law m 0 in
        (λ i. record { job = standing (d i) (w i) (e i); out = out; rounds = z i })
        ∙ ap (λ (u : Core Machine). record { job = after of j u; out = u.machine.out; rounds = min 0 (lasts c m) }) k
      where
        standing : ℕ → Place → ℕ → Job
        standing d w e =
            record {
              instance = j.instance;
              direction = j.direction;
              assoc = j.assoc;
              text = j.text;
              key = j.key;
              nonce = j.nonce;
              tag = j.tag;
              done = d;
              place = w;
              ending = e;
              state = j.state;
              session = j.session;
            }

    -- however its rounds are cut into budgets, it is the algorithm stopped after as many
    pub budgets : (bs : List ℕ) → sliced of assoc text bs (record { job = j; out = out; rounds = 0 })
        ≡ record { job = at (sum bs); out = (halted c (sum bs) m).out; rounds = min (sum bs) (lasts c m) }
    unfolding stand
    budgets bs = let z : 0 + sum bs ≡ sum bs = omega arith in ap (sliced of assoc text bs) stand_first ∙ onwards bs 0 ∙ ap stand z
