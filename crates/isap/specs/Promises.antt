-- What follows of slices and whole calls, on their definitions alone: a budget of 0 and a slice after the end; slices to the end give what the
-- whole call gives; opening what sealing gave gives the message back.
-- Assumes nothing.
use Rattle.std.specs.Prelude.{◌≡◌, Bool, true, ◌⊎◌, length}
use Rattle.std.proofs.Math.Path.{refl, sym, ap, subst}
use Rattle.std.proofs.Common.{◌∙◌, inl, inr}
use Rattle.std.proofs.Math.Bool.{false}
use mathlib.Core.List.{List}
use Prim.Native.Nat.{ℕ, ◌+◌, ◌-◌, ◌≤◌, ◌<◌, min}
use native.Mathlib.Omega.{arith}
use Rattle.std.proofs.Math.ListN.{replicate}
use borrow.Author.Tests.{eq-eqb, lt-ltb, le-ltb}
use Rattle.bits.specs.Pick.{pick}
use Rattle.bits.specs.Bytes.{Bytes}
use Rattle.stopping.specs.Stopped.{stopped}
use Rattle.stopping.specs.Parts.{row}
use Rattle.stopping.specs.Course.{parts, lasts, halted, ended_by}
use Rattle.stopping.specs.Follows.{following, unended}
use Rattle.scheme.specs.Machine.{Opened, Buffer}
use Rattle.scheme.specs.Scheme.{Scheme, all_count}
use Rattle.scheme.specs.Lawful.{Given, LawfulScheme}
use Rattle.isap.specs.declared.Job.{Job}
use Rattle.isap.specs.declared.Answer.{Answer}
use Rattle.isap.specs.Records.{course_of, machine_of, ran}
use Rattle.isap.specs.Slices.{number_of, slice_of, out_of}
use Rattle.isap.specs.Beginnings.{limits_refusal, begun_job}
use Rattle.isap.specs.Whole.{refusal_for, seal_of, seal_out, seal_tag, open_of, open_out, opened_answer, opened_out}
use Rattle.isap.specs.Statements.{Seals, Opens}
use Rattle.isap.specs.Fits.{Fits, fits, unrefused}
use Rattle.isap.specs.Runs.{runs, sealing_answer, sealing_writes, sealing_tags, opening_answer, opening_writes}
use Rattle.isap.specs.Reached.{Begun, law, at}
use Rattle.isap.specs.Budgets.{Progress, sliced, sum, slice_at, budgets}

module _ (of : ℕ → Scheme) (laws : (i : ℕ) → LawfulScheme (of i)) where
  -- ---- a budget of 0, and a slice after the end

  module _ (j : Job) (assoc text out : List ℕ) (h : Begun of j assoc text out) (n : ℕ) where
    abbrev reached : List ℕ
    reached = (halted (course_of of j assoc text) n (machine_of j out)).out

    pub no_budget : n < lasts (course_of of j assoc text) (machine_of j out)
        → slice_of of (at of laws j assoc text out h n) assoc text reached 0 ≡ record { number = 100; rounds = 0; job = at of laws j assoc text out h n }
    unfolding number_of
    no_budget l =
        let c = course_of of j assoc text in
        let m = machine_of j out in
        let e : n + 0 ≡ n = omega arith in
        let going : ended_by c (n + 0) m ≡ 0 = ap (λ (k : ℕ). ended_by c k m) e ∙ unended c (law of laws j assoc text out h) m n l in
        let none : min (n + 0) (lasts c m) - n ≡ 0 = omega (arith, l) in
        (slice_at of laws j assoc text out h n 0).0
        ∙ ap (λ (b : Bool). pick b (record { number = number_of (ended_by c (n + 0) m); rounds = min (n + 0) (lasts c m) - n; job = at of laws j assoc text out h (n + 0) }) (record { number = 10; rounds = 0; job = at of laws j assoc text out h n }))
        (lt-ltb n (lasts c m) l)
        ∙ (λ i. record { number = number_of (going i); rounds = none i; job = at of laws j assoc text out h (e i) })

    pub after_the_end : (budget : ℕ) → lasts (course_of of j assoc text) (machine_of j out) ≤ n
        → (slice_of of (at of laws j assoc text out h n) assoc text reached budget ≡ record { number = 10; rounds = 0; job = at of laws j assoc text out h n })
        × (out_of of (at of laws j assoc text out h n) assoc text reached budget ≡ reached)
    unfolding halted
    after_the_end budget l =
        let c = course_of of j assoc text in
        let m = machine_of j out in
        let past : min (n + budget) (lasts c m) ≡ min n (lasts c m) = omega (arith, l) in (
          (slice_at of laws j assoc text out h n budget).0
              ∙ ap (λ (b : Bool). pick b (record { number = number_of (ended_by c (n + budget) m); rounds = min (n + budget) (lasts c m) - n; job = at of laws j assoc text out h (n + budget) }) (record { number = 10; rounds = 0; job = at of laws j assoc text out h n }))
              (le-ltb n (lasts c m) l),
          (slice_at of laws j assoc text out h n budget).1 ∙ ap (λ (k : ℕ). (stopped (row (parts c)) k m).out) past,
        )

module _ (of : ℕ → Scheme) (laws : (i : ℕ) → LawfulScheme (of i)) (room : (i : ℕ) → (of i).n ≤ 64) where
  -- ---- slices to the end give what the whole call gives

  -- a job begun, and its row of budgets
  abbrev Row : (instance direction : ℕ) → (key nonce tag assoc text out : List ℕ) → List ℕ → Progress
  Row instance direction key nonce tag assoc text out bs =
      sliced of assoc text bs (record { job = begun_job of instance direction key nonce tag (length assoc) (length text); out = out; rounds = 0 })

  abbrev Total : (instance : ℕ) → (seals : Bool) → (assoc text : List ℕ) → ℕ
  Total instance seals assoc text = all_count (of instance) seals (length assoc) (length text)

  module _ (instance direction : ℕ) (key nonce tag assoc text out other : List ℕ) (h : Fits of instance key nonce assoc text out other)
      (way : (direction ≡ 1) ⊎ (direction ≡ 2)) (bs : List ℕ) where
    abbrev j : Job
    j = begun_job of instance direction key nonce tag (length assoc) (length text)

    is_begun_lem : Begun of j assoc text out
    unfolding begun_job
    is_begun_lem =
        record {
          is_known = h.is_known;
          is_direction = way;
          assoc_limit = h.assoc_limit;
          text_limit = h.text_limit;
          is_begun = refl;
          assoc_long = refl;
          text_long = refl;
          out_long = h.out_long;
        }

    -- what the slices leave is what as many rounds in one go leave
    row-runs : ((Row instance direction key nonce tag assoc text out bs).out ≡ (ran of j assoc text out (sum bs)).machine.out)
        × ((Row instance direction key nonce tag assoc text out bs).job.tag ≡ (ran of j assoc text out (sum bs)).machine.tag)
        × (◌≡◌ {A = Answer} (record { number = number_of (Row instance direction key nonce tag assoc text out bs).job.ending; rounds = (Row instance direction key nonce tag assoc text out bs).rounds })
        (record { number = number_of (ran of j assoc text out (sum bs)).ending; rounds = (ran of j assoc text out (sum bs)).done }))
    unfolding at following begun_job
    row-runs =
        let e = budgets of laws j assoc text out is_begun_lem bs in
        let r = sym (runs of laws room instance direction key nonce tag assoc text out h.key_long h.nonce_long h.out_long (sum bs)) in (
          ap Progress.out e ∙ (λ i. (r i).machine.out),
          ap (λ (q : Progress). q.job.tag) e ∙ (λ i. (r i).machine.tag),
          ap (λ (q : Progress). record { number = number_of q.job.ending; rounds = q.rounds }) e ∙ (λ i. record { number = number_of (r i).ending; rounds = (r i).done }),
        )

  module _ (instance : ℕ) (key nonce assoc text out tag : List ℕ) (none : refusal_for of instance key nonce assoc text out tag ≡ 0)
      (bs : List ℕ) (enough : Total instance true assoc text ≤ sum bs) where
    abbrev q : Progress
    q = Row instance 1 key nonce (replicate 16 0) assoc text out bs

    pub sealed_in_slices : Seals of instance key nonce assoc text out tag (record { number = number_of q.job.ending; rounds = q.rounds }) q.out q.job.tag
    unfolding seal_of seal_out seal_tag
    sealed_in_slices =
        let h = fits of instance key nonce assoc text out tag none in
        let z : List ℕ = replicate 16 0 in
        let r = row-runs instance 1 key nonce z assoc text out tag h (inl refl) bs in
        let yes = eq-eqb (refusal_for of instance key nonce assoc text out tag) 0 none in (
          r.2 ∙ sealing_answer of laws room instance 1 key nonce z assoc text out h.key_long h.nonce_long h.out_long (sum bs) enough refl ∙ rw yes,
          r.0 ∙ sealing_writes of laws room instance 1 key nonce z assoc text out h.key_long h.nonce_long h.out_long (sum bs) enough refl ∙ rw yes,
          r.1 ∙ sealing_tags of laws room instance 1 key nonce z assoc text out h.key_long h.nonce_long h.out_long (sum bs) enough refl ∙ rw yes,
        )

  module _ (instance : ℕ) (key nonce assoc text tag out : List ℕ) (none : refusal_for of instance key nonce assoc text out tag ≡ 0)
      (bytes : Given (of instance) (record { sealing = false; key = key; nonce = nonce; assoc = assoc; text = text })) (tagged : Buffer 16 tag) (bs : List ℕ) (enough : Total instance false assoc text ≤ sum bs) where
    abbrev q' : Progress
    q' = Row instance 2 key nonce tag assoc text out bs

    pub opened_in_slices : Opens of instance key nonce assoc text tag out (record { number = number_of q'.job.ending; rounds = q'.rounds }) q'.out
    unfolding open_of open_out
    opened_in_slices =
        let h = fits of instance key nonce assoc text out tag none in
        let r = row-runs instance 2 key nonce tag assoc text out tag h (inr refl) bs in
        let yes = eq-eqb (refusal_for of instance key nonce assoc text out tag) 0 none in (
          r.2 ∙ opening_answer of laws room instance 2 key nonce tag assoc text out h.key_long h.nonce_long h.out_long (sum bs) enough refl bytes tagged ∙ rw yes,
          r.0 ∙ opening_writes of laws room instance 2 key nonce tag assoc text out h.key_long h.nonce_long h.out_long (sum bs) enough refl bytes tagged ∙ rw yes,
        )

  -- ---- opening what sealing gave gives the message back

  module _ (instance : ℕ) (key nonce assoc text out tag : List ℕ) (none : refusal_for of instance key nonce assoc text out tag ≡ 0)
      (keys : Bytes key) (nonces : Bytes nonce) (assocs : Bytes assoc) (texts : Bytes text) (buffer : List ℕ) (long : length buffer ≡ length text) where
    abbrev cipher : List ℕ
    cipher = ((of instance).seal key nonce assoc text).cipher

    abbrev made : List ℕ
    made = ((of instance).seal key nonce assoc text).tag

    h : Fits of instance key nonce assoc text out tag
    h = fits of instance key nonce assoc text out tag none

    cipher_long_lem : length cipher ≡ length text
    cipher_long_lem = (laws instance).cipher_long key nonce assoc text h.key_long h.nonce_long

    made_long : length made ≡ 16
    made_long = (laws instance).tag_long key nonce assoc text h.key_long h.nonce_long

    taken : refusal_for of instance key nonce assoc cipher buffer made ≡ 0
    taken =
        unrefused of instance key nonce assoc cipher buffer made
        (subst (λ (n : ℕ). limits_refusal of instance (length key) (length nonce) (length assoc) n ≡ 0) (sym cipher_long_lem) h.limits) (long ∙ sym cipher_long_lem) made_long

    back : Opens of instance key nonce assoc cipher made buffer (record { number = 0; rounds = Total instance false assoc text }) text
    unfolding open_of open_out opened_answer opened_out
    back =
        let s = of instance in
        let yes = eq-eqb (refusal_for of instance key nonce assoc cipher buffer made) 0 taken in
        let message = (laws instance).open_sealed key nonce assoc text (record { long = h.key_long; bytes = keys }) (record { long = h.nonce_long; bytes = nonces }) assocs texts in (
          sym (ap (λ (n : ℕ). record { number = 0; rounds = all_count s false (length assoc) n }) cipher_long_lem)
              ∙ ap (opened_answer s (length assoc) (length cipher)) (sym message) ∙ rw yes,
          ap (λ (u : Opened). opened_out u buffer) (sym message) ∙ rw yes,
        )

    pub message_back : Opens of instance key nonce assoc (seal_out of instance key nonce assoc text out tag) (seal_tag of instance key nonce assoc text out tag) buffer
        (record { number = 0; rounds = Total instance false assoc text }) text
    unfolding seal_out seal_tag
    message_back =
        let yes = eq-eqb (refusal_for of instance key nonce assoc text out tag) 0 none in
        subst (λ (b : Bool). Opens of instance key nonce assoc (pick b cipher out) (pick b made tag) buffer (record { number = 0; rounds = Total instance false assoc text }) text) (sym yes) back
