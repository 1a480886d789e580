-- A job from a beginning, of any instance, as the records of isap and the laws of its scheme have it: after n rounds, and after any row of
-- budgets with the sum n, which are one; how long it lasts, and how it has ended by then. Such a job of an instance of ISAP is one of which
-- mode's theorems speak, and one of Spook, if all that it is given is bytes, one of which s1p's do.
-- Assumes nothing.
use Rattle.std.specs.Prelude.{◌≡◌, Bool, true, false, List, ◌++◌, ℕ, ◌*◌, ◌≤◌, ◌<◌, min, ltb, length, take, drop}
use Rattle.std.proofs.Common.{sym, ◌∙◌, arith, eqb-true, eq-eqb, ne_eqb, lt-ltb, le-ltb}
use Rattle.std.proofs.Math.Path.{ap, ap₂, subst}
use Rattle.bits.specs.Pick.{pick}
use Rattle.bits.specs.Every.{passes_at}
use Rattle.stopping.specs.Course.{Course, accepted, lasts, halted, ended_by, ending_of}
use Rattle.stopping.specs.Follows.{following}
use Rattle.scheme.specs.Machine.{Machine, Input, Buffer}
use Rattle.scheme.specs.Scheme.{Scheme}
use Rattle.scheme.specs.Lawful as schemes
use Rattle.scheme.specs.Lawful.{Given}
use Rattle.mode.specs.Parts as mode
use Rattle.mode.specs.Instances.{params_of}
use Rattle.mode.specs.Isap.{isap_scheme}
use Rattle.mode.specs.Theorems.{Ready}
use Rattle.s1p.specs.Parts as s1p
use Rattle.s1p.specs.Scheme.{s1p_scheme}
use Rattle.s1p.specs.Spook.{spook, spook_scheme}
use Rattle.instances.specs.Schemes.{is_spook, scheme_of, scheme-spook, scheme_isap, lawful-scheme, scheme-fits}
use Rattle.isap.specs.declared.Job.{Job}
use Rattle.isap.specs.Records.{input_of, machine_of, course_of, front_of, back_of}
use Rattle.isap.specs.Reached.{Begun, at}
use Rattle.isap.specs.Lasts.{opening_seals_not, begun-ready}
use Rattle.isap.specs.Slices.{ending_right, stands_of}
use Rattle.isap.specs.Budgets.{Progress, sum, sliced, budgets}

-- ---- a job of any instance

-- from a beginning, with what belongs to it lent
pub record BegunJob (j : Job) (assoc text out : List ℕ) : Type 0 where
  pub begun : Begun scheme_of j assoc text out
  pub key : length j.key ≡ 16
  pub nonce : length j.nonce ≡ 16

-- after n rounds, a job that lasts so many and then ends so: 1 well, 2 by a wrong tag
pub record Ends (last how n : ℕ) (q : Progress) : Type 0 where
  pub rounds : q.rounds ≡ min n last
  pub ending : q.job.ending ≡ pick (ltb n last) 0 how

-- an output of which w blocks of b bytes are written: those of the text y, and beyond them the bytes that were lent
abbrev pub blocks_over : (b w : ℕ) → (y out : List ℕ) → List ℕ
blocks_over b w y out = take (w * b) y ++ drop (w * b) out

module _ (j : Job) (assoc text out : List ℕ) (h : BegunJob j assoc text out) where
  abbrev x : Input
  x = input_of j assoc text

  abbrev m : Machine
  m = machine_of j out

  abbrev c : Course Machine
  c = course_of scheme_of j assoc text

  -- its record, its output and its rounds after n rounds, or at its end if that comes first
  unfoldable pub after_rounds : ℕ → Progress
  after_rounds n =
      record {
        job = at scheme_of lawful-scheme j assoc text out h.begun n;
        out = (halted (course_of scheme_of j assoc text) n (machine_of j out)).out;
        rounds = min n (lasts (course_of scheme_of j assoc text) (machine_of j out));
      }

  -- what holds after every number n of rounds, and after every row of budgets with the sum n
  pub record Throughout (P : ℕ → Progress → Type 0) : Type 0 where
    pub rounds : (n : ℕ) → P n (after_rounds n)
    pub slices : (bs : List ℕ) → P (sum bs) (sliced scheme_of assoc text bs (record { job = j; out = out; rounds = 0 }))

  -- the first gives the second
  pub throughout : (P : ℕ → Progress → Type 0) → ((n : ℕ) → P n (after_rounds n)) → Throughout P
  unfolding after_rounds
  throughout P e =
      record { rounds = e; slices = λ bs. subst (P (sum bs)) (sym (budgets scheme_of lawful-scheme j assoc text out h.begun bs)) (e (sum bs)) }

  -- ---- its end

  -- by what is decided, and how long it lasts
  pub ends : (b : Bool) (last : ℕ) → accepted (course_of scheme_of j assoc text) (machine_of j out) ≡ b
      → lasts (course_of scheme_of j assoc text) (machine_of j out) ≡ last → Throughout (Ends last (pick b 1 2))
  unfolding after_rounds at following ended_by
  ends b last e f =
      throughout (Ends last (pick b 1 2))
      (λ n. record { rounds = ap (min n) f; ending = ap₂ (λ (k : ℕ) (ok : Bool). pick (ltb n k) 0 (pick ok 1 2)) f e })

  -- before its end it has not ended, at its end it has
  pub unended_at : (k last how : ℕ) → k < last → Throughout (Ends last how) → Throughout (λ n q. n ≡ k → q.job.ending ≡ 0)
  unended_at k last how before all =
      record { rounds = λ n e. (all.rounds n).ending ∙ on n e; slices = λ bs e. (all.slices bs).ending ∙ on (sum bs) e }
    where
      on : (n : ℕ) → n ≡ k → ◌≡◌ {A = ℕ} (pick (ltb n last) 0 how) 0
      on n e = ap (λ (b : Bool). pick b 0 how) (lt-ltb n last (omega (arith, e, before)))

  pub ended_at : (last how : ℕ) → Throughout (Ends last how) → Throughout (λ n q. n ≡ last → q.job.ending ≡ how)
  ended_at last how all =
      record { rounds = λ n e. (all.rounds n).ending ∙ on n e; slices = λ bs e. (all.slices bs).ending ∙ on (sum bs) e }
    where
      on : (n : ℕ) → n ≡ last → pick (ltb n last) 0 how ≡ how
      on n e = ap (λ (b : Bool). pick b 0 how) (le-ltb n last (omega (arith, e)))

  -- ---- by the scheme of its instance

  module _ (s : Scheme) (is : scheme_of j.instance ≡ s) where
    ready_of : schemes.Ready s x m
    ready_of = subst (λ (s : Scheme). schemes.Ready s x m) is (begun-ready scheme_of j assoc text out h.begun (scheme-fits j.instance))

    course_of_lem : c ≡ s.course x
    unfolding course_of
    course_of_lem = ap (λ (s : Scheme). s.course x) is

-- no record of any instance can stand, not even a forged one, that is an opening ended well at its decision with rounds left after it
pub none_well_decided : (j : Job) → stands_of scheme_of j ≡ true → j.direction ≡ 2 → j.done ≡ front_of scheme_of j → (back_of scheme_of j ≡ 0 → ⊥)
    → j.ending ≡ 1 → ⊥
unfolding stands_of ending_right ending_of
none_well_decided j stands d v some e =
    let opens = opening_seals_not j.direction d in
    let allowed = passes_at _ stands 2 in
    let not_refused = ne_eqb j.ending 2 (λ two. omega (arith, e, two)) in
    let on = simp (opens, not_refused, eq-eqb j.done (front_of scheme_of j) v, ne_eqb (back_of scheme_of j) 0 some) at allowed in
    omega (arith, e, eqb-true j.ending 0 on)

-- ---- of ISAP

pub record IsapJob (j : Job) (assoc text out : List ℕ) : Type 0 where
  pub job : BegunJob j assoc text out
  pub isap : is_spook j.instance ≡ false

module _ (j : Job) (assoc text out : List ℕ) (h : IsapJob j assoc text out) where
  pub isap_ready : Ready (params_of j.instance) (input_of j assoc text) (machine_of j out)
  unfolding isap_scheme
  isap_ready =
      let r = ready_of j assoc text out h.job _ (scheme_isap j.instance h.isap) in
      record { state = r.state; session = r.session; out = r.out }

  pub isap_course : course_of scheme_of j assoc text ≡ mode.course (params_of j.instance) (input_of j assoc text)
  unfolding isap_scheme
  isap_course = course_of_lem j assoc text out h.job _ (scheme_isap j.instance h.isap)

  pub isap_fits : (params_of j.instance).n ≤ 64
  unfolding isap_scheme
  isap_fits = subst (λ (s : Scheme). s.n ≤ 64) (scheme_isap j.instance h.isap) (scheme-fits j.instance)

-- ---- of Spook

-- all of it bytes, as every array and slice of u8 is: only on bytes does inverse Clyde undo Clyde
pub record SpookJob (j : Job) (assoc text out : List ℕ) : Type 0 where
  pub job : BegunJob j assoc text out
  pub spook : is_spook j.instance ≡ true
  pub given : Given spook_scheme (input_of j assoc text)
  pub tag : Buffer 16 j.tag

module _ (j : Job) (assoc text out : List ℕ) (h : SpookJob j assoc text out) where
  pub spook-ready : schemes.Ready spook_scheme (input_of j assoc text) (machine_of j out)
  spook-ready = ready_of j assoc text out h.job _ (scheme-spook j.instance h.spook)

  pub spook-course : course_of scheme_of j assoc text ≡ s1p.course spook (input_of j assoc text)
  unfolding s1p_scheme
  spook-course = course_of_lem j assoc text out h.job _ (scheme-spook j.instance h.spook)
