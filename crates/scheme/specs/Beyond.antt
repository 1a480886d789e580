-- The bytes beyond the first n of the state and of the session, in any number of steps from any job: they are left as they were, and with
-- others in their place the same steps are done.
-- Assumes nothing.
use Rattle.std.specs.Prelude.{◌≡◌, List, ◌++◌, ℕ, ◌≤◌, length, take, drop}
use Rattle.std.proofs.Common.{sym, ap, ap₂, ◌∙◌, take-append-drop, length-take-le, take_at, drop_at}
use Rattle.stopping.specs.Course.{Course, Core, steps}
use Rattle.scheme.specs.Machine.{Machine, Input, Exact}
use Rattle.scheme.specs.Blind.{core_tails}
use Rattle.scheme.specs.Scheme.{Scheme}
use Rattle.scheme.specs.Lawful.{Keyed, LawfulScheme, exact, beyond}

-- a job with t behind the first n bytes of its state, and v behind those of its session bytes
abbrev pub core-others : (n : ℕ) → (t v : List ℕ) → Core Machine → Core Machine
core-others n t v j =
    record {
      machine = record { state = take n j.machine.state ++ t; session = take n j.machine.session ++ v; out = j.machine.out; tag = j.machine.tag };
      done = j.done;
      ending = j.ending;
    }

module _ (s : Scheme) (l : LawfulScheme s) (x : Input) (h : Keyed s x) (k : ℕ) (j : Core Machine)
    (room : s.n ≤ length j.machine.state) (room' : s.n ≤ length j.machine.session) where
  abbrev c : Course Machine
  c = s.course x

  -- its first n bytes alone
  abbrev front : Core Machine
  front =
      record {
        machine = record { state = take s.n j.machine.state; session = take s.n j.machine.session; out = j.machine.out; tag = j.machine.tag };
        done = j.done;
        ending = j.ending;
      }

  front-exact : Exact s.n front.machine
  front-exact =
      record { state = length-take-le s.n j.machine.state room; session = length-take-le s.n j.machine.session room' }

  stepped_exact : Exact s.n (steps c k front).machine
  stepped_exact = exact s l x h k front front-exact

  abbrev rest : List ℕ
  rest = drop s.n j.machine.state

  abbrev rest' : List ℕ
  rest' = drop s.n j.machine.session

  -- what the steps leave: that of the first n bytes, and the rest behind it
  stepped : steps c k j ≡ core_tails rest rest' (steps c k front)
  stepped =
      let e = sym (take-append-drop s.n j.machine.state) in
      let f = sym (take-append-drop s.n j.machine.session) in
      ap₂ (λ (a b : List ℕ). steps c k (record { machine = record { state = a; session = b; out = j.machine.out; tag = j.machine.tag }; done = j.done; ending = j.ending })) e f
      ∙ beyond s l x h rest rest' k front front-exact

  pub steps-others : (t v : List ℕ) → steps (s.course x) k (core-others s.n t v j) ≡ core-others s.n t v (steps (s.course x) k j)
  steps-others t v =
      let q = steps c k front in
      let e = sym (take_at q.machine.state rest s.n stepped_exact.state) in
      let f = sym (take_at q.machine.session rest' s.n stepped_exact.session) in
      beyond s l x h t v k front front-exact
      ∙ ap₂ (λ (a b : List ℕ). record { machine = record { state = a ++ t; session = b ++ v; out = q.machine.out; tag = q.machine.tag }; done = q.done; ending = q.ending }) e f
      ∙ ap (core-others s.n t v) (sym stepped)

  pub steps_leave_state : drop s.n (steps (s.course x) k j).machine.state ≡ drop s.n j.machine.state
  steps_leave_state =
      ap (λ (q : Core Machine). drop s.n q.machine.state) stepped ∙ drop_at (steps c k front).machine.state rest s.n stepped_exact.state

  pub steps_leave_session : drop s.n (steps (s.course x) k j).machine.session ≡ drop s.n j.machine.session
  steps_leave_session =
      ap (λ (q : Core Machine). drop s.n q.machine.session) stepped
      ∙ drop_at (steps c k front).machine.session rest' s.n stepped_exact.session
