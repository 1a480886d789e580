-- A job beside a table of its records: where each line is one step from the line before it, the job after n steps is the n-th line.
-- Assumes nothing.
use Rattle.std.specs.Prelude.{◌≡◌, refl, Bool, true, ◌&&◌, List, [], ◌∷◌, ℕ, zero, suc, ◌<◌, eqb, length, get_or}
use Rattle.std.proofs.Common.{ap, ◌∙◌, arith, eqb-true}
use Rattle.bits.specs.BigEndian.{be_bytes}
use Rattle.bits.specs.Every.{and_left, and_right}
use Rattle.bits.specs.Strings.{same}
use Rattle.bits.specs.StringLaws.{same_true}
use Rattle.stopping.specs.Course.{Course, Core, step, steps}
use Rattle.scheme.specs.Machine.{Machine, machine}

-- A record, its output of so many bytes, after so many rounds. A string is written as a number, its first byte most significant.
abbrev pub line : (length done ending state session out tag : ℕ) → Core Machine
line m d e s ss o g =
    record { machine = machine (be_bytes 64 s) (be_bytes 64 ss) (be_bytes m o) (be_bytes 16 g); done = d; ending = e }

-- ---- the test

unfoldable pub same_core : Core Machine → Core Machine → Bool
same_core a b =
    ((same a.machine.state b.machine.state && same a.machine.session b.machine.session)
    && (same a.machine.out b.machine.out && same a.machine.tag b.machine.tag))
    && (eqb a.done b.done && eqb a.ending b.ending)

-- each line is one step from the line before it, the first from a
unfoldable pub follows : Course Machine → Core Machine → List (Core Machine) → Bool
follows c a [] = true
follows c a (b ∷ l) = same_core (step c a) b && follows c b l

-- ---- what it shows

same-core : (a b : Core Machine) → same_core a b ≡ true → a ≡ b
unfolding same_core
same-core a b e =
    let s = same a.machine.state b.machine.state in
    let ss = same a.machine.session b.machine.session in
    let o = same a.machine.out b.machine.out in
    let g = same a.machine.tag b.machine.tag in
    let d = eqb a.done b.done in
    let f = eqb a.ending b.ending in
    let strings = and_left ((s && ss) && (o && g)) (d && f) e in
    let numbers = and_right ((s && ss) && (o && g)) (d && f) e in
    let e1 = same_true a.machine.state b.machine.state (and_left s ss (and_left (s && ss) (o && g) strings)) in
    let e2 = same_true a.machine.session b.machine.session (and_right s ss (and_left (s && ss) (o && g) strings)) in
    let e3 = same_true a.machine.out b.machine.out (and_left o g (and_right (s && ss) (o && g) strings)) in
    let e4 = same_true a.machine.tag b.machine.tag (and_right o g (and_right (s && ss) (o && g) strings)) in
    let e5 = eqb-true a.done b.done (and_left d f numbers) in
    let e6 = eqb-true a.ending b.ending (and_right d f numbers) in
    λ i. record { machine = machine (e1 i) (e2 i) (e3 i) (e4 i); done = e5 i; ending = e6 i }

-- after n steps from a the job is line n, a itself being line 0; d is whatever would stand behind the last
pub steps_follow : (c : Course Machine) (a d : Core Machine) (l : List (Core Machine)) → follows c a l ≡ true
    → (n : ℕ) → n < suc (length l) → steps c n a ≡ get_or (a ∷ l) n d
unfolding follows steps
steps_follow c a d l e zero h = refl
steps_follow c a d [] e (suc n) h = absurd (omega arith)
steps_follow c a d (b ∷ l) e (suc n) h =
    let t = same_core (step c a) b in
    ap (steps c n) (same-core (step c a) b (and_left t (follows c b l) e))
    ∙ steps_follow c b d l (and_right t (follows c b l) e) n (omega arith)
