-- What lies beyond the first n bytes of the state and of the session bytes is neither read nor changed: a job steps as if it were not there.
-- Assumes nothing.
use Rattle.std.specs.Prelude.{◌≡◌, Bool, eqb, length}
use Rattle.std.proofs.Math.Path.{refl, ap, subst}
use Rattle.std.proofs.Common.{sym, ◌∙◌}
use Rattle.std.proofs.Math.Bool.{true, false}
use mathlib.Core.List.{List, [], ◌∷◌, ◌++◌}
use Prim.Native.Nat.{ℕ, zero, suc}
use Rattle.bits.specs.Pick.{pick}
use Rattle.bits.specs.Run.{turns}
use Rattle.stopping.specs.Stopped.{entered, left, one, whole}
use Rattle.stopping.specs.Rows.{run, calls, run-append}
use Rattle.stopping.specs.Parts.{Part, call_of, part_row, row}
use Rattle.stopping.specs.Places.{Place, part_at, call_at}
use Rattle.stopping.specs.Course.{Course, Core, ending_of, parts, front_rounds, back_rounds, core_at, stands_at, step, steps}
use Rattle.scheme.specs.Machine.{Machine, first, with_tails, Exact}

-- the same of a job
abbrev pub core_tails : (t v : List ℕ) → Core Machine → Core Machine
core_tails t v j = record { machine = with_tails t v j.machine; done = j.done; ending = j.ending }

-- what is done with the first call of a part alone
pub first-within : (i : ℕ) (f : List ℕ → List ℕ) (s t : List ℕ) → f (s ++ t) ≡ f s ++ t → first i f (s ++ t) ≡ first i f s ++ t
first-within zero f s t h = h
first-within (suc i) f s t h = refl

pub first-exact : (i : ℕ) (f : List ℕ → List ℕ) (s : List ℕ) → length (f s) ≡ length s → length (first i f s) ≡ length s
first-exact zero f s h = h
first-exact (suc i) f s h = refl

-- ---- what neither reads nor changes what lies beyond

pub record Blind (n : ℕ) (f : Machine → Machine) : Type 0 where
  pub keeps : (m : Machine) → Exact n m → Exact n (f m)
  pub apart : (t v : List ℕ) (m : Machine) → Exact n m → f (with_tails t v m) ≡ with_tails t v (f m)

pub record BlindPart (n : ℕ) (c : Part Machine) : Type 0 where
  pub enter : (i : ℕ) → Blind n (c.enter i)
  pub turn : (k : ℕ) → Blind n (c.turn k)
  pub leave : (i : ℕ) → Blind n (c.leave i)

unfoldable pub BlindParts : ℕ → List (Part Machine) → Type 0
BlindParts n [] = Unit {0}
BlindParts n (c ∷ cs) = BlindPart n c × BlindParts n cs

pub record BlindCourse (n : ℕ) (c : Course Machine) : Type 0 where
  pub all : BlindParts n (parts c)
  pub decides : (t v : List ℕ) (m : Machine) → Exact n m → c.accepts (with_tails t v m) ≡ c.accepts m

module _ (n : ℕ) where
  pub blind_none : Blind n (λ m. m)
  blind_none = record { keeps = λ m h. h; apart = λ t v m h. refl }

  -- what changes the state alone
  pub state_blind : (f : Machine → List ℕ) → ((m : Machine) → Exact n m → length (f m) ≡ length m.state)
      → ((t v : List ℕ) (m : Machine) → Exact n m → f (with_tails t v m) ≡ f m ++ t)
      → Blind n (λ m. record { state = f m; session = m.session; out = m.out; tag = m.tag })
  state_blind f a b =
      record {
        keeps = λ m h. record { state = a m h ∙ h.state; session = h.session };
        apart = λ t v m h. ap (λ (s : List ℕ). record { state = s; session = m.session ++ v; out = m.out; tag = m.tag }) (b t v m h);
      }

  blind_then : (f g : Machine → Machine) → Blind n f → Blind n g → Blind n (λ m. g (f m))
  blind_then f g a b =
      record {
        keeps = λ m h. b.keeps (f m) (a.keeps m h);
        apart = λ t v m h. ap g (a.apart t v m h) ∙ b.apart t v (f m) (a.keeps m h);
      }

  blind-entered : (c : Part Machine) (i k : ℕ) → BlindPart n c → Blind n (entered (call_of c i) k)
  unfolding entered call_of
  blind-entered c i zero h = h.enter i
  blind-entered c i (suc k) h = blind_none

  blind-left : (c : Part Machine) (i k : ℕ) → BlindPart n c → Blind n (left (call_of c i) k)
  unfolding left call_of
  blind-left c i k h = go (eqb (suc k) c.shape.rounds)
    where
      go : (b : Bool) → Blind n (λ m. pick b (c.leave i m) m)
      go true = h.leave i
      go false = blind_none

  blind_one : (c : Part Machine) (i k : ℕ) → BlindPart n c → Blind n (one (call_of c i) k)
  unfolding one call_of
  blind_one c i k h =
      blind_then (λ m. c.turn k (entered (call_of c i) k m)) (left (call_of c i) k)
      (blind_then (entered (call_of c i) k) (c.turn k) (blind-entered c i k h) (h.turn k)) (blind-left c i k h)

  -- past the last part nothing is done
  blind-part : (cs : List (Part Machine)) → BlindParts n cs → (j : ℕ) → BlindPart n (part_at cs j)
  unfolding part_at BlindParts
  blind-part [] h j = record { enter = λ i. blind_none; turn = λ k. blind_none; leave = λ i. blind_none }
  blind-part (c ∷ cs) h zero = h.0
  blind-part (c ∷ cs) h (suc j) = blind-part cs h.1 j

  blind_at : (cs : List (Part Machine)) → BlindParts n cs → (w : Place) (k : ℕ) → Blind n (one (call_at cs w) k)
  unfolding call_at
  blind_at cs h w k = blind_one (part_at cs w.part) w.call k (blind-part cs h w.part)

  pub blind-append : (cs ds : List (Part Machine)) → BlindParts n cs → BlindParts n ds → BlindParts n (cs ++ ds)
  unfolding BlindParts
  blind-append [] ds h k = k
  blind-append (c ∷ cs) ds h k = (h.0, blind-append cs ds h.1 k)

  -- ---- rows done whole

  blind-turns : (t : ℕ → Machine → Machine) → ((k : ℕ) → Blind n (t k)) → (k : ℕ) → Blind n (turns t k)
  unfolding turns
  blind-turns t h zero = blind_none
  blind-turns t h (suc k) = blind_then (turns t k) (t k) (blind-turns t h k) (h k)

  blind-whole : (c : Part Machine) (i : ℕ) → BlindPart n c → Blind n (whole (call_of c i))
  unfolding whole call_of
  blind-whole c i h =
      blind_then (λ m. turns c.turn c.shape.rounds (c.enter i m)) (c.leave i)
      (blind_then (c.enter i) (turns c.turn c.shape.rounds) (h.enter i) (blind-turns c.turn h.turn c.shape.rounds)) (h.leave i)

  blind-calls : (c : Part Machine) → BlindPart n c → (k i : ℕ) → Blind n (run (calls (call_of c) i k))
  unfolding run calls
  blind-calls c h zero i = blind_none
  blind-calls c h (suc k) i =
      blind_then (whole (call_of c i)) (run (calls (call_of c) (suc i) k)) (blind-whole c i h) (blind-calls c h k (suc i))

  pub blind-run : (cs : List (Part Machine)) → BlindParts n cs → Blind n (run (row cs))
  unfolding run row part_row BlindParts
  blind-run [] h = blind_none
  blind-run (c ∷ cs) h =
      let f : Machine → Machine = run (part_row c) in
      let g : Machine → Machine = run (row cs) in
      let b : Blind n (λ m. g (f m)) = blind_then f g (blind-calls c h.0 c.shape.count 0) (blind-run cs h.1) in
      record {
        keeps = λ m e. subst (Exact n) (sym (run-append (part_row c) (row cs) m)) (b.keeps m e);
        apart = λ t v m e.
            run-append (part_row c) (row cs) (with_tails t v m) ∙ b.apart t v m e ∙ ap (with_tails t v) (sym (run-append (part_row c) (row cs) m));
      }

  -- ---- a job's steps

  module _ (c : Course Machine) (h : BlindCourse n c) where
    round-blind : (d : ℕ) → Blind n (one (call_at (parts c) (stands_at c d)) (stands_at c d).round)
    round-blind d = blind_at (parts c) h.all (stands_at c d) (stands_at c d).round

    step-exact : (j : Core Machine) → Exact n j.machine → Exact n (step c j).machine
    unfolding step
    step-exact j e = go (eqb j.ending 0)
      where
        go : (b : Bool) → Exact n (pick b (core_at c (suc j.done) (one (call_at (parts c) (stands_at c j.done)) (stands_at c j.done).round j.machine)) j).machine
        go true = (round-blind j.done).keeps j.machine e
        go false = e

    step_tails : (t v : List ℕ) (j : Core Machine) → Exact n j.machine → step c (core_tails t v j) ≡ core_tails t v (step c j)
    unfolding step
    step_tails t v j e = go (eqb j.ending 0)
      where
        go : (b : Bool)
            → pick b (core_at c (suc j.done) (one (call_at (parts c) (stands_at c j.done)) (stands_at c j.done).round (with_tails t v j.machine))) (core_tails t v j)
            ≡ core_tails t v (pick b (core_at c (suc j.done) (one (call_at (parts c) (stands_at c j.done)) (stands_at c j.done).round j.machine)) j)
        go true =
            let m = one (call_at (parts c) (stands_at c j.done)) (stands_at c j.done).round j.machine in
            ap (core_at c (suc j.done)) ((round-blind j.done).apart t v j.machine e)
            ∙ ap
            (λ (ok : Bool). record { machine = with_tails t v m; done = suc j.done; ending = ending_of (front_rounds c) (back_rounds c) (suc j.done) ok })
            (h.decides t v m ((round-blind j.done).keeps j.machine e))
        go false = refl

    pub all_exact : (k : ℕ) (j : Core Machine) → Exact n j.machine → Exact n (steps c k j).machine
    unfolding steps
    all_exact zero j e = e
    all_exact (suc k) j e = all_exact k (step c j) (step-exact j e)

    pub all_tails : (t v : List ℕ) (k : ℕ) (j : Core Machine) → Exact n j.machine → steps c k (core_tails t v j) ≡ core_tails t v (steps c k j)
    unfolding steps
    all_tails t v zero j e = refl
    all_tails t v (suc k) j e = ap (steps c k) (step_tails t v j e) ∙ all_tails t v k (step c j) (step-exact j e)
