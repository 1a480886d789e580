-- A part that writes the output block by block, each with the last round of its own call: stopped after n rounds, the blocks whose calls are
-- done are those of the end, and the others are as they were at the start. For no later round touches a block that is written, and
-- no earlier one touched a block that is not.
-- Assumes nothing.
use Rattle.std.specs.Prelude.{◌≡◌, ◌⊎◌, length}
use Rattle.std.proofs.Math.Path.{refl, sym, ap, ap₂, subst}
use Rattle.std.proofs.Common.{◌∙◌, zero-add, zero-mul, add-mul, take-append-drop}
use Rattle.std.proofs.Math.Logic.{inl, inr}
use mathlib.Core.List.{List, ◌∷◌, ◌++◌, append_assoc}
use Prim.Native.Nat.{ℕ, zero, suc, ◌+◌, ◌-◌, ◌*◌, ◌/◌, ◌≤◌, ◌<◌, min}
use Rattle.std.proofs.Math.Nat.{min-le_right, mul-le-mul_right, zero-div, div-add-mod', mod-lt}
use Rattle.std.proofs.Math.Decide.{dec_lt}
use native.Mathlib.Omega.{arith}
use Rattle.std.proofs.Math.ListN.{take, drop}
use Rattle.std.proofs.Math.Seq.{take-take, drop-drop}
use Rattle.stopping.specs.Stopped.{Call, stopped, total}
use Rattle.stopping.specs.Rows.{run, calls, run-append, stopped-back, total-calls}
use Rattle.stopping.specs.Parts.{Part, rounds_in, EachSome, call_of, part_row, row, shapes, row-append, total-row}
use Rattle.stopping.specs.Kept.{KeepsCall, KeepsParts, keeps-stopped, keeps-row}
use Rattle.stopping.specs.Since.{calls-add, keeps-run, keeps_range, until_leave, until_parts}
use Rattle.scheme.specs.Machine.{Machine}

-- an output of `long` bytes in blocks of b: nothing but the last round of call i touches it, and that touches block i alone
pub record Writes (b long : ℕ) (c : Part Machine) : Type 0 where
  pub enter : (i : ℕ) (m : Machine) → (c.enter i m).out ≡ m.out
  pub turn : (k : ℕ) (m : Machine) → (c.turn k m).out ≡ m.out
  pub before : (i : ℕ) (m : Machine) → i < c.shape.count → length m.out ≡ long
      → take (i * b) (c.leave i m).out ≡ take (i * b) m.out
  pub behind : (i : ℕ) (m : Machine) → i < c.shape.count → length m.out ≡ long
      → drop (suc i * b) (c.leave i m).out ≡ drop (suc i * b) m.out
  pub stays : (i : ℕ) (m : Machine) → i < c.shape.count → length m.out ≡ long → length (c.leave i m).out ≡ long

-- how many calls of the part c are done after n rounds of a row in which the parts bs come before it
unfoldable pub calls_done : (bs : List (Part Machine)) (c : Part Machine) → ℕ → ℕ
calls_done bs c n = min c.shape.count ((n - rounds_in (shapes bs)) / c.shape.rounds)

module _ (b long : ℕ) (c : Part Machine) (w : Writes b long c) where
  -- call j keeps of the output what its last round keeps
  call-keeps : (P : List ℕ → Type 0) (j : ℕ) → ((m : Machine) → P m.out → P (c.leave j m).out)
      → KeepsCall (λ (m : Machine). P m.out) (call_of c j)
  unfolding call_of
  call-keeps P j leave =
      record { enter = λ m p. subst P (sym (w.enter j m)) p; turn = λ k m p. subst P (sym (w.turn k m)) p; leave = leave }

  -- the first k blocks of an output, and the others
  Front : ℕ → List ℕ → List ℕ → Type 0
  Front k o s = (length s ≡ long) × (take (k * b) s ≡ o)

  Behind : ℕ → List ℕ → List ℕ → Type 0
  Behind k o s = (length s ≡ long) × (drop (k * b) s ≡ o)

  front-keeps : (k : ℕ) (o : List ℕ) (j : ℕ) → k ≤ j → j < c.shape.count → KeepsCall (λ (m : Machine). Front k o m.out) (call_of c j)
  unfolding Front
  front-keeps k o j h l =
      call-keeps (Front k o) j
      (λ m p. (
        w.stays j m l p.0,
        sym (nearer (c.leave j m).out) ∙ ap (take (k * b)) (w.before j m l p.0) ∙ nearer m.out ∙ p.1,
      ))
    where
      nearer : (s : List ℕ) → take (k * b) (take (j * b) s) ≡ take (k * b) s
      nearer s = take-take (k * b) (j * b) s (mul-le-mul_right b h)

  behind-keeps : (k : ℕ) (o : List ℕ) (j : ℕ) → j < k → j < c.shape.count → KeepsCall (λ (m : Machine). Behind k o m.out) (call_of c j)
  unfolding Behind
  behind-keeps k o j h l =
      call-keeps (Behind k o) j
      (λ m p. (
        w.stays j m l p.0,
        sym (further (c.leave j m).out) ∙ ap (drop ((k - suc j) * b)) (w.behind j m l p.0) ∙ further m.out ∙ p.1,
      ))
    where
      further : (s : List ℕ) → drop ((k - suc j) * b) (drop (suc j * b) s) ≡ drop (k * b) s
      further s =
          let sum : suc j + (k - suc j) ≡ k = omega arith in
          drop-drop ((k - suc j) * b) (suc j * b) s ∙ ap (λ (n : ℕ). drop n s) (sym (add-mul (suc j) (k - suc j) b) ∙ ap (λ (n : ℕ). n * b) sum)

  -- ---- the part between parts that leave the output alone

  module _ (bs ds : List (Part Machine)) (still : (o : List ℕ) → KeepsParts (λ (m : Machine). m.out ≡ o) bs)
      (still' : (o : List ℕ) → KeepsParts (λ (m : Machine). m.out ≡ o) ds) (m : Machine) (fits : length m.out ≡ long) where
    -- done whole, such parts leave it as it was
    out_run : (cs : List (Part Machine)) → ((o : List ℕ) → KeepsParts (λ (m : Machine). m.out ≡ o) cs) → (u : Machine) → (run (row cs) u).out ≡ u.out
    out_run cs q u = keeps-run (λ (m : Machine). m.out ≡ u.out) (row cs) (keeps-row (λ (m : Machine). m.out ≡ u.out) cs (q u.out)) u refl

    -- the machine with k blocks written
    after : ℕ → Machine
    after k = run (calls (call_of c) 0 k) (run (row bs) m)

    row_cut : (k j : ℕ) → k + j ≡ c.shape.count → row (bs ++ c ∷ ds) ≡ row bs ++ (calls (call_of c) 0 k ++ (calls (call_of c) k j ++ row ds))
    unfolding row part_row
    row_cut k j e =
        row-append bs (c ∷ ds)
        ∙ ap (λ (cs : List (Call Machine)). row bs ++ (cs ++ row ds))
        (ap (calls (call_of c) 0) (sym e) ∙ calls-add (call_of c) k j 0 ∙ ap (λ (i : ℕ). calls (call_of c) 0 k ++ calls (call_of c) i j) (zero-add k))
        ∙ ap (λ (cs : List (Call Machine)). row bs ++ cs) (append_assoc (calls (call_of c) 0 k) (calls (call_of c) k j) (row ds))

    long_bs : length (run (row bs) m).out ≡ long
    long_bs = ap length (out_run bs still m) ∙ fits

    -- the blocks not written are those of the start
    behind_is : (k : ℕ) → k ≤ c.shape.count → Behind k (drop (k * b) m.out) (after k).out
    unfolding Behind after
    behind_is k most =
        keeps-run (λ (u : Machine). Behind k (drop (k * b) m.out) u.out) (calls (call_of c) 0 k)
        (keeps_range (λ (u : Machine). Behind k (drop (k * b) m.out) u.out) (call_of c) k 0
        (λ j l h. behind-keeps k (drop (k * b) m.out) j (omega arith) (omega arith)))
        (run (row bs) m) (long_bs, ap (drop (k * b)) (out_run bs still m))

    -- those written are those of the end
    front_is_lem : (k j : ℕ) → k + j ≡ c.shape.count → take (k * b) (run (row (bs ++ c ∷ ds)) m).out ≡ take (k * b) (after k).out
    unfolding Front Behind after
    front_is_lem k j e =
        let o = take (k * b) (after k).out in
        let kept =
        keeps-run (λ (u : Machine). Front k o u.out) (calls (call_of c) k j)
        (keeps_range (λ (u : Machine). Front k o u.out) (call_of c) j k (λ i l h. front-keeps k o i l (omega arith)))
        (after k) ((behind_is k (omega arith)).0, refl) in
        ap (take (k * b))
        (ap (λ (cs : List (Call Machine)). (run cs m).out) (row_cut k j e)
        ∙ ap Machine.out (run-append (row bs) (calls (call_of c) 0 k ++ (calls (call_of c) k j ++ row ds)) m)
        ∙ ap Machine.out (run-append (calls (call_of c) 0 k) (calls (call_of c) k j ++ row ds) (run (row bs) m))
        ∙ ap Machine.out (run-append (calls (call_of c) k j) (row ds) (after k))
        ∙ out_run ds still' (run (calls (call_of c) k j) (after k)))
        ∙ kept.1

    -- inside a call nothing is written
    inside : (k j i : ℕ) → (j ≡ 0) ⊎ (i < c.shape.rounds) → (stopped (calls (call_of c) k j ++ row ds) i (after k)).out ≡ (after k).out
    unfolding calls call_of
    inside k zero i h =
        keeps-stopped (λ (u : Machine). u.out ≡ (after k).out) (row ds)
        (keeps-row (λ (u : Machine). u.out ≡ (after k).out) ds (still' (after k).out)) i (after k) refl
    inside k (suc j) i (inl e) = absurd (omega arith)
    inside k (suc j) i (inr h) =
        until_leave (λ (u : Machine). u.out ≡ (after k).out) (call_of c k) (calls (call_of c) (suc k) j ++ row ds)
        (λ u e. w.enter k u ∙ e) (λ i u e. w.turn i u ∙ e) i (after k) h refl

    -- the output with k blocks written
    abbrev so_far : ℕ → List ℕ
    so_far k = take (k * b) (run (row (bs ++ c ∷ ds)) m).out ++ drop (k * b) m.out

    -- k calls done, and i rounds of the next
    out_at : (k j i : ℕ) → k + j ≡ c.shape.count → (j ≡ 0) ⊎ (i < c.shape.rounds)
        → (stopped (row (bs ++ c ∷ ds)) (rounds_in (shapes bs) + (k * c.shape.rounds + i)) m).out ≡ so_far k
    unfolding Behind after call_of
    out_at k j i e h =
        let rest = calls (call_of c) k j ++ row ds in
        let sum : rounds_in (shapes bs) + (k * c.shape.rounds + i) ≡ total (row bs) + (total (calls (call_of c) 0 k) + i) =
        omega (arith, total-row bs, total-calls (call_of c) c.shape.rounds (λ i. refl) k 0) in
        ap Machine.out
        (ap₂ (λ (cs : List (Call Machine)) (n : ℕ). stopped cs n m) (row_cut k j e) sum
        ∙ stopped-back (row bs) (calls (call_of c) 0 k ++ rest) (total (calls (call_of c) 0 k) + i) m
        ∙ stopped-back (calls (call_of c) 0 k) rest i (run (row bs) m))
        ∙ inside k j i h
        ∙ sym (take-append-drop (k * b) (after k).out)
        ∙ ap₂ (λ (u v : List ℕ). u ++ v) (sym (front_is_lem k j e)) (behind_is k (omega arith)).1

    -- before the first of its rounds
    out_before : EachSome (shapes (c ∷ ds)) → (n : ℕ) → n ≤ rounds_in (shapes bs) → (stopped (row (bs ++ c ∷ ds)) n m).out ≡ so_far 0
    out_before some n h =
        until_parts (λ (u : Machine). u.out ≡ m.out) bs (c ∷ ds) some (still m.out) m refl n h
        ∙ ap (λ (i : ℕ). take i (run (row (bs ++ c ∷ ds)) m).out ++ drop i m.out) (sym (zero-mul b))

    -- stopped anywhere
    pub out_after : EachSome (shapes (c ∷ ds)) → (n : ℕ)
        → (stopped (row (bs ++ c ∷ ds)) n m).out
        ≡ take (calls_done bs c n * b) (run (row (bs ++ c ∷ ds)) m).out ++ drop (calls_done bs c n * b) m.out
    unfolding calls_done EachSome shapes
    out_after some n =
        let r = c.shape.rounds in
        let q = c.shape.count in
        let d = n - rounds_in (shapes bs) in
        let k = min q (d / r) in
        let fits = mul-le-mul_right r (min-le_right q (d / r)) in
        let whole = div-add-mod' d r in
        let part = mod-lt d some.0 in
        elim (dec_lt n (rounds_in (shapes bs))) [
          | yes y ↦
              let early : d ≡ 0 = omega arith in
              let none : k ≡ 0 = omega (arith, ap (λ (i : ℕ). i / r) early ∙ zero-div r) in
              out_before some n (omega arith) ∙ ap so_far (sym none)
          | no f ↦
              let at : rounds_in (shapes bs) + (k * r + (d - k * r)) ≡ n = omega arith in
              subst (λ (j : ℕ). (stopped (row (bs ++ c ∷ ds)) j m).out ≡ so_far k) at
              (out_at k (q - k) (d - k * r) (omega arith)
              (elim (dec_lt (d / r) q) [
                | yes y ↦
                    let all : k ≡ d / r = omega arith in
                    inr (omega (arith, ap (λ (j : ℕ). j * r) all))
                | no g ↦ inl (omega arith)
              ]))
        ]
