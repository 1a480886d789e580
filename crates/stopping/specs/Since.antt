-- What one round alone changes is as it was until that round, and from then on as that round leaves it: for the first round of a call and
-- for the last. A call that has had its first round is one that enters with nothing, and a call that has not had its last is one that
-- leaves with nothing, so that both follow from what a row keeps.
-- Assumes nothing.
use Rattle.std.specs.Prelude.{◌≡◌, true}
use Rattle.std.proofs.Math.Path.{refl, sym, ap, ap₂, subst}
use Rattle.std.proofs.Common.{◌∙◌, zero-add, add-zero, suc-add, add-suc}
use mathlib.Core.List.{List, [], ◌∷◌, ◌++◌}
use Prim.Native.Nat.{ℕ, zero, suc, ◌+◌, ◌-◌, ◌≤◌, ◌<◌, min}
use Rattle.std.proofs.Math.Decide.{dec_lt}
use native.Mathlib.Omega.{arith}
use Rattle.stopping.specs.Stopped.{Call, broken, whole, stopped, total, stopped-short, stopped_past}
use Rattle.stopping.specs.Rows.{run, calls, stopped-front, stopped-back, at_end}
use Rattle.stopping.specs.Parts.{Part, rounds_in, EachSome, call_of, part_row, row, shapes, row-append, total-row, some_row}
use Rattle.stopping.specs.Kept.{KeepsCall, KeepsRow, KeepsParts, keeps-stopped, keeps-row}
use Rattle.stopping.specs.Course.{Course, parts, front_rounds, accepted, lasts, halted, Lawful}
use Rattle.stopping.specs.Follows.{all_rounds, lasts_least}
use Rattle.stopping.specs.Halts.{lasts-accepted}

module _ {M : Type 0} where
  -- ---- rows

  -- past its end a row stays done
  pub stopped_over : (cs : List (Call M)) (n : ℕ) (m : M) → total cs ≤ n → stopped cs n m ≡ run cs m
  unfolding stopped total run
  stopped_over [] n m h = refl
  stopped_over (c ∷ cs) n m h = stopped_past c cs n m (omega arith) ∙ stopped_over cs (n - c.rounds) (whole c m) (omega arith)

  -- n calls, and then k more
  pub calls-add : (f : ℕ → Call M) (n k i : ℕ) → calls f i (n + k) ≡ calls f i n ++ calls f (i + n) k
  unfolding calls
  calls-add f zero k i = ap₂ (calls f) (sym (add-zero i)) (zero-add k)
  calls-add f (suc n) k i =
      ap (calls f i) (suc-add n k)
      ∙ ap (λ (cs : List (Call M)). f i ∷ cs)
      (calls-add f n k (suc i) ∙ ap (λ (j : ℕ). calls f (suc i) n ++ calls f j k) (suc-add i n ∙ sym (add-suc i n)))

  -- up to the end of the first parts the others do nothing
  pub stopped-parts : (bs ds : List (Part M)) → EachSome (shapes ds) → (n : ℕ) (m : M) → n ≤ rounds_in (shapes bs)
      → stopped (row (bs ++ ds)) n m ≡ stopped (row bs) n m
  stopped-parts bs ds some n m h =
      ap (λ (cs : List (Call M)). stopped cs n m) (row-append bs ds)
      ∙ stopped-front (row bs) (row ds) n m (some_row ds some) (omega (arith, total-row bs))

  -- a call without its leave
  unended : Call M → Call M
  unended c = record { rounds = c.rounds; enter = c.enter; turn = c.turn; leave = λ m. m }

  broken_unended : (c : Call M) (k : ℕ) (m : M) → broken c k m ≡ broken (unended c) k m
  unfolding broken unended
  broken_unended c zero m = refl
  broken_unended c (suc k) m = refl

  module _ (P : M → Type 0) where
    -- what a row keeps, it keeps to its end
    pub keeps-run : (cs : List (Call M)) → KeepsRow P cs → (m : M) → P m → P (run cs m)
    keeps-run cs h m p = subst P (at_end cs m) (keeps-stopped P cs h (total cs) m p)

    -- what each of the calls i, i + 1, .. keeps
    pub keeps_range : (f : ℕ → Call M) (n i : ℕ) → ((j : ℕ) → i ≤ j → j < i + n → KeepsCall P (f j)) → KeepsRow P (calls f i n)
    unfolding KeepsRow calls
    keeps_range f zero i h = tt
    keeps_range f (suc n) i h = (h i (omega arith) (omega arith), keeps_range f n (suc i) (λ j a b. h j (omega arith) (omega arith)))

    -- ---- one call and what follows it

    -- from its first round on
    pub since_enter : (c : Call M) (cs : List (Call M)) → ((k : ℕ) (u : M) → P u → P (c.turn k u)) → ((u : M) → P u → P (c.leave u)) → KeepsRow P cs
        → (k : ℕ) (m : M) → P (c.enter m) → P (stopped (c ∷ cs) (suc k) m)
    unfolding KeepsRow stopped broken whole
    since_enter c cs turn leave keeps k m p =
        let on : Call M = record { rounds = c.rounds; enter = λ u. u; turn = c.turn; leave = c.leave } in
        let kept : KeepsRow P (on ∷ cs) = (record { enter = λ u q. q; turn = turn; leave = leave }, keeps) in
        keeps-stopped P (on ∷ cs) kept (suc k) (c.enter m) p

    -- up to its last round
    pub until_leave : (c : Call M) (cs : List (Call M)) → ((u : M) → P u → P (c.enter u)) → ((k : ℕ) (u : M) → P u → P (c.turn k u))
        → (k : ℕ) (m : M) → k < c.rounds → P m → P (stopped (c ∷ cs) k m)
    unfolding KeepsRow unended
    until_leave c cs enter turn k m h p =
        let kept : KeepsRow P (unended c ∷ []) = (record { enter = enter; turn = turn; leave = λ u q. q }, tt) in
        let is = stopped-short c cs k m h ∙ broken_unended c k m ∙ sym (stopped-short (unended c) [] k m h) in
        subst P (sym is) (keeps-stopped P (unended c ∷ []) kept k m p)

    -- ---- parts in a row

    -- up to the end of the first parts
    pub until_parts : (bs ds : List (Part M)) → EachSome (shapes ds) → KeepsParts P bs
        → (m : M) → P m → (n : ℕ) → n ≤ rounds_in (shapes bs) → P (stopped (row (bs ++ ds)) n m)
    until_parts bs ds some keeps m p n h =
        subst P (sym (stopped-parts bs ds some n m h)) (keeps-stopped P (row bs) (keeps-row P bs keeps) n m p)

    -- a part of one call, between the parts before it and those behind it
    module _ (bs : List (Part M)) (c : Part M) (ds : List (Part M)) (single : c.shape.count ≡ 1) where
      past : (k : ℕ) (m : M) → P (stopped (call_of c 0 ∷ row ds) k (run (row bs) m)) → P (stopped (row (bs ++ c ∷ ds)) (rounds_in (shapes bs) + k) m)
      unfolding row part_row calls
      past k m p =
          let cut : row (bs ++ c ∷ ds) ≡ row bs ++ (call_of c 0 ∷ row ds) =
          row-append bs (c ∷ ds) ∙ ap (λ (n : ℕ). row bs ++ (calls (call_of c) 0 n ++ row ds)) single in
          let is =
          ap₂ (λ (cs : List (Call M)) (n : ℕ). stopped cs (n + k) m) cut (sym (total-row bs))
          ∙ stopped-back (row bs) (call_of c 0 ∷ row ds) k m in
          subst P (sym is) p

      -- from its first round on
      pub since_first : ((k : ℕ) (u : M) → P u → P (c.turn k u)) → ((u : M) → P u → P (c.leave 0 u)) → KeepsParts P ds
          → (m : M) → P (c.enter 0 (run (row bs) m)) → (n : ℕ) → rounds_in (shapes bs) < n → P (stopped (row (bs ++ c ∷ ds)) n m)
      unfolding call_of
      since_first turn leave keeps m p n h =
          let k = n - suc (rounds_in (shapes bs)) in
          let at : rounds_in (shapes bs) + suc k ≡ n = omega arith in
          subst (λ (i : ℕ). P (stopped (row (bs ++ c ∷ ds)) i m)) at
          (past (suc k) m (since_enter (call_of c 0) (row ds) turn leave (keeps-row P ds keeps) k (run (row bs) m) p))

      -- up to its last round
      pub until_last : EachSome (shapes (c ∷ ds)) → KeepsParts P bs → ((u : M) → P u → P (c.enter 0 u)) → ((k : ℕ) (u : M) → P u → P (c.turn k u))
          → (m : M) → P m → (n : ℕ) → n < rounds_in (shapes bs) + c.shape.rounds → P (stopped (row (bs ++ c ∷ ds)) n m)
      unfolding call_of
      until_last some keeps enter turn m p n h =
          elim (dec_lt n (rounds_in (shapes bs))) [
            | yes y ↦ until_parts bs (c ∷ ds) some keeps m p n (omega arith)
            | no f ↦
                let k = n - rounds_in (shapes bs) in
                let at : rounds_in (shapes bs) + k ≡ n = omega arith in
                subst (λ (i : ℕ). P (stopped (row (bs ++ c ∷ ds)) i m)) at
                (past k m (until_leave (call_of c 0) (row ds) enter turn k (run (row bs) m) (omega arith)
                (keeps-run (row bs) (keeps-row P bs keeps) m p)))
          ]

-- ---- a course, before its decision and behind it

module _ {M : Type 0} (c : Course M) (l : Lawful c) (m : M) where
  pub halted_until : (n : ℕ) → n ≤ front_rounds c → halted c n m ≡ stopped (row (parts c)) n m
  unfolding halted
  halted_until n h = let least = lasts_least c l m in ap (λ (k : ℕ). stopped (row (parts c)) k m) (omega arith)

  -- what its row has from a round before the decision on
  pub halted_since : (P : M → Type 0) (d : ℕ) → d ≤ front_rounds c → ((k : ℕ) → d ≤ k → P (stopped (row (parts c)) k m))
      → (n : ℕ) → d ≤ n → P (halted c n m)
  unfolding halted
  halted_since P d h each n b = let least = lasts_least c l m in each (min n (lasts c m)) (omega arith)

  -- unless it is refused, it is its row
  pub halted-going : accepted c m ≡ true → (n : ℕ) → halted c n m ≡ stopped (row (parts c)) n m
  unfolding halted
  halted-going e n =
      let all : lasts c m ≡ total (row (parts c)) = lasts-accepted c l m e ∙ sym (total-row (parts c) ∙ all_rounds c) in
      elim (dec_lt n (lasts c m)) [
        | yes y ↦ ap (λ (k : ℕ). stopped (row (parts c)) k m) (omega arith)
        | no f ↦
            ap (λ (k : ℕ). stopped (row (parts c)) k m) (omega arith) ∙ at_end (row (parts c)) m
            ∙ sym (stopped_over (row (parts c)) n m (omega arith))
      ]
