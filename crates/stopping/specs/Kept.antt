-- What every enter, turn and leave of a row keeps is kept wherever the row is stopped.
-- Assumes nothing.
use mathlib.Core.List.{List, [], ◌∷◌, ◌++◌}
use Prim.Native.Nat.{ℕ, zero, suc, ◌-◌}
use Rattle.std.proofs.Math.Decide.{dec_lt}
use Rattle.std.proofs.Common.{arith}
use Rattle.bits.specs.Run.{turns}
use Rattle.stopping.specs.Stopped.{Call, broken, whole, stopped, stopped-short, stopped_past}
use Rattle.stopping.specs.Rows.{calls}
use Rattle.stopping.specs.Parts.{Part, call_of, part_row, row}

module _ {M : Type 0} (P : M → Type 0) where
  pub record KeepsCall (c : Call M) : Type 0 where
    pub enter : (m : M) → P m → P (c.enter m)
    pub turn : (k : ℕ) (m : M) → P m → P (c.turn k m)
    pub leave : (m : M) → P m → P (c.leave m)

  pub record KeepsPart (c : Part M) : Type 0 where
    pub enter : (i : ℕ) (m : M) → P m → P (c.enter i m)
    pub turn : (k : ℕ) (m : M) → P m → P (c.turn k m)
    pub leave : (i : ℕ) (m : M) → P m → P (c.leave i m)

  unfoldable pub KeepsRow : List (Call M) → Type 0
  KeepsRow [] = Unit {0}
  KeepsRow (c ∷ cs) = KeepsCall c × KeepsRow cs

  unfoldable pub KeepsParts : List (Part M) → Type 0
  KeepsParts [] = Unit {0}
  KeepsParts (c ∷ cs) = KeepsPart c × KeepsParts cs

  keeps-turns : (c : Call M) → KeepsCall c → (k : ℕ) (m : M) → P m → P (turns c.turn k m)
  unfolding turns
  keeps-turns c h zero m p = p
  keeps-turns c h (suc k) m p = h.turn k (turns c.turn k m) (keeps-turns c h k m p)

  keeps-broken : (c : Call M) → KeepsCall c → (k : ℕ) (m : M) → P m → P (broken c k m)
  unfolding broken
  keeps-broken c h zero m p = p
  keeps-broken c h (suc k) m p = keeps-turns c h (suc k) (c.enter m) (h.enter m p)

  keeps-whole : (c : Call M) → KeepsCall c → (m : M) → P m → P (whole c m)
  unfolding whole
  keeps-whole c h m p = h.leave (turns c.turn c.rounds (c.enter m)) (keeps-turns c h c.rounds (c.enter m) (h.enter m p))

  pub keeps-stopped : (cs : List (Call M)) → KeepsRow cs → (n : ℕ) (m : M) → P m → P (stopped cs n m)
  unfolding KeepsRow stopped
  keeps-stopped [] h n m p = p
  keeps-stopped (c ∷ cs) h n m p =
      elim (dec_lt n c.rounds) [
        | yes l ↦ rw (stopped-short c cs n m l) (keeps-broken c h.0 n m p)
        | no f ↦
            let past = stopped_past c cs n m (omega arith) in
            rw past (keeps-stopped cs h.1 (n - c.rounds) (whole c m) (keeps-whole c h.0 m p))
      ]

  keeps-calls : (c : Part M) → KeepsPart c → (n i : ℕ) → KeepsRow (calls (call_of c) i n)
  unfolding KeepsRow calls call_of
  keeps-calls c h zero i = tt
  keeps-calls c h (suc n) i = (record { enter = h.enter i; turn = h.turn; leave = h.leave i }, keeps-calls c h n (suc i))

  keeps-append : (cs ds : List (Call M)) → KeepsRow cs → KeepsRow ds → KeepsRow (cs ++ ds)
  unfolding KeepsRow
  keeps-append [] ds h k = k
  keeps-append (c ∷ cs) ds h k = (h.0, keeps-append cs ds h.1 k)

  pub keeps-row : (cs : List (Part M)) → KeepsParts cs → KeepsRow (row cs)
  unfolding KeepsParts row KeepsRow part_row
  keeps-row [] h = tt
  keeps-row (c ∷ cs) h = keeps-append (part_row c) (row cs) (keeps-calls c h.0 c.shape.count 0) (keeps-row cs h.1)

  pub keeps-parts : (cs ds : List (Part M)) → KeepsParts cs → KeepsParts ds → KeepsParts (cs ++ ds)
  unfolding KeepsParts
  keeps-parts [] ds h k = k
  keeps-parts (c ∷ cs) ds h k = (h.0, keeps-parts cs ds h.1 k)
