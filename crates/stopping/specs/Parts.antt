-- A row in parts: every call of a part has the same number of rounds. The shape of a part is how many calls it has and how many rounds
-- each; counting and places go by shapes alone.
-- Assumes nothing.
use Rattle.std.specs.Prelude.{◌≡◌, ℕ, ◌+◌, ◌*◌, ◌<◌}
use Rattle.std.proofs.Math.Path.{refl, sym, ap, ap₂}
use Rattle.std.proofs.Common.{◌∙◌, zero-add, add_assoc}
use mathlib.Core.List.{List, [], ◌∷◌, ◌++◌}
use Rattle.stopping.specs.Stopped.{Call, total, AllSome}
use Rattle.stopping.specs.Rows.{calls, total-append, total-calls, some_append, some_calls}

pub record Shape : Type 0 where
  pub count : ℕ
  pub rounds : ℕ

-- `enter i` goes with the first round of call i, `turn k` is round k of any call, `leave i` goes with the last round of call i
pub record Part (M : Type 0) : Type 0 where
  pub shape : Shape
  pub enter : ℕ → M → M
  pub turn : ℕ → M → M
  pub leave : ℕ → M → M

-- the rounds of parts of these shapes
unfoldable pub rounds_in : List Shape → ℕ
rounds_in [] = 0
rounds_in (h ∷ hs) = h.count * h.rounds + rounds_in hs

-- every call of every part has a round
unfoldable pub EachSome : List Shape → Type 0
EachSome [] = Unit {0}
EachSome (h ∷ hs) = (0 < h.rounds) × EachSome hs

module _ {M : Type 0} where
  -- call i of a part
  unfoldable pub call_of : Part M → ℕ → Call M
  call_of c i = record { rounds = c.shape.rounds; enter = c.enter i; turn = c.turn; leave = c.leave i }

  -- the calls of a part, and of several parts
  unfoldable pub part_row : Part M → List (Call M)
  part_row c = calls (call_of c) 0 c.shape.count

  unfoldable pub row : List (Part M) → List (Call M)
  row [] = []
  row (c ∷ cs) = part_row c ++ row cs

  unfoldable pub shapes : List (Part M) → List Shape
  shapes [] = []
  shapes (c ∷ cs) = c.shape ∷ shapes cs

  -- ---- laws

  pub shapes-append : (cs ds : List (Part M)) → shapes (cs ++ ds) ≡ shapes cs ++ shapes ds
  unfolding shapes
  shapes-append [] ds = refl
  shapes-append (c ∷ cs) ds = ap (λ (l : List Shape). c.shape ∷ l) (shapes-append cs ds)

  pub row-append : (cs ds : List (Part M)) → row (cs ++ ds) ≡ row cs ++ row ds
  unfolding row
  row-append [] ds = refl
  row-append (c ∷ cs) ds = ap (λ (l : List (Call M)). part_row c ++ l) (row-append cs ds) ∙ sym (mathlib.Core.List.append_assoc (part_row c) (row cs) (row ds))

  pub total-part : (c : Part M) → total (part_row c) ≡ c.shape.count * c.shape.rounds
  unfolding part_row call_of
  total-part c = total-calls (call_of c) c.shape.rounds (λ i. refl) c.shape.count 0

  pub total-row : (cs : List (Part M)) → total (row cs) ≡ rounds_in (shapes cs)
  unfolding row rounds_in shapes total
  total-row [] = refl
  total-row (c ∷ cs) = total-append (part_row c) (row cs) ∙ ap₂ (λ (x y : ℕ). x + y) (total-part c) (total-row cs)

  pub some_row : (cs : List (Part M)) → EachSome (shapes cs) → AllSome (row cs)
  unfolding row EachSome shapes AllSome part_row call_of
  some_row [] h = tt
  some_row (c ∷ cs) h =
      some_append (part_row c) (row cs) (some_calls (call_of c) c.shape.rounds (λ i. refl) h.0 c.shape.count 0) (some_row cs h.1)

pub rounds_in-append : (hs ks : List Shape) → rounds_in (hs ++ ks) ≡ rounds_in hs + rounds_in ks
unfolding rounds_in
rounds_in-append [] ks = sym (zero-add (rounds_in ks))
rounds_in-append (h ∷ hs) ks =
    ap (λ (n : ℕ). h.count * h.rounds + n) (rounds_in-append hs ks) ∙ sym (add_assoc (h.count * h.rounds) (rounds_in hs) (rounds_in ks))

pub some_shapes : (hs ks : List Shape) → EachSome hs → EachSome ks → EachSome (hs ++ ks)
unfolding EachSome
some_shapes [] ks h k = k
some_shapes (s ∷ hs) ks h k = (h.0, some_shapes hs ks h.1 k)
