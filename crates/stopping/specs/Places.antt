-- Where a row of parts stands after n rounds: the part, the call in it and the round in that, of the round that comes next. It is found by
-- walking the parts; at the end it is the place past the last part.
-- Assumes nothing.
use Rattle.std.specs.Prelude.{List, [], ◌∷◌, ℕ, zero, suc, ◌-◌, ◌*◌, ◌/◌, ◌%◌, ltb, get_or}
use Rattle.bits.specs.Pick.{pick}
use Rattle.stopping.specs.Stopped.{Call}
use Rattle.stopping.specs.Parts.{Shape, Part, call_of}

pub record Place : Type 0 where
  pub part : ℕ
  pub call : ℕ
  pub round : ℕ

abbrev pub place : ℕ → ℕ → ℕ → Place
place j i k = record { part = j; call = i; round = k }

-- the same place, behind one part more
abbrev pub onward : Place → Place
onward w = place (suc w.part) w.call w.round

unfoldable pub place_of : List Shape → ℕ → Place
place_of [] n = place 0 0 0
place_of (h ∷ hs) n =
    pick (ltb n (h.count * h.rounds)) (place 0 (n / h.rounds) (n % h.rounds)) (onward (place_of hs (n - h.count * h.rounds)))

-- the j-th shape, and no call past the last
unfoldable pub shape_at : List Shape → ℕ → Shape
shape_at hs j = get_or hs j (record { count = 0; rounds = 0 })

module _ {M : Type 0} where
  -- the j-th part, and past the last one that does nothing
  unfoldable pub part_at : List (Part M) → ℕ → Part M
  part_at [] j = record { shape = record { count = 0; rounds = 0 }; enter = λ i m. m; turn = λ k m. m; leave = λ i m. m }
  part_at (c ∷ cs) zero = c
  part_at (c ∷ cs) (suc j) = part_at cs j

  unfoldable pub call_at : List (Part M) → Place → Call M
  call_at cs w = call_of (part_at cs w.part) w.call
