-- What the planning program prints for a request, in ASCII (document 01, 'Planning program').
-- Assumes nothing.
use Rattle.std.specs.Prelude.{◌≡◌, List, [], ◌∷◌, ◌++◌, ℕ, zero, suc, ◌+◌, ◌*◌, ◌/◌, ◌%◌, ◌≤◌, eqb, ltb, length, get_or}
use Rattle.bits.specs.Pick.{pick}
use Rattle.bits.specs.Put.{put_at}
use Rattle.plan.specs.declared.Planned.{Planned}
use Rattle.plan.specs.Planned.{plan_of}

-- ---- numbers below 10,000,000 in decimal digits, no zero in front

unfoldable pub places : ℕ → ℕ
places n =
    pick (ltb n 10) 1 (pick (ltb n 100) 2 (pick (ltb n 1000) 3 (pick (ltb n 10000) 4 (pick (ltb n 100000) 5 (pick (ltb n 1000000) 6 7)))))

-- the last k digits of n; the digit d is the character 48 + d
unfoldable pub digits : ℕ → ℕ → List ℕ
digits zero n = []
digits (suc k) n = digits k (n / 10) ++ ((48 + n % 10) ∷ [])

unfoldable pub decimal : ℕ → List ℕ
decimal n = digits (places n) n

-- ---- a line

-- a number, and a space (32) or the line's end (10)
unfoldable pub ended : ℕ → ℕ → List ℕ
ended n by = decimal n ++ (by ∷ [])

-- `refused` and a space
unfoldable pub refused : List ℕ
refused = 114 ∷ 101 ∷ 102 ∷ 117 ∷ 115 ∷ 101 ∷ 100 ∷ 32 ∷ []

-- the rounds, or the refusal
unfoldable pub rest : Planned → List ℕ
rest r = pick (eqb r.number 0) (ended r.verify 32 ++ ended r.total 10) (refused ++ ended r.number 10)

-- the request's numbers, and the rest
unfoldable pub line : (i a m : ℕ) → List ℕ
line i a m = ended i 32 ++ (ended a 32 ++ (ended m 32 ++ rest (plan_of i a m)))

-- two bytes as a number, the first most significant
abbrev pub pair : ℕ → ℕ → ℕ
pair high low = high * 256 + low

-- what is printed for the five bytes of a request
unfoldable pub answer : List ℕ → List ℕ
answer s = line (get_or s 0 0) (pair (get_or s 1 0) (get_or s 2 0)) (pair (get_or s 3 0) (get_or s 4 0))

-- ---- for the functions: a string of at most so many bytes put at a place, and the place behind it
pub record Put (at : ℕ) (text : List ℕ) (most : ℕ) (before after : List ℕ) (next : ℕ) : Type 0 where
  pub is : after ≡ put_at at text before
  pub ends : next ≡ at + length text
  pub short : length text ≤ most
