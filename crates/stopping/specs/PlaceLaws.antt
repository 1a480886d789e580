-- Laws of places: the walk step by step and as a loop has it, how a place moves on, and that round n of the row is the round at which the
-- walk stands.
-- Assumes nothing.
use Rattle.std.specs.Prelude.{◌≡◌, length, get_or, drop}
use Rattle.std.proofs.Math.Path.{refl, ap, subst}
use Rattle.std.proofs.Common.{sym, ap₂, ◌∙◌, add-zero, mul-pos, zero-mul, div-lt_iff_lt-mul, div-add-mod', mod-lt, zero-add, mul-le-mul_right, suc-mul, arith, drop-cons, lt-ltb, le-ltb}
use mathlib.Core.List.{List, [], ◌∷◌, ◌++◌}
use Prim.Native.Nat.{ℕ, zero, suc, ◌+◌, ◌-◌, ◌*◌, ◌/◌, ◌%◌, ◌≤◌, ◌<◌}
use Rattle.std.proofs.Math.Decide.{dec_lt}
use Rattle.std.proofs.Math.Nat.{zero-div, zero-mod}
use Rattle.std.proofs.Math.Arith.{digits_div, digits_mod}
use Rattle.stopping.specs.Stopped.{Call, At}
use Rattle.stopping.specs.Rows.{at_front, at_back, at_calls, at_as}
use Rattle.stopping.specs.Parts.{Shape, Part, rounds_in, EachSome, call_of, part_row, row, shapes, total-part}
use Rattle.stopping.specs.Places.{Place, place, onward, place_of, shape_at, part_at, call_at}

-- ---- the walk, step by step

place_here : (h : Shape) (hs : List Shape) (n : ℕ) → n < h.count * h.rounds → place_of (h ∷ hs) n ≡ place 0 (n / h.rounds) (n % h.rounds)
unfolding place_of
place_here h hs n l = rw (place_of, lt-ltb n (h.count * h.rounds) l)

place_on : (h : Shape) (hs : List Shape) (n : ℕ) → h.count * h.rounds ≤ n → place_of (h ∷ hs) n ≡ onward (place_of hs (n - h.count * h.rounds))
unfolding place_of
place_on h hs n l = rw (place_of, le-ltb n (h.count * h.rounds) l)

-- past the last round
pub place_past : (hs : List Shape) (n : ℕ) → rounds_in hs ≤ n → place_of hs n ≡ place (length hs) 0 0
unfolding place_of rounds_in
place_past [] n l = refl
place_past (h ∷ hs) n l =
    place_on h hs n (omega arith) ∙ ap onward (place_past hs (n - h.count * h.rounds) (omega arith))

-- behind the first parts
pub place-back : (hs ks : List Shape) (n : ℕ)
    → place_of (hs ++ ks) (rounds_in hs + n) ≡ place (length hs + (place_of ks n).part) (place_of ks n).call (place_of ks n).round
unfolding rounds_in
place-back [] ks n =
    ap (place_of ks) (zero-add n) ∙ ap (λ (j : ℕ). place j (place_of ks n).call (place_of ks n).round) (sym (zero-add (place_of ks n).part))
place-back (h ∷ hs) ks n =
    let w = place_of ks n in
    place_on h (hs ++ ks) (h.count * h.rounds + rounds_in hs + n) (omega arith)
    ∙ ap (λ (i : ℕ). onward (place_of (hs ++ ks) i)) (omega arith)
    ∙ ap onward (place-back hs ks n)
    ∙ ap (λ (j : ℕ). place j w.call w.round) (omega arith)

-- 0 exactly at the start of a part
abbrev pub into : Place → ℕ
into w = w.call + w.round

-- the start of parts is the start of a part
pub place-start : (hs : List Shape) → into (place_of hs 0) ≡ 0
unfolding place_of
place-start [] = refl
place-start (h ∷ hs) =
    elim (dec_lt 0 (h.count * h.rounds)) [
      | yes l ↦ ap into (place_here h hs 0 l) ∙ ap₂ (λ (q r : ℕ). q + r) (zero-div h.rounds) (zero-mod h.rounds)
      | no f ↦
          ap into (place_on h hs 0 (omega arith))
          ∙ ap (λ (n : ℕ). into (place_of hs n)) (omega arith) ∙ place-start hs
    ]

-- inside the parts a place is of a call and a round that are there
pub record Inside (hs : List Shape) (w : Place) : Type 0 where
  pub part : w.part < length hs
  pub call : w.call < (shape_at hs w.part).count
  pub round : w.round < (shape_at hs w.part).rounds

inside-onward : (h : Shape) (hs : List Shape) (w : Place) → Inside hs w → Inside (h ∷ hs) (onward w)
unfolding shape_at
inside-onward h hs w i = record { part = omega (arith, i.part); call = i.call; round = i.round }

pub place_inside : (hs : List Shape) → EachSome hs → (n : ℕ) → n < rounds_in hs → Inside hs (place_of hs n)
unfolding rounds_in EachSome shape_at
place_inside [] s n l = absurd (omega arith)
place_inside (h ∷ hs) s n l =
    elim (dec_lt n (h.count * h.rounds)) [
      | yes y ↦
          subst (Inside (h ∷ hs)) (sym (place_here h hs n y))
          (record { part = omega arith; call = (div-lt_iff_lt-mul s.0).1 y; round = mod-lt n s.0 })
      | no f ↦
          subst (Inside (h ∷ hs)) (sym (place_on h hs n (omega arith)))
          (inside-onward h hs (place_of hs (n - h.count * h.rounds)) (place_inside hs s.1 (n - h.count * h.rounds) (omega arith)))
    ]

-- ---- the walk as a loop has it: j parts are passed, and n rounds are left

-- a place, behind j parts more
abbrev pub behind : ℕ → Place → Place
behind j w = place (j + w.part) w.call w.round

module _ (hs : List Shape) (j n : ℕ) (l : j < length hs) where
  next : place_of (drop j hs) n ≡ place_of (shape_at hs j ∷ drop (suc j) hs) n
  unfolding shape_at
  next = ap (λ (ks : List Shape). place_of ks n) (drop-cons hs j (record { count = 0; rounds = 0 }) l)

  pub walk_here : n < (shape_at hs j).count * (shape_at hs j).rounds
      → behind j (place_of (drop j hs) n) ≡ place j (n / (shape_at hs j).rounds) (n % (shape_at hs j).rounds)
  walk_here h =
      ap (behind j) (next ∙ place_here (shape_at hs j) (drop (suc j) hs) n h)
      ∙ ap (λ (i : ℕ). place i (n / (shape_at hs j).rounds) (n % (shape_at hs j).rounds)) (add-zero j)

  pub walk_on : (shape_at hs j).count * (shape_at hs j).rounds ≤ n
      → behind j (place_of (drop j hs) n) ≡ behind (suc j) (place_of (drop (suc j) hs) (n - (shape_at hs j).count * (shape_at hs j).rounds))
  walk_on h =
      let w = place_of (drop (suc j) hs) (n - (shape_at hs j).count * (shape_at hs j).rounds) in
      ap (behind j) (next ∙ place_on (shape_at hs j) (drop (suc j) hs) n h)
      ∙ ap (λ (i : ℕ). place i w.call w.round) (omega arith)

-- ---- how a place moves on

module _ (h : Shape) (hs : List Shape) (n k : ℕ) (l : n < h.count * h.rounds) (some : 0 < h.rounds) where
  -- the call that round n stands in
  here-call : n / h.rounds < h.count
  here-call = (div-lt_iff_lt-mul some).1 l

  -- further on in one call
  within-here : n % h.rounds + k < h.rounds → place_of (h ∷ hs) (n + k) ≡ place 0 (n / h.rounds) (n % h.rounds + k)
  within-here b =
      let q = n / h.rounds in
      let e : q * h.rounds + (n % h.rounds + k) ≡ n + k = omega (arith, div-add-mod' n h.rounds) in
      let up = mul-le-mul_right h.rounds here-call in
      place_here h hs (n + k) (omega (arith, suc-mul q h.rounds))
      ∙ ap₂ (place 0) (ap (λ (j : ℕ). j / h.rounds) (sym e) ∙ digits_div q b) (ap (λ (j : ℕ). j % h.rounds) (sym e) ∙ digits_mod q b)

  -- the end of call q is q + 1 calls
  call_end : n % h.rounds + k ≡ h.rounds → n + k ≡ suc (n / h.rounds) * h.rounds
  call_end b = omega (arith, div-add-mod' n h.rounds, suc-mul (n / h.rounds) h.rounds)

  next-call-here : n % h.rounds + k ≡ h.rounds → suc (n / h.rounds) < h.count
      → place_of (h ∷ hs) (n + k) ≡ place 0 (suc (n / h.rounds)) 0
  next-call-here b c =
      let q = suc (n / h.rounds) in
      let e : n + k ≡ q * h.rounds + 0 = omega (arith, call_end b) in
      let up = mul-le-mul_right h.rounds c in
      place_here h hs (n + k) (omega (arith, suc-mul q h.rounds))
      ∙ ap₂ (place 0) (ap (λ (j : ℕ). j / h.rounds) e ∙ digits_div q some) (ap (λ (j : ℕ). j % h.rounds) e ∙ digits_mod q some)

  next-part-here : n % h.rounds + k ≡ h.rounds → suc (n / h.rounds) ≡ h.count → place_of (h ∷ hs) (n + k) ≡ onward (place_of hs 0)
  next-part-here b c =
      let e : n + k ≡ h.count * h.rounds = call_end b ∙ ap (λ (q : ℕ). q * h.rounds) c in
      place_on h hs (n + k) (omega arith) ∙ ap (λ (j : ℕ). onward (place_of hs j)) (omega arith)

-- the rounds of the call at which a place stands are rounds of the parts
pub within-parts : (hs : List Shape) → EachSome hs → (n k : ℕ) → n < rounds_in hs
    → (place_of hs n).round + k ≤ (shape_at hs (place_of hs n).part).rounds → n + k ≤ rounds_in hs
unfolding rounds_in EachSome shape_at
within-parts [] s n k l b = absurd (omega arith)
within-parts (h ∷ hs) s n k l b =
    elim (dec_lt n (h.count * h.rounds)) [
      | yes y ↦
          let q = n / h.rounds in
          let b' : n % h.rounds + k ≤ h.rounds =
          subst (λ (w : Place). w.round + k ≤ (get_or (h ∷ hs) w.part (record { count = 0; rounds = 0 })).rounds) (place_here h hs n y) b in
          let up = mul-le-mul_right h.rounds (here-call h hs n k y s.0) in
          omega (arith, div-add-mod' n h.rounds, suc-mul q h.rounds)
      | no f ↦
          let j : ℕ = n - h.count * h.rounds in
          let b' : (place_of hs j).round + k ≤ (get_or hs (place_of hs j).part (record { count = 0; rounds = 0 })).rounds =
          subst (λ (w : Place). w.round + k ≤ (get_or (h ∷ hs) w.part (record { count = 0; rounds = 0 })).rounds) (place_on h hs n (omega arith)) b in
          omega (arith, within-parts hs s.1 j k (omega arith) b')
    ]

-- the first place of the parts from the j-th on
unfoldable pub start_of : List Shape → ℕ → Place
start_of hs zero = place_of hs 0
start_of [] (suc j) = place 0 0 0
start_of (h ∷ hs) (suc j) = onward (start_of hs j)

-- every part that is there has rounds
pub each_some : (hs : List Shape) → EachSome hs → (j : ℕ) → j < length hs → 0 < (shape_at hs j).rounds
unfolding EachSome shape_at
each_some [] s j l = absurd (omega arith)
each_some (h ∷ hs) s zero l = s.0
each_some (h ∷ hs) s (suc j) l = each_some hs s.1 j (omega arith)

-- a part with calls starts at itself, one without is passed over, and past the last is the end
pub start-here : (hs : List Shape) (j : ℕ) → 0 < (shape_at hs j).count → 0 < (shape_at hs j).rounds → start_of hs j ≡ place j 0 0
unfolding start_of shape_at
start-here [] j c r = absurd (omega arith)
start-here (h ∷ hs) zero c r =
    place_here h hs 0 (mul-pos c r) ∙ ap₂ (place 0) (zero-div h.rounds) (zero-mod h.rounds)
start-here (h ∷ hs) (suc j) c r = ap onward (start-here hs j c r)

pub start_on : (hs : List Shape) (j : ℕ) → j < length hs → (shape_at hs j).count ≡ 0 → start_of hs j ≡ start_of hs (suc j)
unfolding start_of shape_at
start_on [] j l e = absurd (omega arith)
start_on (h ∷ hs) zero l e =
    let none : h.count * h.rounds ≡ 0 = ap (λ (n : ℕ). n * h.rounds) e ∙ zero-mul h.rounds in
    place_on h hs 0 (omega arith) ∙ ap (λ (n : ℕ). onward (place_of hs n)) (omega arith)
start_on (h ∷ hs) (suc j) l e = ap onward (start_on hs j (omega arith) e)

pub start_end : (hs : List Shape) → start_of hs (length hs) ≡ place (length hs) 0 0
unfolding start_of place_of
start_end [] = refl
start_end (h ∷ hs) = ap onward (start_end hs)

-- what k rounds of one call make of a place
unfoldable pub Moves : List Shape → ℕ → ℕ → Place → Type 0
Moves hs n k w =
    (w.round + k < (shape_at hs w.part).rounds → place_of hs (n + k) ≡ place w.part w.call (w.round + k))
    × (w.round + k ≡ (shape_at hs w.part).rounds
    → (suc w.call < (shape_at hs w.part).count → place_of hs (n + k) ≡ place w.part (suc w.call) 0)
    × (suc w.call ≡ (shape_at hs w.part).count → place_of hs (n + k) ≡ start_of hs (suc w.part)))

pub moves : (hs : List Shape) → EachSome hs → (n k : ℕ) → n < rounds_in hs → Moves hs n k (place_of hs n)
unfolding Moves EachSome rounds_in shape_at start_of
moves [] s n k l = absurd (omega arith)
moves (h ∷ hs) s n k l =
    elim (dec_lt n (h.count * h.rounds)) [
      | yes y ↦
          subst (Moves (h ∷ hs) n k) (sym (place_here h hs n y))
          (within-here h hs n k y s.0, λ b. (next-call-here h hs n k y s.0 b, next-part-here h hs n k y s.0 b))
      | no f ↦
          let j : ℕ = n - h.count * h.rounds in
          let m = moves hs s.1 j k (omega arith) in
          let e : place_of (h ∷ hs) (n + k) ≡ onward (place_of hs (j + k)) =
          place_on h hs (n + k) (omega arith) ∙ ap (λ (i : ℕ). onward (place_of hs i)) (omega arith) in
          subst (Moves (h ∷ hs) n k) (sym (place_on h hs n (omega arith)))
          (λ b. e ∙ ap onward (m.0 b), λ b. (λ c. e ∙ ap onward ((m.1 b).0 c), λ c. e ∙ ap onward ((m.1 b).1 c)))
    ]

-- ---- the place law: round n of the row is the round at which the walk stands

module _ {M : Type 0} where
  pub shape-part : (cs : List (Part M)) (j : ℕ) → (part_at cs j).shape ≡ shape_at (shapes cs) j
  unfolding part_at shape_at shapes
  shape-part [] j = refl
  shape-part (c ∷ cs) zero = refl
  shape-part (c ∷ cs) (suc j) = shape-part cs j

  pub rounds_at_lem : (cs : List (Part M)) (w : Place) → (call_at cs w).rounds ≡ (shape_at (shapes cs) w.part).rounds
  unfolding call_at call_of
  rounds_at_lem cs w = ap Shape.rounds (shape-part cs w.part)

  call-onward : (c : Part M) (cs : List (Part M)) (w : Place) → call_at cs w ≡ call_at (c ∷ cs) (onward w)
  unfolding call_at part_at
  call-onward c cs w = refl

  at_here : (c : Part M) (cs : List (Part M)) (n : ℕ) → 0 < c.shape.rounds → n < c.shape.count * c.shape.rounds
      → At (row (c ∷ cs)) n (call_of c (n / c.shape.rounds)) (n % c.shape.rounds)
  unfolding row part_row call_of
  at_here c cs n s h =
      at_front (row cs)
      (at_as (div-add-mod' n c.shape.rounds) (ap (call_of c) (zero-add (n / c.shape.rounds)))
      (at_calls (call_of c) c.shape.rounds (λ i. refl) c.shape.count 0 (n / c.shape.rounds) (n % c.shape.rounds)
      ((div-lt_iff_lt-mul s).1 h) (mod-lt n s)))

  at_later : (c : Part M) (cs : List (Part M)) (n : ℕ) (d : Call M) (k : ℕ) → c.shape.count * c.shape.rounds ≤ n
      → At (row cs) (n - c.shape.count * c.shape.rounds) d k → At (row (c ∷ cs)) n d k
  unfolding row
  at_later c cs n d k h a =
      at_as (ap (λ (j : ℕ). j + (n - c.shape.count * c.shape.rounds)) (total-part c) ∙ omega arith) refl (at_back (part_row c) a)

  pub at_place : (cs : List (Part M)) → EachSome (shapes cs) → (n : ℕ) → n < rounds_in (shapes cs)
      → At (row cs) n (call_at cs (place_of (shapes cs) n)) (place_of (shapes cs) n).round
  unfolding rounds_in shapes EachSome
  at_place [] s n h = absurd (omega arith)
  at_place (c ∷ cs) s n h =
      elim (dec_lt n (c.shape.count * c.shape.rounds)) [
        | yes k ↦
            subst (λ (w : Place). At (row (c ∷ cs)) n (call_at (c ∷ cs) w) w.round) (sym (place_here c.shape (shapes cs) n k))
            (unfold call_at part_at in at_here c cs n s.0 k)
        | no f ↦
            let j : ℕ = n - c.shape.count * c.shape.rounds in
            let w : Place = place_of (shapes cs) j in
            subst (λ (w : Place). At (row (c ∷ cs)) n (call_at (c ∷ cs) w) w.round) (sym (place_on c.shape (shapes cs) n (omega arith)))
            (at_later c cs n (call_at (c ∷ cs) (onward w)) w.round (omega arith)
            (subst (λ (d : Call M). At (row cs) j d w.round) (call-onward c cs w) (at_place cs s.1 j (omega arith))))
      ]
