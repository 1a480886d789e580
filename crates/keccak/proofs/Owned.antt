-- What owning a state by value tells of it: five planes of five lanes, each below 2 ^ 16.
-- Assumes nothing.
use mathlib.Core.Path.{◌≡◌}
use mathlib.Core.List.{List, [], ◌∷◌}
use Prim.Native.Nat.{ℕ, zero, suc, ◌^◌, ◌<◌}
use native.Mathlib.Nat.{not-suc-le-zero, le_of_suc-le-suc}
use lib.ListN.{length, get_or}
use mir.Syntax.{w16}
use mir.Val.{Val, Fits}
use denote.Array.{Array, each}
use denote.Laws.{Is}
use denote.Plain.{UInt}
use denote.Shadow.{shadow}
use borrow.Author.Rules.{elem_Fits}
use Rattle.keccak.specs.Lanes.{at, lane}

abbrev pub Owned : List (List ℕ) → List Val → Type 0
Owned a vs = Is (Array (Array (UInt w16) 5) 5) a vs

fit : (a : List (List ℕ)) (us : List Val) (x y : ℕ) → shadow (each (List ℕ) (Array (UInt w16) 5).own_val a us) → Fits w16 (lane a x y)
fit [] us x y h = elem_Fits w16 w16 [] [] x tt tt
fit (p ∷ a) [] x y h = absurd h
fit (p ∷ a) (u ∷ us) x zero h = elem_Fits w16 w16 p h.0.0 x h.0.1.1 tt
fit (p ∷ a) (u ∷ us) x (suc y) h = fit a us x y h.1

pub lanes_fit : (a : List (List ℕ)) (vs : List Val) → Owned a vs → (x y : ℕ) → lane a x y < 2 ^ 16
lanes_fit a vs h x y = (fit a h.0 x y h.1.1).fits

pub five_planes : (a : List (List ℕ)) (vs : List Val) → Owned a vs → length a ≡ 5
five_planes a vs h = h.1.0.1

pub long : (a : List (List ℕ)) (us : List Val) (y : ℕ) → y < length a → shadow (each (List ℕ) (Array (UInt w16) 5).own_val a us) → length (get_or a y []) ≡ 5
long [] us y l h = absurd (not-suc-le-zero l)
long (p ∷ a) [] y l h = absurd h
long (p ∷ a) (u ∷ us) zero l h = h.0.1.0.1
long (p ∷ a) (u ∷ us) (suc y) l h = long a us y (le_of_suc-le-suc l) h.1

pub five_lanes : (a : List (List ℕ)) (vs : List Val) → Owned a vs → (y : ℕ) → y < length a → length (get_or a y []) ≡ 5
five_lanes a vs h y l = long a h.0 y l h.1.1

-- of one plane
pub plane_fits : (p : List ℕ) (vs : List Val) → Is (Array (UInt w16) 5) p vs → (x : ℕ) → at p x < 2 ^ 16
plane_fits p vs h x = (elem_Fits w16 w16 p h.0 x h.1.1 tt).fits
