-- What parts of states and of initial values come to.
-- Assumes nothing.
use mathlib.Core.Path.{◌≡◌, refl, sym, ap, ◌∙◌}
use mathlib.Core.List.{List, [], ◌∷◌}
use Prim.Native.Nat.{ℕ, zero, suc, ◌-◌, ◌≤◌}
use native.Mathlib.Omega.{arith}
use lib.ListN.{take, drop, replicate}
use lib.Seq.{take-nil}

pub take-zeros : (k n : ℕ) → k ≤ n → take {A = ℕ} k (replicate n 0) ≡ replicate k 0
take-zeros zero n h = refl
take-zeros (suc k) zero h = absurd (omega arith)
take-zeros (suc k) (suc n) h = ap (λ (u : List ℕ). 0 ∷ u) (take-zeros k n (omega arith))

pub drop-take : (i n : ℕ) (s : List ℕ) → i ≤ n → drop i (take n s) ≡ take (n - i) (drop i s)
drop-take zero n s h = let e : n ≡ n - 0 = omega arith in ap (λ (k : ℕ). take k s) e
drop-take (suc i) zero s h = absurd (omega arith)
drop-take (suc i) (suc n) [] h = sym (take-nil (suc n - suc i))
drop-take (suc i) (suc n) (x ∷ s) h =
    let e : n - i ≡ suc n - suc i = omega arith in
    drop-take i n s (omega arith) ∙ ap (λ (k : ℕ). take k (drop i s)) e

-- eight bytes and zeros, as far as an instance's state goes
pub value-front : (n a b c d e f g h : ℕ) → 24 ≤ n → n ≤ 50
    → take (n - 16) (a ∷ b ∷ c ∷ d ∷ e ∷ f ∷ g ∷ h ∷ replicate 26 0) ≡ a ∷ b ∷ c ∷ d ∷ e ∷ f ∷ g ∷ h ∷ replicate (n - 24) 0
value-front n a b c d e f g h l m =
    let k = n - 24 in
    let long : n - 16 ≡ suc (suc (suc (suc (suc (suc (suc (suc k))))))) = omega arith in
    ap (λ (j : ℕ). take j (a ∷ b ∷ c ∷ d ∷ e ∷ f ∷ g ∷ h ∷ replicate 26 0)) long
    ∙ ap (λ (u : List ℕ). a ∷ b ∷ c ∷ d ∷ e ∷ f ∷ g ∷ h ∷ u) (take-zeros k 26 (omega arith))
