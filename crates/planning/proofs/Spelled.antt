-- The digits of a number below 10,000,000 are those that the library writes, seven at most.
-- Assumes nothing.
use mathlib.Core.Path.{◌≡◌, ap, ◌∙◌}
use mathlib.Core.List.{List, [], ◌∷◌, ◌++◌}
use Prim.Native.Nat.{ℕ, suc, ◌+◌, ◌/◌, ◌%◌, ◌≤◌, ◌<◌}
use native.Mathlib.Omega.{arith}
use lib.ListN.{length}
use borrow.Author.Tests.{lt-ltb, le-ltb}
use Rattle.std.specs.Prelude.{ltb}
use Rattle.std.proofs.Math.Decide.{dec_lt}
use Rattle.std.proofs.lemmas.Fmt.{decimal_digit, decimal_step, length-decimal-le}
use Rattle.std.specs.Fmt.{decimal as written}
use Rattle.bits.specs.Pick.{pick}
use Rattle.planning.specs.Lines.{digits, places, decimal}

one : (n : ℕ) → n < 10 → written n ≡ digits 1 n
unfolding digits
one n h =
    let e : n ≡ n % 10 = omega arith in
    decimal_digit n h ∙ ap (λ (d : ℕ). (48 + d) ∷ []) e

more : (k n : ℕ) → 10 ≤ n → n < 10000000 → written (n / 10) ≡ digits k (n / 10) → written n ≡ digits (suc k) n
unfolding digits
more k n l h e = decimal_step n l (omega arith) ∙ ap (λ (u : List ℕ). u ++ ((48 + n % 10) ∷ [])) e

two : (n : ℕ) → 10 ≤ n → n < 100 → written n ≡ digits 2 n
two n l h = more 1 n l (omega arith) (one (n / 10) (omega arith))

three : (n : ℕ) → 100 ≤ n → n < 1000 → written n ≡ digits 3 n
three n l h = more 2 n (omega arith) (omega arith) (two (n / 10) (omega arith) (omega arith))

four : (n : ℕ) → 1000 ≤ n → n < 10000 → written n ≡ digits 4 n
four n l h = more 3 n (omega arith) (omega arith) (three (n / 10) (omega arith) (omega arith))

five : (n : ℕ) → 10000 ≤ n → n < 100000 → written n ≡ digits 5 n
five n l h = more 4 n (omega arith) (omega arith) (four (n / 10) (omega arith) (omega arith))

six : (n : ℕ) → 100000 ≤ n → n < 1000000 → written n ≡ digits 6 n
six n l h = more 5 n (omega arith) (omega arith) (five (n / 10) (omega arith) (omega arith))

seven : (n : ℕ) → 1000000 ≤ n → n < 10000000 → written n ≡ digits 7 n
seven n l h = more 6 n (omega arith) h (six (n / 10) (omega arith) (omega arith))

step : (n b k rest : ℕ) → (n < b → written n ≡ digits k n) → (b ≤ n → written n ≡ digits rest n) → written n ≡ digits (pick (ltb n b) k rest) n
step n b k rest f g =
    elim (dec_lt n b) [
      | yes l ↦ rw (lt-ltb n b l) (f l)
      | no l ↦ let h : b ≤ n = omega arith in rw (le-ltb n b h) (g h)
    ]

pub spelled : (n : ℕ) → n < 10000000 → written n ≡ decimal n
unfolding places decimal
spelled n h =
    step n 10 1 _ (one n) (λ l.
    step n 100 2 _ (two n l) (λ l.
    step n 1000 3 _ (three n l) (λ l.
    step n 10000 4 _ (four n l) (λ l.
    step n 100000 5 _ (five n l) (λ l.
    step n 1000000 6 _ (six n l) (λ l. seven n l h))))))

pub at_most_seven : (n : ℕ) (s : List ℕ) → s ≡ written n → n < 10000000 → length s ≤ 7
at_most_seven n s e h = omega (arith, ap length e, length-decimal-le 7 n (omega arith) (omega arith) (omega arith))
