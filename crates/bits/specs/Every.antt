-- A rule of a table, shown at all of its entries by one test that is computed.
-- Assumes nothing.
use Rattle.std.specs.Prelude.{◌≡◌, refl, Bool, true, false, ◌&&◌, List, [], ◌∷◌, ℕ, zero, suc, ◌<◌, get_or}
use Rattle.std.proofs.Common.{sym, not-suc-le-zero, arith, below_more}
use Rattle.std.specs.Bool.{beq}

-- the test passes at each number below n
unfoldable pub every : ℕ → (ℕ → Bool) → Bool
every zero f = true
every (suc n) f = every n f && f n

-- every test of a list passes
unfoldable pub passes : List Bool → Bool
passes [] = true
passes (b ∷ bs) = b && passes bs

-- the test passes at both digits
unfoldable pub both : (Bool → Bool) → Bool
both f = f false && f true

pub and_left : (a b : Bool) → (a && b) ≡ true → a ≡ true
and_left true b e = refl
and_left false b e = e

pub and_right : (a b : Bool) → (a && b) ≡ true → b ≡ true
and_right true b e = e
and_right false true e = refl
and_right false false e = e

pub every_at : (n : ℕ) (f : ℕ → Bool) → every n f ≡ true → (k : ℕ) → k < n → f k ≡ true
unfolding every
every_at zero f e k h = absurd (not-suc-le-zero h)
every_at (suc n) f e k h =
    below_more (λ (k : ℕ). f k ≡ true) n (every_at n f (and_left (every n f) (f n) e)) (and_right (every n f) (f n) e) k (omega arith)

pub passes_at : (bs : List Bool) → passes bs ≡ true → (i : ℕ) → get_or bs i true ≡ true
unfolding passes
passes_at [] e i = refl
passes_at (b ∷ bs) e zero = and_left b (passes bs) e
passes_at (b ∷ bs) e (suc i) = passes_at bs (and_right b (passes bs) e) i

pub both_at : (f : Bool → Bool) → both f ≡ true → (b : Bool) → f b ≡ true
unfolding both
both_at f e false = and_left (f false) (f true) e
both_at f e true = and_right (f false) (f true) e

pub same_bool : (a b : Bool) → beq a b ≡ true → a ≡ b
same_bool true true e = refl
same_bool true false e = sym e
same_bool false true e = e
same_bool false false e = refl

-- two functions of five digits have the same value at all thirty-two columns
unfoldable pub same5 : (f g : Bool → Bool → Bool → Bool → Bool → Bool) → Bool
same5 f g = both (λ a. both (λ b. both (λ c. both (λ d. both (λ e. beq (f a b c d e) (g a b c d e))))))

pub same5_at : (f g : Bool → Bool → Bool → Bool → Bool → Bool) → same5 f g ≡ true → (a b c d e : Bool) → f a b c d e ≡ g a b c d e
unfolding same5
same5_at f g t a b c d e =
    same_bool (f a b c d e) (g a b c d e)
    (both_at (λ e. beq (f a b c d e) (g a b c d e))
    (both_at (λ d. both (λ e. beq (f a b c d e) (g a b c d e)))
    (both_at (λ c. both (λ d. both (λ e. beq (f a b c d e) (g a b c d e))))
    (both_at (λ b. both (λ c. both (λ d. both (λ e. beq (f a b c d e) (g a b c d e)))))
    (both_at (λ a. both (λ b. both (λ c. both (λ d. both (λ e. beq (f a b c d e) (g a b c d e))))))
    t a) b) c) d) e)

-- ---- what is shown at 0, at 1, .., at n - 1 holds below n

abbrev pub Upto : (ℕ → Type 0) → ℕ → Type 0
Upto P zero = Unit {0}
Upto P (suc n) = Upto P n × P n

pub upto_at : (P : ℕ → Type 0) (n : ℕ) → Upto P n → (k : ℕ) → k < n → P k
upto_at P zero u k h = absurd (not-suc-le-zero h)
upto_at P (suc n) u k h = below_more P n (upto_at P n u.0) u.1 k (omega arith)
