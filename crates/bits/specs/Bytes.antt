-- Byte strings are lists of numbers below 256.
-- Assumes nothing.
use Rattle.std.specs.Prelude.{◌≡◌, List, [], ◌∷◌, ◌++◌, ℕ, zero, suc, ◌+◌, ◌^◌, ◌<◌, length, get_or, take, drop, replicate}
use Rattle.std.proofs.Common.{ap₂, ◌∙◌, zero-lt-suc, length-append}
use Rattle.std.proofs.Math.Nat.{one-le-pow}

-- every element is a byte. (`get_or` past the end is 0, so no bound on the index is asked.)
pub record Bytes (s : List ℕ) : Type 0 where
  pub each : (i : ℕ) → get_or s i 0 < 256

-- a buffer of n bytes
pub record Buffer (n : ℕ) (s : List ℕ) : Type 0 where
  pub long : length s ≡ n
  pub bytes : Bytes s

pub head_byte : {b : ℕ} {s : List ℕ} → Bytes (b ∷ s) → b < 256
head_byte h = h.each 0

pub tail_bytes : {b : ℕ} {s : List ℕ} → Bytes (b ∷ s) → Bytes s
tail_bytes h = record { each = λ i. h.each (suc i) }

pub no_bytes : Bytes []
no_bytes = record { each = λ i. zero-lt-suc 255 }

pub cons_bytes : {b : ℕ} {s : List ℕ} → b < 256 → Bytes s → Bytes (b ∷ s)
cons_bytes {b} {s} hb hs = record { each = at }
  where
    at : (i : ℕ) → get_or (b ∷ s) i 0 < 256
    at zero = hb
    at (suc i) = hs.each i

pub bytes_take : (n : ℕ) {s : List ℕ} → Bytes s → Bytes (take n s)
bytes_take zero h = no_bytes
bytes_take (suc n) {s = []} h = no_bytes
bytes_take (suc n) {s = x ∷ s} h = cons_bytes (head_byte h) (bytes_take n (tail_bytes h))

pub bytes_drop : (n : ℕ) {s : List ℕ} → Bytes s → Bytes (drop n s)
bytes_drop zero h = h
bytes_drop (suc n) {s = []} h = no_bytes
bytes_drop (suc n) {s = x ∷ s} h = bytes_drop n (tail_bytes h)

pub bytes-append : {s t : List ℕ} → Bytes s → Bytes t → Bytes (s ++ t)
bytes-append {s = []} h k = k
bytes-append {s = x ∷ s} h k = cons_bytes (head_byte h) (bytes-append (tail_bytes h) k)

-- two buffers, one behind the other
pub appended : {m n : ℕ} {s t : List ℕ} → Buffer m s → Buffer n t → Buffer (m + n) (s ++ t)
appended {s = s} {t = t} h k =
    record { long = length-append s t ∙ ap₂ (λ (x y : ℕ). x + y) h.long k.long; bytes = bytes-append h.bytes k.bytes }

pub bytes-zeros : (n : ℕ) → Bytes (replicate n 0)
bytes-zeros zero = no_bytes
bytes-zeros (suc n) = cons_bytes (zero-lt-suc 255) (bytes-zeros n)

pub bytes_pos : (n : ℕ) → 0 < 256 ^ n
bytes_pos n = one-le-pow n 256 (zero-lt-suc 255)
