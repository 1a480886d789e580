-- A string put in the place of bytes of a buffer, from i on or from the start.
-- Assumes nothing.
use Rattle.std.specs.Prelude.{◌≡◌, ◌⊎◌, List, [], ◌++◌, ℕ, ◌+◌, ◌-◌, ◌≤◌, length, take, drop}
use Rattle.std.proofs.Common.{sym, ap, ap₂, ◌∙◌, inl, inr, append_assoc, append-nil, add-zero, zero-add, arith, length-append, length-drop, take-append-drop, drop_of_length-le, length-take-le, take_at, drop_at, take_all, drop-drop}
use Rattle.std.proofs.lemmas.List.{take-append-le, drop-append-le}
use Rattle.std.proofs.Math.Seq.{drop-append-add}
use Rattle.bits.specs.Bytes.{Bytes, bytes_take, bytes_drop, bytes-append}

unfoldable pub put_at : ℕ → List ℕ → List ℕ → List ℕ
put_at i xs s = take i s ++ (xs ++ drop (i + length xs) s)

unfoldable pub put : List ℕ → List ℕ → List ℕ
put xs s = xs ++ drop (length xs) s

pub length-put_at : (i : ℕ) (xs s : List ℕ) → i + length xs ≤ length s → length (put_at i xs s) ≡ length s
unfolding put_at
length-put_at i xs s h = rw (length-append, length-append, length-take-le i s (omega arith), length-drop) (omega arith)

pub length-put : (xs s : List ℕ) → length xs ≤ length s → length (put xs s) ≡ length s
unfolding put
length-put xs s h = rw (length-append, length-drop) (omega arith)

pub bytes-put_at : (i : ℕ) (xs s : List ℕ) → Bytes xs → Bytes s → Bytes (put_at i xs s)
unfolding put_at
bytes-put_at i xs s h k = bytes-append (bytes_take i k) (bytes-append h (bytes_drop (i + length xs) k))

pub bytes-put : (xs s : List ℕ) → Bytes xs → Bytes s → Bytes (put xs s)
unfolding put
bytes-put xs s h k = bytes-append h (bytes_drop (length xs) k)

pub put_front : (xs s t : List ℕ) → length xs ≡ length s → put xs (s ++ t) ≡ xs ++ t
unfolding put
put_front xs s t h = ap (λ (l : List ℕ). xs ++ l) (drop_at s t (length xs) (sym h))

-- what is put into the first bytes of a longer buffer leaves the others
pub put-within : (xs s t : List ℕ) → length xs ≤ length s → put xs (s ++ t) ≡ put xs s ++ t
unfolding put
put-within xs s t h = ap (λ (u : List ℕ). xs ++ u) (drop-append-le (length xs) s t h) ∙ sym (append_assoc xs (drop (length xs) s) t)

pub put_at-within : (i : ℕ) (xs s t : List ℕ) → i + length xs ≤ length s → put_at i xs (s ++ t) ≡ put_at i xs s ++ t
unfolding put_at
put_at-within i xs s t h =
    let rest = drop (i + length xs) s in
    ap₂ (λ (u v : List ℕ). u ++ (xs ++ v)) (take-append-le i s t (omega arith)) (drop-append-le (i + length xs) s t h)
    ∙ ap (λ (u : List ℕ). take i s ++ u) (sym (append_assoc xs rest t))
    ∙ sym (append_assoc (take i s) (xs ++ rest) t)

-- a string put at i, up to its end: where it fits exactly, and where nothing follows it
pub take-put_at : (i n : ℕ) (xs s : List ℕ) → i + length xs ≤ length s → (n ≡ i + length xs) ⊎ (length s ≡ i + length xs) → i + length xs ≤ n
    → take n (put_at i xs s) ≡ take i s ++ xs
unfolding put_at
take-put_at i n xs s h (inl e) b =
    ap (take n) (sym (append_assoc (take i s) xs (drop (i + length xs) s)))
    ∙ take_at (take i s ++ xs) (drop (i + length xs) s) n (length-append (take i s) xs ∙ rw (length-take-le i s (omega arith)) (sym e))
take-put_at i n xs s h (inr e) b =
    ap (λ (u : List ℕ). take n (take i s ++ (xs ++ u))) (drop_of_length-le s {i = i + length xs} (omega arith))
    ∙ ap (λ (u : List ℕ). take n (take i s ++ u)) (append-nil xs)
    ∙ take_all n (take i s ++ xs) (rw (length-append, length-take-le i s (omega arith)) b)

-- a string put at n: what stands before it, and what stands behind it
pub take-put_at-before : (n : ℕ) (xs s : List ℕ) → n ≤ length s → take n (put_at n xs s) ≡ take n s
unfolding put_at
take-put_at-before n xs s h = take_at (take n s) (xs ++ drop (n + length xs) s) n (length-take-le n s h)

pub drop-put_at-behind : (n k : ℕ) (xs s : List ℕ) → n + length xs ≤ length s → n + length xs ≤ k → drop k (put_at n xs s) ≡ drop k s
unfolding put_at
drop-put_at-behind n k xs s h b =
    let front = take n s ++ xs in
    let long : length front ≡ n + length xs = length-append (take n s) xs ∙ ap (λ (i : ℕ). i + length xs) (length-take-le n s (omega arith)) in
    let rest = k - (n + length xs) in
    let at : k ≡ length front + rest = omega arith in
    let same : n + length xs + rest ≡ k = omega arith in
    ap₂ drop at (sym (append_assoc (take n s) xs (drop (n + length xs) s)))
    ∙ drop-append-add front (drop (n + length xs) s) rest
    ∙ drop-drop rest (n + length xs) s
    ∙ ap (λ (i : ℕ). drop i s) same

-- two strings, one behind the other, are one
pub put_at_then : (i : ℕ) (xs ys s : List ℕ) → i + length xs ≤ length s → put_at (i + length xs) ys (put_at i xs s) ≡ put_at i (xs ++ ys) s
unfolding put_at
put_at_then i xs ys s h =
    let front = take i s ++ xs in
    let rest = drop (i + length xs) s in
    let long : length front ≡ i + length xs = length-append (take i s) xs ∙ ap (λ (n : ℕ). n + length xs) (length-take-le i s (omega arith)) in
    let ends : i + length xs + length ys ≡ i + length (xs ++ ys) = omega (arith, length-append xs ys) in
    ap (λ (u : List ℕ). take (i + length xs) u ++ (ys ++ drop (i + length xs + length ys) u)) (sym (append_assoc (take i s) xs rest))
    ∙ ap₂ (λ (u v : List ℕ). u ++ (ys ++ v)) (take_at front rest (i + length xs) long)
    (ap (λ (n : ℕ). drop (n + length ys) (front ++ rest)) (sym long) ∙ drop-append-add front rest (length ys) ∙ drop-drop (length ys) (i + length xs) s)
    ∙ append_assoc (take i s) xs (ys ++ drop (i + length xs + length ys) s)
    ∙ ap (λ (u : List ℕ). take i s ++ u) (sym (append_assoc xs ys (drop (i + length xs + length ys) s)))
    ∙ ap (λ (n : ℕ). take i s ++ ((xs ++ ys) ++ drop n s)) ends

pub put_at_none : (i : ℕ) (s : List ℕ) → put_at i [] s ≡ s
unfolding put_at
put_at_none i s = ap (λ (k : ℕ). take i s ++ drop k s) (add-zero i) ∙ take-append-drop i s

pub put_at_zero : (xs s : List ℕ) → put_at 0 xs s ≡ put xs s
unfolding put_at put
put_at_zero xs s = ap (λ (k : ℕ). xs ++ drop k s) (zero-add (length xs))

-- a string put behind the first i bytes
pub put_at_keep : (i : ℕ) (ys s : List ℕ) → i ≤ length s → put_at i ys s ≡ put (take i s ++ ys) s
unfolding put_at put
put_at_keep i ys s h =
    sym (append_assoc (take i s) ys (drop (i + length ys) s))
    ∙ ap (λ (k : ℕ). (take i s ++ ys) ++ drop k s) (ap (λ (k : ℕ). k + length ys) (sym (length-take-le i s h)) ∙ sym (length-append (take i s) ys))
