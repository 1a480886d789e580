-- What the code's strings come to: sixteen bytes and zeros, Shadow's first state, and a block of the data or of the ciphertext, whole or
-- short.
-- Assumes nothing.
use mathlib.Core.Path.{◌≡◌, sym, ap, ap₂, ◌∙◌}
use mathlib.Core.Bool.{Bool, true, false}
use mathlib.Core.List.{List, ◌++◌, append_assoc, append-nil}
use Prim.Native.Nat.{ℕ, ◌+◌, ◌-◌, ◌*◌, ◌≤◌, ◌<◌}
use native.Mathlib.Decide.{dec_lt}
use native.Mathlib.Omega.{arith}
use lib.Dec.{leb, eqb}
use lib.ListN.{length, take, drop, replicate, length-append, length-drop, drop_of_length-le}
use lib.Seq.{length-take-le, take_all, take_at}
use borrow.Author.Tests.{lt-ltb, le-leb, lt-leb, eq-eqb, ne_eqb}
use Rattle.bits.specs.Pick.{pick}
use Rattle.bits.specs.Put.{put, put_at, put_at_zero}
use Rattle.bits.specs.Strings.{xor_into, xor_at, block}
use Rattle.bits.specs.StringLaws.{length-block, length-xor_at, xor_into_pad}
use Rattle.s1p.specs.Paper.{blocks, iv, short_mark, padded, last_data, last_text}
use Rattle.s1p.specs.Counts.{blocks_are}
use Rattle.s1p.proofs.Laws.{length_iv}

-- ---- a whole buffer

-- words put back over a whole buffer
pub words_back : (u s r : List ℕ) → length s ≡ 64 → r ≡ u ++ drop 64 s → r ≡ u
words_back u s r h e = e ∙ ap (λ (t : List ℕ). u ++ t) (drop_of_length-le s {i = 64} (omega arith)) ∙ append-nil u

pub widened : (xs : List ℕ) → length xs ≡ 16 → put_at 0 xs (replicate 64 0) ≡ xs ++ replicate 48 0
unfolding put
widened xs h = put_at_zero xs (replicate 64 0) ∙ ap (λ (n : ℕ). xs ++ drop n (replicate 64 0)) h

pub started : (n b : List ℕ) → length n ≡ 16 → length b ≡ 16 → put_at 48 b (put_at 16 n (replicate 64 0)) ≡ iv n ++ b
unfolding put_at iv
started n b h k =
    let front = replicate 16 0 ++ (n ++ replicate 16 0) in
    let long : length front ≡ 48 = length_iv n h in
    let parted : replicate 16 0 ++ (n ++ replicate 32 0) ≡ front ++ replicate 16 0 =
    ap (λ (u : List ℕ). replicate 16 0 ++ u) (sym (append_assoc n (replicate 16 0) (replicate 16 0))) in
    ap (λ (i : ℕ). put_at 48 b (replicate 16 0 ++ (n ++ drop (16 + i) (replicate 64 0)))) h
    ∙ ap (put_at 48 b) parted
    ∙ ap₂ (λ (u v : List ℕ). u ++ (b ++ v)) (take_at front (replicate 16 0) 48 long)
    (drop_of_length-le (front ++ replicate 16 0) {i = 48 + length b} (omega (arith, length-append front (replicate 16 0))))
    ∙ ap (λ (u : List ℕ). front ++ u) (append-nil b)

-- both are as long as the state
pub started_long : (n s : List ℕ) → length n ≡ 16 → length s ≡ 64 → length (iv n ++ take 16 s) ≡ length s
started_long n s h k = length-append (iv n) (take 16 s) ∙ omega (arith, length_iv n h, length-take-le 16 s (omega arith))

pub closed_long : (b : Bool) (s g : List ℕ) → length s ≡ 64 → length g ≡ 16 → length (take 16 (pick b s g) ++ replicate 48 0) ≡ length s
closed_long true s g h k = length-append (take 16 s) (replicate 48 0) ∙ omega (arith, length-take-le 16 s (omega arith))
closed_long false s g h k = length-append (take 16 g) (replicate 48 0) ∙ omega (arith, length-take-le 16 g (omega arith))

-- ---- a block

pub block_long : (i : ℕ) (t : List ℕ) → i * 32 + 32 ≤ length t → length (block 32 i t) ≡ 32
block_long i t h = length-block 32 i t ∙ omega arith

module _ (i : ℕ) (t s : List ℕ) where
  abbrev rest : List ℕ
  rest = drop (i * 32) t

  module _ (h : i * 32 < length t) (k : length t < i * 32 + 32) where
    short : block 32 i t ≡ rest
    unfolding block
    short = take_all 32 rest (omega (arith, length-drop (i * 32) t))

    rest_long : length rest ≡ length t - i * 32
    rest_long = length-drop (i * 32) t

    pub data_short : 32 < length s → last_data (block 32 i t) s ≡ xor_at (length t - i * 32) 1 (xor_into rest (xor_at 32 2 s))
    unfolding last_data padded short_mark
    data_short l =
        ap (λ (a : List ℕ). last_data a s) short
        ∙ rw (lt-ltb (length rest) 32 (omega (arith, rest_long)))
        (xor_into_pad 1 rest (31 - length rest) (xor_at 32 2 s) (omega (arith, rest_long, length-xor_at 32 2 s))
        ∙ ap (λ (c : ℕ). xor_at c 1 (xor_into rest (xor_at 32 2 s))) rest_long)

    pub text_short : last_text (block 32 i t) s ≡ put rest (xor_at (length t - i * 32) 1 (xor_at 32 2 s))
    unfolding last_text short_mark
    text_short =
        ap (λ (a : List ℕ). last_text a s) short
        ∙ rw (lt-ltb (length rest) 32 (omega (arith, rest_long))) (ap (λ (c : ℕ). put rest (xor_at c 1 (xor_at 32 2 s))) rest_long)

-- ---- the data's end

-- blocks that are there are all of them where they reach the end
pub reaches : (done a : ℕ) → done ≤ blocks a → leb a (done * 32) ≡ eqb done (blocks a)
reaches done a h =
    elim (dec_lt (done * 32) a) [
      | yes y ↦ let n : done ≡ blocks a → ⊥ = λ e. omega (arith, (blocks_are a).0) in lt-leb a (done * 32) y ∙ sym (ne_eqb done (blocks a) n)
      | no z ↦ let e : done ≡ blocks a = omega (arith, (blocks_are a).1) in le-leb a (done * 32) (omega arith) ∙ sym (eq-eqb done (blocks a) e)
    ]
