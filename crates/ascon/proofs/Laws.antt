-- The laws of Ascon-p that callers go by, so that no proof above opens the definitions: a round keeps 40 bytes, and a call is a run of
-- such rounds (`bits`, `Run`), as words become bytes and come back unchanged.
-- Assumes nothing.
use Rattle.std.specs.Prelude.{◌≡◌, refl, List, ◌++◌, ℕ, zero, suc, ◌+◌, ◌-◌, ◌^◌, ◌≤◌, ◌<◌, length, take, drop}
use Rattle.std.proofs.Common.{sym, ap, ◌∙◌, mod-eq_of_lt, arith, lit≤, take_all}
use Rattle.std.proofs.lemmas.Nat.{xor_lt}
use Rattle.bits.specs.Digit.{bit}
use Rattle.bits.specs.Number.{number_lt}
use Rattle.bits.specs.Rotate.{rotr, rotr_lt}
use Rattle.bits.specs.Bytes.{Bytes, bytes_take, bytes_drop}
use Rattle.bits.specs.BigEndian.{be_bytes, from_be, from_be_lt, from_be-be_bytes, be_bytes-from_be}
use Rattle.bits.specs.Part.{length_part, parts, parts-take}
use Rattle.bits.specs.Run.{rounds, turns}
use Rattle.ascon.specs.declared.Words.{Words}
use Rattle.ascon.specs.Permutation.{sbox, column, substituted, p_c, p_s, sigma, p_l, p, words_of, bytes_of, ascon_round, ascon_p}
use Rattle.ascon.specs.Laws.{Fit}

-- ---- what a round gives has 64 digits, whatever it is given

sigma_lt : (a b : ℕ) {x : ℕ} → x < 2 ^ 64 → sigma a b x < 2 ^ 64
unfolding sigma
sigma_lt a b {x} h = xor_lt 64 _ (rotr 64 b x) (xor_lt 64 x (rotr 64 a x) h (rotr_lt 64 a x)) (rotr_lt 64 b x)

p_l_fit : (s : Words) → Fit s → Fit (p_l s)
unfolding p_l
p_l_fit s h =
    record {
      f0 = sigma_lt 19 28 h.f0;
      f1 = sigma_lt 61 39 h.f1;
      f2 = sigma_lt 1 6 h.f2;
      f3 = sigma_lt 10 17 h.f3;
      f4 = sigma_lt 7 41 h.f4;
    }

substituted_lt : (j : ℕ) (s : Words) → substituted j s < 2 ^ 64
unfolding substituted
substituted_lt j s = number_lt 64 (λ k. bit (sbox (column s k)) j)

p_s_fit : (s : Words) → Fit (p_s s)
unfolding p_s
p_s_fit s =
    record {
      f0 = substituted_lt 4 s;
      f1 = substituted_lt 3 s;
      f2 = substituted_lt 2 s;
      f3 = substituted_lt 1 s;
      f4 = substituted_lt 0 s;
    }

p_fit : (i : ℕ) (s : Words) → Fit (p i s)
unfolding p
p_fit i s = p_l_fit (p_s (p_c i s)) (p_s_fit (p_c i s))

-- ---- words to bytes and back

back : {x : ℕ} → x < 2 ^ 64 → from_be (be_bytes 8 x) ≡ x
back {x} h = from_be-be_bytes 8 x ∙ mod-eq_of_lt h

pub words_of-bytes_of : (w : Words) → Fit w → words_of (bytes_of w) ≡ w
unfolding words_of bytes_of be_bytes
words_of-bytes_of w h = λ i. record { x0 = back h.f0 i; x1 = back h.f1 i; x2 = back h.f2 i; x3 = back h.f3 i; x4 = back h.f4 i }

-- ---- bytes to words and back

module _ (s : List ℕ) (l : 40 ≤ length s) (h : Bytes s) where
  eight : (m : ℕ) → m + 8 ≤ 40 → length (take 8 (drop m s)) ≡ 8
  eight m k = length_part s m 8 (omega arith)

  bytes : (m : ℕ) → Bytes (take 8 (drop m s))
  bytes m = bytes_take 8 (bytes_drop m h)

  word_fits : (m : ℕ) → m + 8 ≤ 40 → from_be (take 8 (drop m s)) < 2 ^ 64
  word_fits m k = rw (eight m k) at (from_be_lt (take 8 (drop m s)) (bytes m))

  words_of-fit : Fit (words_of s)
  unfolding words_of
  words_of-fit =
      record {
        f0 = word_fits 0 (lit≤ tt);
        f1 = word_fits 8 (lit≤ tt);
        f2 = word_fits 16 (lit≤ tt);
        f3 = word_fits 24 (lit≤ tt);
        f4 = word_fits 32 (lit≤ tt);
      }

  word_back : (m : ℕ) → m + 8 ≤ 40 → be_bytes 8 (from_be (take 8 (drop m s))) ≡ take 8 (drop m s)
  word_back m k = ap (λ (n : ℕ). be_bytes n (from_be (take 8 (drop m s)))) (sym (eight m k)) ∙ be_bytes-from_be (take 8 (drop m s)) (bytes m)

  pub bytes_of-words_of : bytes_of (words_of s) ≡ take 40 s
  unfolding bytes_of words_of parts
  bytes_of-words_of =
      let b0 = word_back 0 (lit≤ tt) in
      let b1 = word_back 8 (lit≤ tt) in
      let b2 = word_back 16 (lit≤ tt) in
      let b3 = word_back 24 (lit≤ tt) in
      let b4 = word_back 32 (lit≤ tt) in
      (λ i. b0 i ++ b1 i ++ b2 i ++ b3 i ++ b4 i) ∙ parts-take 5 8 s

-- ---- a round on the state's bytes, and a call

-- a round on words is the round on the bytes that they stand for
pub round-bytes : (i : ℕ) (w : Words) → Fit w → bytes_of (p i w) ≡ ascon_round i (bytes_of w)
unfolding ascon_round
round-bytes i w h = ap (λ (v : Words). bytes_of (p i v)) (sym (words_of-bytes_of w h))

rounds-fit : (from k : ℕ) (w : Words) → Fit w → Fit (rounds p from k w)
unfolding rounds turns
rounds-fit from zero w h = h
rounds-fit from (suc k) w h = p_fit (from + k) (rounds p from k w)

rounds-bytes : (from k : ℕ) (w : Words) → Fit w → bytes_of (rounds p from k w) ≡ rounds ascon_round from k (bytes_of w)
unfolding rounds turns
rounds-bytes from zero w h = refl
rounds-bytes from (suc k) w h =
    round-bytes (from + k) (rounds p from k w) (rounds-fit from k w h) ∙ ap (ascon_round (from + k)) (rounds-bytes from k w h)

-- a call of r rounds is the run of the last r rounds on bytes
pub ascon_p-rounds : (r : ℕ) (s : List ℕ) → length s ≡ 40 → Bytes s → ascon_p r s ≡ rounds ascon_round (12 - r) r s
unfolding ascon_p
ascon_p-rounds r s l h =
    let long : 40 ≤ length s = omega arith in
    rounds-bytes (12 - r) r (words_of s) (words_of-fit s long h)
    ∙ ap (rounds ascon_round (12 - r) r) (bytes_of-words_of s long h ∙ take_all 40 s (omega arith))
