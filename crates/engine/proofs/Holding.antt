-- What a loop keeps that holds the state in words from call to call: the words' bytes, and behind them what lies beyond the state, are the
-- state after so many calls. For any permutation.
-- Assumes nothing.
use mathlib.Core.Path.{◌≡◌, sym, ap, ap₂, subst, ◌∙◌}
use mathlib.Core.List.{List, ◌++◌}
use Prim.Native.Nat.{ℕ, suc, ◌+◌, ◌-◌, ◌*◌, ◌≤◌, ◌<◌}
use native.Mathlib.Nat.{mul-le-mul_right, suc-mul, sub_self}
use native.Mathlib.Numerals.{add-one}
use native.Mathlib.Omega.{arith}
use lib.ListN.{length, take, drop, length-append, length-drop, take-append-drop}
use lib.Seq.{take_at, drop_at, length-take-le}
use Rattle.bits.specs.Part.{length_part}
use Rattle.bits.specs.Put.{put_at}
use Rattle.bits.specs.Run.{rounds, run, Keeps, length-rounds}
use Rattle.bits.proofs.Run.{run-front}
use Rattle.bits.specs.Xors.{xors, length-xors, xors-front}
use Rattle.bits.specs.Strings.{xor_into, block}
use Rattle.bits.specs.StringLaws.{xor_into-front}
use Rattle.engine.specs.Fed.{fed, block_in, nothing_in, written_by}

-- ---- what enters, on the words' bytes u with t behind them

pub block-enters : (b : ℕ) (x u t v : List ℕ) → length x ≡ b → b ≤ length u → v ≡ xors u x ++ drop b u → xor_into x (u ++ t) ≡ v ++ t
unfolding xor_into
block-enters b x u t v l h e =
    xor_into-front x u t (omega arith) ∙ ap (λ (w : List ℕ). w ++ t) (ap (λ (n : ℕ). xors u x ++ drop n u) l ∙ sym e)

-- a string xored into the first bytes leaves the length
pub entered_long : (b n : ℕ) (x u v : List ℕ) → length x ≡ b → b ≤ n → length u ≡ n → v ≡ xors u x ++ drop b u → length v ≡ n
entered_long b n x u v l h k e =
    ap length e ∙ length-append (xors u x) (drop b u) ∙ ap₂ (λ (a c : ℕ). a + c) (length-xors u x) (length-drop b u) ∙ omega arith

-- call i's block is in a string that has the blocks of n calls
pub in_string : (b i n : ℕ) (t : List ℕ) → i < n → n * b ≤ length t → i * b + b ≤ length t
in_string b i n t l h = omega (arith, mul-le-mul_right b l, suc-mul i b)

-- ---- the loop

module _ (n : ℕ) (r : ℕ → List ℕ → List ℕ) (from count : ℕ) (g : ℕ → List ℕ → List ℕ) (first : ℕ) (state : List ℕ) where
  abbrev f : List ℕ → List ℕ
  f s = run n r from count s

  -- u holds the state after k calls
  pub record Holds (k : ℕ) (u : List ℕ) : Type 0 where
    pub long : length u ≡ n
    pub is : u ++ drop n state ≡ fed f g first k state

  pub holds-start : (u : List ℕ) → n ≤ length state → u ≡ take n state → Holds 0 u
  unfolding fed
  holds-start u h e =
      record {
        long = ap length e ∙ length-take-le n state h;
        is = ap (λ (w : List ℕ). w ++ drop n state) e ∙ take-append-drop n state;
      }

  -- one call more: v is u with what enters, w the rounds of v
  pub holds_more : Keeps n r → (k : ℕ) (u v w : List ℕ) → Holds k u → g (first + k) (u ++ drop n state) ≡ v ++ drop n state → length v ≡ n
      → w ≡ rounds r from count v → Holds (k + 1) w
  unfolding fed
  holds_more keeps k u v w h e l q =
      let t = drop n state in
      record {
        long = ap length q ∙ length-rounds keeps from count v l;
        is =
            ap (λ (z : List ℕ). z ++ t) q
            ∙ sym (run-front keeps from count (v ++ t) (omega (arith, length-append v t))
            ∙ ap₂ (λ (x y : List ℕ). rounds r from count x ++ y) (take_at v t n l) (drop_at v t n l))
            ∙ ap f (sym e ∙ ap (g (first + k)) h.is)
            ∙ ap (λ (i : ℕ). fed f g first i state) (sym (add-one k));
      }

  -- the words put back
  pub holds_end : (k calls : ℕ) (u s : List ℕ) → Holds k u → s ≡ u ++ drop n state → k ≡ calls → s ≡ fed f g first calls state
  holds_end k calls u s h e all = e ∙ h.is ∙ ap (λ (i : ℕ). fed f g first i state) all

  -- the same in a loop over the calls' own numbers i, from the first on

  pub holds_start-at : (u : List ℕ) → n ≤ length state → u ≡ take n state → Holds (first - first) u
  holds_start-at u h e = subst (λ (k : ℕ). Holds k u) (sym (sub_self first)) (holds-start u h e)

  pub holds_more-at : Keeps n r → (i : ℕ) (u v w : List ℕ) → first ≤ i → Holds (i - first) u → g i (u ++ drop n state) ≡ v ++ drop n state
      → length v ≡ n → w ≡ rounds r from count v → Holds (i + 1 - first) w
  holds_more-at keeps i u v w le h e l q =
      let here : first + (i - first) ≡ i = omega arith in
      let next : i - first + 1 ≡ i + 1 - first = omega arith in
      subst (λ (k : ℕ). Holds k w) next
      (holds_more keeps (i - first) u v w h (ap (λ (j : ℕ). g j (u ++ drop n state)) here ∙ e) l q)

-- a call more, with its block of t
module _ {n : ℕ} {r : ℕ → List ℕ → List ℕ} (keeps : Keeps n r) (from count first : ℕ) (state : List ℕ) where
  pub block_more : (b : ℕ) (t : List ℕ) (i : ℕ) (u v w : List ℕ) → first ≤ i → Holds n r from count (block_in b t) first state (i - first) u → b ≤ n
      → i * b + b ≤ length t
      → v ≡ xors u (take (i * b + b - i * b) (drop (i * b) t)) ++ drop b u
      → w ≡ rounds r from count v → Holds n r from count (block_in b t) first state (i + 1 - first) w
  unfolding block
  block_more b t i u v w le h bn l e d =
      let x = take b (drop (i * b) t) in
      let size : i * b + b - i * b ≡ b = omega arith in
      let q = e ∙ ap (λ (k : ℕ). xors u (take k (drop (i * b) t)) ++ drop b u) size in
      let lx : length x ≡ b = length_part t (i * b) b l in
      holds_more-at n r from count (block_in b t) first state keeps i u v w le h
      (block-enters b x u (drop n state) v lx (omega (arith, h.long)) q)
      (entered_long b n x u v lx bn h.long q) d

-- a block written: x is the call's block of the text, u the words' bytes after its rounds
module _ (n : ℕ) (r : ℕ → List ℕ → List ℕ) (from count first : ℕ) (state : List ℕ) (b : ℕ) (text out : List ℕ) where
  pub writes_more : (k : ℕ) (u o o' : List ℕ) → Holds n r from count nothing_in first state (k + 1) u
      → b ≤ n → (first + k) * b + b ≤ length text → o ≡ written_by (λ s. run n r from count s) b text first k state out
      → o' ≡ take ((first + k) * b) o ++ (xors u (take b (drop ((first + k) * b) text)) ++ drop ((first + k) * b + b) o)
      → o' ≡ written_by (λ s. run n r from count s) b text first (k + 1) state out
  unfolding written_by put_at block
  writes_more k u o o' h bn lt e q =
      let x = take b (drop ((first + k) * b) text) in
      let at = (first + k) * b in
      let l : length x ≡ b = length_part text at b lt in
      let f : List ℕ → List ℕ = λ s. run n r from count s in
      let lx : length (xors u x) ≡ b = length-xors u x ∙ omega (arith, h.long) in
      let same : xors u x ≡ xors (fed f nothing_in first (suc k) state) x =
      sym (xors-front u (drop n state) x (omega (arith, h.long))) ∙ ap (λ (s : List ℕ). xors s x) (h.is ∙ ap (λ (i : ℕ). fed f nothing_in first i state) (add-one k)) in
      q
      ∙ ap (λ (i : ℕ). take at o ++ (xors u x ++ drop (at + i) o)) (sym lx)
      ∙ ap₂ (λ (y z : List ℕ). put_at at y z) same e
      ∙ ap (λ (i : ℕ). written_by f b text first i state out) (sym (add-one k))

  -- the output before call i, in a loop over the calls' own numbers
  abbrev pub so_far : ℕ → List ℕ
  so_far i = written_by (λ s. run n r from count s) b text first (i - first) state out

  pub so_far-start : out ≡ so_far first
  unfolding written_by
  so_far-start = ap (λ (k : ℕ). written_by (λ s. run n r from count s) b text first k state out) (sym (sub_self first))

  pub so_far-more : (i : ℕ) (u o o' : List ℕ) → first ≤ i → Holds n r from count nothing_in first state (i + 1 - first) u
      → b ≤ n → i * b + b ≤ length text → o ≡ so_far i
      → o' ≡ take (i * b) o ++ (xors u (take b (drop (i * b) text)) ++ drop (i * b + b) o)
      → o' ≡ so_far (i + 1)
  so_far-more i u o o' le h bn lt e q =
      let k = i - first in
      let here : i ≡ first + k = omega arith in
      let next : i + 1 - first ≡ k + 1 = omega arith in
      writes_more k u o o' (subst (λ (j : ℕ). Holds n r from count nothing_in first state j u) next h) bn
      (subst (λ (j : ℕ). j * b + b ≤ length text) here lt) e
      (q ∙ ap (λ (j : ℕ). take (j * b) o ++ (xors u (take b (drop (j * b) text)) ++ drop (j * b + b) o)) here)
      ∙ ap (λ (j : ℕ). written_by (λ s. run n r from count s) b text first j state out) (sym next)

  pub so_far-end : (i calls : ℕ) (o : List ℕ) → o ≡ so_far i → i - first ≡ calls → o ≡ written_by (λ s. run n r from count s) b text first calls state out
  so_far-end i calls o e all = e ∙ ap (λ (k : ℕ). written_by (λ s. run n r from count s) b text first k state out) all
