-- Shadow-512's rounds on 64 bytes, and the laws that callers go by: bundles become bytes and come back unchanged, so a run of rounds on
-- bundles is the run on the bytes that they stand for.
-- Assumes nothing.
use Rattle.std.specs.Prelude.{◌≡◌, refl, ℕ, zero, suc, ◌+◌, ◌*◌, ◌/◌, ◌%◌, ◌≤◌, ◌<◌, length, get_or, take, drop}
use Rattle.std.proofs.Math.Path.{sym}
use Rattle.std.proofs.Common.{ap, ◌∙◌, arith, lit≤, length-drop, take_all, get_or-drop}
use mathlib.Core.List.{List, [], ◌∷◌, ◌++◌, append_assoc}
use Rattle.bits.specs.Bytes.{Bytes, Buffer, bytes_drop, appended}
use Rattle.bits.specs.Digit.{bit}
use Rattle.bits.specs.Every.{upto_at}
use Rattle.bits.specs.LittleEndian.{le_bytes}
use Rattle.bits.specs.Part.{parts, parts-take}
use Rattle.bits.specs.Run.{turns, rounds, Keeps}
use Rattle.clyde.specs.declared.Rows.{Rows}
use Rattle.clyde.specs.Clyde.{rows_of, bytes_of}
use Rattle.clyde.specs.OnBytes.{row, B}
use Rattle.clyde.proofs.OnBytes.{row-bits, rows_are, rows_of-fit, rows_of-bytes_of, bytes_of-rows_of}
use Rattle.shadow.specs.declared.Bundles.{Bundles}
use Rattle.shadow.specs.Shadow.{round, shadow, shadow-rounds}
use Rattle.shadow.specs.Fits.{Fits, round-fits}

-- x[b, i, j] = B[128 b + 32 i + j]: bundle b is bytes 16 b to 16 b + 15
unfoldable pub bundles_of : List ℕ → Bundles
bundles_of s = record { b0 = rows_of s; b1 = rows_of (drop 16 s); b2 = rows_of (drop 32 s); b3 = rows_of (drop 48 s) }

unfoldable pub bundle_bytes : Bundles → List ℕ
bundle_bytes x = bytes_of x.b0 ++ (bytes_of x.b1 ++ (bytes_of x.b2 ++ bytes_of x.b3))

-- round i of Shadow-512
unfoldable pub shadow_turn : ℕ → List ℕ → List ℕ
shadow_turn i s = bundle_bytes (round i (bundles_of s))

-- ---- x[b, i, j] = B[128 b + 32 i + j]

abbrev pub bundle : Bundles → ℕ → Rows
bundle x b = get_or (x.b0 ∷ x.b1 ∷ x.b2 ∷ x.b3 ∷ []) b x.b0

pub bundle-bits : (s : List ℕ) → Bytes s → (b i j : ℕ) → b < 4 → i < 4 → j < 32
    → bit (row (bundle (bundles_of s) b) i) j ≡ B s (128 * b + 32 * i + j)
unfolding bundles_of
bundle-bits s h b i j l hi hj =
    upto_at (λ (b : ℕ). bit (row (bundle (bundles_of s) b) i) j ≡ B s (128 * b + 32 * i + j)) 4 (
      (
        ((tt, row-bits s h i j hi hj ∙ place 0 (128 * 0) refl), row-bits (drop 16 s) (bytes_drop 16 h) i j hi hj ∙ place 16 (128 * 1) refl),
        row-bits (drop 32 s) (bytes_drop 32 h) i j hi hj ∙ place 32 (128 * 2) refl,
      ),
      row-bits (drop 48 s) (bytes_drop 48 h) i j hi hj ∙ place 48 (128 * 3) refl,
    )
    b l
  where
    -- n bytes on are 8 n bits on
    place : (n m : ℕ) → m ≡ 8 * n → B (drop n s) (32 * i + j) ≡ B s (m + 32 * i + j)
    place n m e =
        let p : n + (32 * i + j) / 8 ≡ (m + 32 * i + j) / 8 = omega arith in
        let q : (32 * i + j) % 8 ≡ (m + 32 * i + j) % 8 = omega arith in
        ap (λ (x : ℕ). bit x ((32 * i + j) % 8)) (get_or-drop n s ((32 * i + j) / 8) 0) ∙ (λ a. bit (get_or s (p a) 0) (q a))

-- ---- bundles to bytes

pub bundles_are : (x : Bundles) → Buffer 64 (bundle_bytes x)
unfolding bundle_bytes
bundles_are x = appended (rows_are x.b0) (appended (rows_are x.b1) (appended (rows_are x.b2) (rows_are x.b3)))

pub shadow-keeps : Keeps 64 shadow_turn
unfolding shadow_turn
shadow-keeps = record { long = λ i s h. (bundles_are _).long; bytes = λ i s h b. (bundles_are _).bytes }

-- ---- and back

pub bundles_of-bundle_bytes : (x : Bundles) → Fits x → bundles_of (bundle_bytes x) ≡ x
unfolding bundles_of bundle_bytes rows_of bytes_of le_bytes
bundles_of-bundle_bytes x h =
    let e0 = rows_of-bytes_of x.b0 h.f0 in
    let e1 = rows_of-bytes_of x.b1 h.f1 in
    let e2 = rows_of-bytes_of x.b2 h.f2 in
    let e3 = rows_of-bytes_of x.b3 h.f3 in
    λ i. record { b0 = e0 i; b1 = e1 i; b2 = e2 i; b3 = e3 i }

module _ (s : List ℕ) (l : 64 ≤ length s) (h : Bytes s) where
  long : (m : ℕ) → m + 16 ≤ 64 → 16 ≤ length (drop m s)
  long m k = omega (arith, length-drop m s)

  pub bundles_of-fits : Fits (bundles_of s)
  unfolding bundles_of
  bundles_of-fits =
      record {
        f0 = rows_of-fit s (omega arith) h;
        f1 = rows_of-fit (drop 16 s) (long 16 (lit≤ tt)) (bytes_drop 16 h);
        f2 = rows_of-fit (drop 32 s) (long 32 (lit≤ tt)) (bytes_drop 32 h);
        f3 = rows_of-fit (drop 48 s) (long 48 (lit≤ tt)) (bytes_drop 48 h);
      }

  pub bundle_bytes-bundles_of : bundle_bytes (bundles_of s) ≡ take 64 s
  unfolding bundle_bytes bundles_of parts
  bundle_bytes-bundles_of =
      let e0 = bytes_of-rows_of s (omega arith) h in
      let e1 = bytes_of-rows_of (drop 16 s) (long 16 (lit≤ tt)) (bytes_drop 16 h) in
      let e2 = bytes_of-rows_of (drop 32 s) (long 32 (lit≤ tt)) (bytes_drop 32 h) in
      let e3 = bytes_of-rows_of (drop 48 s) (long 48 (lit≤ tt)) (bytes_drop 48 h) in
      (λ i. e0 i ++ (e1 i ++ (e2 i ++ e3 i)))
      ∙ sym (regroup (take 16 s) (take 16 (drop 16 s)) (take 16 (drop 32 s)) (take 16 (drop 48 s))) ∙ parts-take 4 16 s
    where
      regroup : (a b c d : List ℕ) → a ++ b ++ c ++ d ≡ a ++ (b ++ (c ++ d))
      regroup a b c d = simp append_assoc

-- ---- a run of rounds on bundles is the run on the bytes that they stand for

rounds-fits : (from k : ℕ) (x : Bundles) → Fits x → Fits (rounds round from k x)
unfolding rounds turns
rounds-fits from zero x h = h
rounds-fits from (suc k) x h = round-fits (from + k) (rounds round from k x)

pub rounds-bytes : (from k : ℕ) (x : Bundles) → Fits x → bundle_bytes (rounds round from k x) ≡ rounds shadow_turn from k (bundle_bytes x)
unfolding rounds turns shadow_turn
rounds-bytes from zero x h = refl
rounds-bytes from (suc k) x h =
    ap (λ (y : Bundles). bundle_bytes (round (from + k) y)) (sym (bundles_of-bundle_bytes (rounds round from k x) (rounds-fits from k x h)))
    ∙ ap (λ (s : List ℕ). bundle_bytes (round (from + k) (bundles_of s))) (rounds-bytes from k x h)

-- twelve rounds on bytes are Algorithm 2
pub shadow-turns : (s : List ℕ) → Buffer 64 s → turns shadow_turn 12 s ≡ bundle_bytes (shadow (bundles_of s))
unfolding rounds turns
shadow-turns s h =
    let l : 64 ≤ length s = omega arith in
    ap (turns shadow_turn 12) (sym (bundle_bytes-bundles_of s l h.bytes ∙ take_all 64 s (omega arith)))
    ∙ sym (rounds-bytes 0 12 (bundles_of s) (bundles_of-fits s l h.bytes))
    ∙ ap bundle_bytes (shadow-rounds (bundles_of s))
