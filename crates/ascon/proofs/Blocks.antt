-- A block xored into the first word is xored into the state's first eight bytes.
-- Assumes nothing.
use mathlib.Core.Path.{◌≡◌, sym, ap, ap₂, ◌∙◌}
use mathlib.Core.List.{List, ◌++◌, append_assoc}
use Prim.Native.Nat.{ℕ, ◌≤◌}
use native.Mathlib.Omega.{arith}
use lib.ListN.{length, drop}
use lib.Seq.{drop_at}
use lib.Bits.{bit_xor}
use Rattle.bits.specs.Bytes.{Bytes}
use Rattle.bits.specs.BigEndian.{be_bytes, from_be, length-be_bytes, be_bytes-from_be, be_bytes-xor}
use Rattle.bits.specs.Xors.{xors, xors-front}
use Rattle.ascon.specs.declared.Words.{Words}
use Rattle.ascon.specs.Permutation.{bytes_of}

-- the state with another first word
abbrev pub with_first : Words → ℕ → Words
with_first w x = record { x0 = x; x1 = w.x1; x2 = w.x2; x3 = w.x3; x4 = w.x4 }

-- the bytes behind the first word's
abbrev rest : Words → List ℕ
rest w = be_bytes 8 w.x1 ++ (be_bytes 8 w.x2 ++ (be_bytes 8 w.x3 ++ be_bytes 8 w.x4))

apart : (w : Words) (x : ℕ) → bytes_of (with_first w x) ≡ be_bytes 8 x ++ rest w
unfolding bytes_of
apart w x = simp append_assoc

module _ (w : Words) (t : List ℕ) (e : length t ≡ 8) (h : Bytes t) where
  first_word : be_bytes 8 (bit_xor w.x0 (from_be t)) ≡ xors (be_bytes 8 w.x0) t
  first_word =
      be_bytes-xor 8 w.x0 (from_be t)
      ∙ ap (xors (be_bytes 8 w.x0)) (ap (λ (n : ℕ). be_bytes n (from_be t)) (sym e) ∙ be_bytes-from_be t h)

  -- what the first word becomes is what the block becomes
  pub block_out : be_bytes 8 (bit_xor w.x0 (from_be t)) ≡ xors (bytes_of w) t
  block_out =
      let short : length t ≤ length (be_bytes 8 w.x0) = omega (arith, length-be_bytes 8 w.x0) in
      first_word ∙ sym (ap (λ (s : List ℕ). xors s t) (apart w w.x0) ∙ xors-front (be_bytes 8 w.x0) (rest w) t short)

  pub block_in_lem : bytes_of (with_first w (bit_xor w.x0 (from_be t))) ≡ xors (bytes_of w) t ++ drop 8 (bytes_of w)
  block_in_lem =
      apart w (bit_xor w.x0 (from_be t))
      ∙ ap₂ (λ (s u : List ℕ). s ++ u) block_out
      (sym (ap (drop 8) (apart w w.x0) ∙ drop_at (be_bytes 8 w.x0) (rest w) 8 (length-be_bytes 8 w.x0)))
