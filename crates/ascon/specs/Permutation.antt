-- Ascon-p (document 001, Appendix B; the S-box's table from document 01, 'Permutations'): a round is p = p_l ∘ p_s ∘ p_c on five words of
-- 64 bits, and a call of r rounds uses the last r of the twelve constants.
-- Assumes nothing.
use Rattle.std.specs.Prelude.{Bool, List, [], ◌∷◌, ◌++◌, ℕ, ◌+◌, ◌-◌, ◌*◌, get_or, take, drop}
use Rattle.std.specs.Int.Bits.{bit_xor}
use Rattle.bits.specs.Digit.{bit}
use Rattle.bits.specs.Number.{number, value}
use Rattle.bits.specs.Rotate.{rotr}
use Rattle.bits.specs.BigEndian.{be_bytes, from_be}
use Rattle.bits.specs.Run.{rounds}
use Rattle.ascon.specs.declared.Words.{Words}

-- ---- addition of constants, p_c

-- Table B.2: the constants of a call of twelve rounds
unfoldable pub constants : List ℕ
constants = 0xf0 ∷ 0xe1 ∷ 0xd2 ∷ 0xc3 ∷ 0xb4 ∷ 0xa5 ∷ 0x96 ∷ 0x87 ∷ 0x78 ∷ 0x69 ∷ 0x5a ∷ 0x4b ∷ []

unfoldable pub p_c : ℕ → Words → Words
p_c i s = record { x0 = s.x0; x1 = s.x1; x2 = bit_xor s.x2 (get_or constants i 0); x3 = s.x3; x4 = s.x4 }

-- ---- substitution layer, p_s

-- what stands at place x is S(x)
unfoldable pub sbox_table : List ℕ
sbox_table =
    4 ∷ 11 ∷ 31 ∷ 20 ∷ 26 ∷ 21 ∷ 9 ∷ 2 ∷ 27 ∷ 5 ∷ 8 ∷ 18 ∷ 29 ∷ 3 ∷ 6 ∷ 28
    ∷ 30 ∷ 19 ∷ 7 ∷ 14 ∷ 0 ∷ 13 ∷ 17 ∷ 24 ∷ 16 ∷ 12 ∷ 1 ∷ 25 ∷ 22 ∷ 10 ∷ 15 ∷ 23 ∷ []

unfoldable pub sbox : ℕ → ℕ
sbox x = get_or sbox_table x 0

-- five bits as a number, the first the top one
unfoldable pub five : Bool → Bool → Bool → Bool → Bool → ℕ
five a b c d e = value a * 16 + value b * 8 + value c * 4 + value d * 2 + value e

-- column k: bit k of each word, word 0 the top bit
unfoldable pub column : Words → ℕ → ℕ
column s k = five (bit s.x0 k) (bit s.x1 k) (bit s.x2 k) (bit s.x3 k) (bit s.x4 k)

-- the word whose bit k is bit j of the image of column k
unfoldable pub substituted : ℕ → Words → ℕ
substituted j s = number 64 (λ k. bit (sbox (column s k)) j)

unfoldable pub p_s : Words → Words
p_s s = record { x0 = substituted 4 s; x1 = substituted 3 s; x2 = substituted 2 s; x3 = substituted 1 s; x4 = substituted 0 s }

-- ---- linear diffusion layer, p_l

-- Figure B.1b: a word xored with itself turned right by a places and by b
unfoldable pub sigma : ℕ → ℕ → ℕ → ℕ
sigma a b x = bit_xor (bit_xor x (rotr 64 a x)) (rotr 64 b x)

unfoldable pub p_l : Words → Words
p_l s =
    record {
      x0 = sigma 19 28 s.x0;
      x1 = sigma 61 39 s.x1;
      x2 = sigma 1 6 s.x2;
      x3 = sigma 10 17 s.x3;
      x4 = sigma 7 41 s.x4;
    }

-- ---- a round, on words and on the state's 40 bytes: byte 0 is the most significant byte of x0

unfoldable pub p : ℕ → Words → Words
p i s = p_l (p_s (p_c i s))

unfoldable pub words_of : List ℕ → Words
words_of s =
    record {
      x0 = from_be (take 8 (drop 0 s));
      x1 = from_be (take 8 (drop 8 s));
      x2 = from_be (take 8 (drop 16 s));
      x3 = from_be (take 8 (drop 24 s));
      x4 = from_be (take 8 (drop 32 s));
    }

unfoldable pub bytes_of : Words → List ℕ
bytes_of s = be_bytes 8 s.x0 ++ be_bytes 8 s.x1 ++ be_bytes 8 s.x2 ++ be_bytes 8 s.x3 ++ be_bytes 8 s.x4

unfoldable pub ascon_round : ℕ → List ℕ → List ℕ
ascon_round i s = bytes_of (p i (words_of s))

-- ---- a call of r rounds: the last r of the twelve

unfoldable pub ascon_p : ℕ → List ℕ → List ℕ
ascon_p r s = bytes_of (rounds p (12 - r) r (words_of s))
