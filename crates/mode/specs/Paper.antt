-- ISAP v2.0 as document 001 has it, Algorithms 1 to 5, on byte strings (an algorithm stands below those that it calls).
-- Assumes nothing.
use Rattle.std.specs.Prelude.{Bool, List, [], ◌∷◌, ◌++◌, ℕ, ◌+◌, ◌-◌, ◌/◌, length, take, drop}
use Rattle.bits.specs.Pick.{pick}
use Rattle.bits.specs.Xors.{xors}
use Rattle.scheme.specs.Machine.{Sealed, Opened, Opened.plaintext, Opened.refused}
use Rattle.bits.specs.Strings.{xor_into, xor_at, cut, same}
use Rattle.mode.specs.Strings.{padded, bits_of, bit_at, xor_bit}
use Rattle.mode.specs.Params.{Params, perm, iv}

-- ---- Algorithm 4, IsapRk: re-keying with the string y, whose w = 128 bits enter one at a time

-- for i = 1, .., w - 1: S ← pB((S ⊕ Yi) ‖ Sc)
unfoldable pub absorb_bits : Params → List Bool → List ℕ → List ℕ
absorb_bits p [] s = s
absorb_bits p (y ∷ ys) s = absorb_bits p ys (perm p p.s_b (xor_bit y s))

-- the state after the last bit's pK; flag 2 for the MAC, 3 for encryption
unfoldable pub rekeyed : Params → ℕ → List ℕ → List ℕ → List ℕ
rekeyed p flag key y = perm p p.s_k (xor_bit (bit_at y 127) (absorb_bits p (take 127 (bits_of y)) (perm p p.s_k (key ++ iv p flag))))

-- K*a, the first k bits, and K*e, the first n - k
unfoldable pub rekey_mac : Params → List ℕ → List ℕ → List ℕ
rekey_mac p key y = take 16 (rekeyed p 2 key y)

unfoldable pub rekey_enc : Params → List ℕ → List ℕ → List ℕ
rekey_enc p key y = take (p.n - 16) (rekeyed p 3 key y)

-- ---- Algorithm 3, IsapEnc

-- how many blocks a text has, a last short one counted
unfoldable pub blocks : Params → ℕ → ℕ
blocks p m = (m + (p.b - 1)) / p.b

-- for i = 1, .., t: S ← pE(S), Ci ← S ⊕ Mi
unfoldable pub squeeze : Params → List ℕ → List (List ℕ) → List ℕ
squeeze p s [] = []
squeeze p s (m ∷ ms) = xors (perm p p.s_e s) m ++ squeeze p (perm p p.s_e s) ms

unfoldable pub isap_enc : Params → List ℕ → List ℕ → List ℕ → List ℕ
isap_enc p key nonce m = squeeze p (rekey_enc p key nonce ++ nonce) (cut p.b (blocks p (length m)) m)

-- ---- Algorithm 5, IsapMac

-- the blocks of a string with its padding; a full multiple of b gains a block
unfoldable pub padded_blocks : Params → List ℕ → List (List ℕ)
padded_blocks p s = cut p.b (length s / p.b + 1) (padded p.b s)

-- for each block: S ← pH((S ⊕ Xi) ‖ Sc)
unfoldable pub absorb : Params → List (List ℕ) → List ℕ → List ℕ
absorb p [] s = s
absorb p (x ∷ xs) s = absorb p xs (perm p p.s_h (xor_into x s))

-- the state before the tag is squeezed; between the two strings the state's last bit is flipped, once
unfoldable pub hashed : Params → List ℕ → List ℕ → List ℕ → List ℕ
hashed p nonce a c = absorb p (padded_blocks p c) (xor_at (p.n - 1) 1 (absorb p (padded_blocks p a) (perm p p.s_h (nonce ++ iv p 1))))

-- the state after it: K*a in place of the first k bits, then pH
unfoldable pub finished : Params → List ℕ → List ℕ → List ℕ
finished p key s = perm p p.s_h (rekey_mac p key (take 16 s) ++ drop 16 s)

unfoldable pub isap_mac : Params → List ℕ → List ℕ → List ℕ → List ℕ → List ℕ
isap_mac p key nonce a c = take 16 (finished p key (hashed p nonce a c))

-- ---- Algorithm 1, E: the ciphertext and the tag

unfoldable pub seal : Params → (key nonce a m : List ℕ) → Sealed
seal p key nonce a m =
    record { cipher = isap_enc p key nonce m; tag = isap_mac p key nonce a (isap_enc p key nonce m) }

-- ---- Algorithm 2, D: the plaintext, or ⊥

unfoldable pub unseal : Params → (key nonce a c tag : List ℕ) → Opened
unseal p key nonce a c tag = pick (same tag (isap_mac p key nonce a c)) (plaintext (isap_enc p key nonce c)) refused
