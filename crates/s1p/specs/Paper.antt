-- S1P as document 004 has it (Appendix A, Algorithms 3 and 4), on byte strings: n = 128 and r = c = 256 bits are 16 and 32 bytes, and
-- P is 0 (single user). A byte's first bit is its lowest (section 3.1, BMAP).
-- Assumes nothing.
use Rattle.std.specs.Prelude.{Bool, true, false, List, [], ◌∷◌, ◌++◌, ℕ, ◌+◌, ◌-◌, ◌/◌, ◌%◌, ltb, length, get_or, take, drop, replicate}
use Rattle.bits.specs.Pick.{pick}
use Rattle.bits.specs.Put.{put}
use Rattle.bits.specs.Xors.{xors}
use Rattle.bits.specs.Strings.{xor_into, xor_at, cut, same}
use Rattle.scheme.specs.Machine.{Sealed, Opened, Opened.plaintext, Opened.refused}
use Rattle.s1p.specs.Cipher.{Cipher, encrypt, decrypt, perm}

-- ---- 1. to 3.: a string of m bytes has ⌈m / 32⌉ blocks, an empty one none; only the last may be short

unfoldable pub blocks : ℕ → ℕ
blocks m = (m + 31) / 32

unfoldable pub parsed : List ℕ → List (List ℕ)
parsed s = cut 32 (blocks (length s)) s

-- ---- 4. to 6.: B ← E(N) with the tweak P ‖ 0; IV ← P ‖ 0 ‖ N ‖ 0*; S_0 ← π(IV ‖ B)

unfoldable pub iv : List ℕ → List ℕ
iv nonce = replicate 16 0 ++ (nonce ++ replicate 16 0)

unfoldable pub start : Cipher → (key nonce : List ℕ) → List ℕ
start p key nonce = perm p (iv nonce ++ encrypt p key (replicate 16 0) nonce)

-- ---- 7.: the data

-- S ⊕ (0^r ‖ 10 ‖ 0*) and S ⊕ (0^r ‖ 01 ‖ 0*): the text's mark and the mark of a short last block
unfoldable pub text_mark : List ℕ → List ℕ
text_mark s = xor_at 32 1 s

unfoldable pub short_mark : List ℕ → List ℕ
short_mark s = xor_at 32 2 s

-- A ‖ 1 ‖ 0*
unfoldable pub padded : List ℕ → List ℕ
padded a = a ++ (1 ∷ replicate (31 - length a) 0)

-- (b), (c): the last block
unfoldable pub last_data : List ℕ → List ℕ → List ℕ
last_data a s = pick (ltb (length a) 32) (xor_into (padded a) (short_mark s)) (xor_into a s)

unfoldable pub absorb : Cipher → List (List ℕ) → List ℕ → List ℕ
absorb p [] s = s
absorb p (a ∷ []) s = perm p (last_data a s)
absorb p (a ∷ b ∷ l) s = absorb p (b ∷ l) (perm p (xor_into a s))

-- ---- 8.: the text. In Algorithm 3 what comes out is the ciphertext, in Algorithm 4 what goes in is; the state takes the ciphertext

-- the ciphertext's block, of what goes in and the state
unfoldable pub cipher_block : (sealing : Bool) → List ℕ → List ℕ → List ℕ
cipher_block sealing m s = pick sealing (xors s m) m

-- (d), (e): the last block; C ‖ S[|C|:], before it, if C is short, S ⊕ (0^|C| ‖ 1 ‖ 0* ‖ 01 ‖ 0*)
unfoldable pub last_text : List ℕ → List ℕ → List ℕ
last_text c s = pick (ltb (length c) 32) (put c (xor_at (length c) 1 (short_mark s))) (put c s)

-- the state behind the blocks
unfoldable pub ends : Cipher → Bool → List (List ℕ) → List ℕ → List ℕ
ends p b [] s = s
ends p b (m ∷ []) s = perm p (last_text (cipher_block b m s) s)
ends p b (m ∷ n ∷ ms) s = ends p b (n ∷ ms) (perm p (put (cipher_block b m s) s))

-- what comes out
unfoldable pub outs : Cipher → Bool → List (List ℕ) → List ℕ → List ℕ
outs p b [] s = []
outs p b (m ∷ []) s = xors s m
outs p b (m ∷ n ∷ ms) s = xors s m ++ outs p b (n ∷ ms) (perm p (put (cipher_block b m s) s))

-- (a): if there is a block at all
unfoldable pub marked : List (List ℕ) → List ℕ → List ℕ
marked [] s = s
marked (m ∷ ms) s = text_mark s

-- ---- the state before the text, S_λ with (a)'s mark; the text that comes out; and the last state, S_{λ+ℓ}

unfoldable pub ready : Cipher → (key nonce a m : List ℕ) → List ℕ
ready p key nonce a m = marked (parsed m) (absorb p (parsed a) (start p key nonce))

unfoldable pub text_out : Cipher → Bool → (key nonce a m : List ℕ) → List ℕ
text_out p b key nonce a m = outs p b (parsed m) (ready p key nonce a m)

unfoldable pub last_state : Cipher → Bool → (key nonce a m : List ℕ) → List ℕ
last_state p b key nonce a m = ends p b (parsed m) (ready p key nonce a m)

-- ---- 9.: U ‖ V are the first 2n - 1 bits, and the tweak is V ‖ 1

unfoldable pub required : List ℕ → List ℕ
required s = take 16 s

unfoldable pub closing_tweak : List ℕ → List ℕ
closing_tweak s = take 15 (drop 16 s) ++ ((get_or s 31 0 % 128 + 128) ∷ [])

-- ---- Algorithm 3: the ciphertext and the tag

-- Z ← E(U) with the tweak V ‖ 1
unfoldable pub tag_of : Cipher → (key s : List ℕ) → List ℕ
tag_of p key s = encrypt p key (closing_tweak s) (required s)

unfoldable pub seal : Cipher → (key nonce a m : List ℕ) → Sealed
seal p key nonce a m =
    record { cipher = text_out p true key nonce a m; tag = tag_of p key (last_state p true key nonce a m) }

-- ---- Algorithm 4: the plaintext, or ⊥

-- U* ← E⁻¹(Z) with the tweak V ‖ 1, compared with U
unfoldable pub agrees : Cipher → (key s tag : List ℕ) → Bool
agrees p key s tag = same (decrypt p key (closing_tweak s) tag) (required s)

unfoldable pub unseal : Cipher → (key nonce a c tag : List ℕ) → Opened
unseal p key nonce a c tag =
    pick (agrees p key (last_state p false key nonce a c) tag) (plaintext (text_out p false key nonce a c)) refused
