-- All blocks by one rule: the paper's loops with the test whether a block is short made of every block, as only the last can be. That it may
-- be made of every block is shown in proofs/ (`Evenly`).
-- Assumes nothing.
use Rattle.std.specs.Prelude.{Bool}
use mathlib.Core.List.{List, [], ◌∷◌, ◌++◌}
use Prim.Native.Nat.{ℕ}
use Rattle.bits.specs.Xors.{xors}
use Rattle.s1p.specs.Cipher.{Cipher, perm}
use Rattle.s1p.specs.Paper.{parsed, start, last_data, cipher_block, last_text}

unfoldable pub absorb_all : Cipher → List (List ℕ) → List ℕ → List ℕ
absorb_all p [] s = s
absorb_all p (a ∷ l) s = absorb_all p l (perm p (last_data a s))

-- what a text block makes of the state
unfoldable pub taken : Cipher → Bool → List ℕ → List ℕ → List ℕ
taken p b m s = perm p (last_text (cipher_block b m s) s)

unfoldable pub ends_all : Cipher → Bool → List (List ℕ) → List ℕ → List ℕ
ends_all p b [] s = s
ends_all p b (m ∷ l) s = ends_all p b l (taken p b m s)

unfoldable pub outs_all : Cipher → Bool → List (List ℕ) → List ℕ → List ℕ
outs_all p b [] s = []
outs_all p b (m ∷ l) s = xors s m ++ outs_all p b l (taken p b m s)

-- the state behind the data
unfoldable pub behind : Cipher → (key nonce a : List ℕ) → List ℕ
behind p key nonce a = absorb_all p (parsed a) (start p key nonce)
