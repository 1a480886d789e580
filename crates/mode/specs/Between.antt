-- Document 01's rule between two rounds, in numbers: which blocks of output are written after n rounds, and in which rounds the MAC state is
-- set aside. `Outputs` and `Sessions` show that a job stopped after n rounds is so.
-- Assumes nothing.
use Rattle.std.specs.Prelude.{◌≡◌, Bool, ◌↔◌, List, ℕ, suc, ◌+◌, ◌-◌, ◌*◌, ◌/◌, ◌≤◌, ◌<◌, min}
use Rattle.std.proofs.Common.{ap, ◌∙◌, le-div_iff_mul-le, mul_comm, suc-mul, add-one, arith}
use Rattle.bits.specs.Pick.{pick}
use Rattle.mode.specs.Params.{Params, LawfulParams}
use Rattle.mode.specs.Paper.{blocks, isap_enc, hashed}
use Rattle.scheme.specs.Machine.{Input, cipher_of}
use Rattle.mode.specs.Counts.{rekey_rounds, encrypt_rounds}

-- of the blocks of a text of m bytes, how many are written after n rounds of its encryption: none in the R rounds of re-keying, and then
-- one with every s_e rounds
unfoldable pub blocks_written : Params → (m n : ℕ) → ℕ
blocks_written p m n = min (blocks p m) ((n - rekey_rounds p) / p.s_e)

-- the rounds of the MAC before its re-keying, for a bytes of associated data and m of text
unfoldable pub hash_rounds : Params → (a m : ℕ) → ℕ
hash_rounds p a m = p.s_h * (a / p.b + m / p.b + 3)

-- and those of a job: a sealing encrypts first
unfoldable pub aside_after : Params → (sealing : Bool) → (a m : ℕ) → ℕ
aside_after p sealing a m = pick sealing (encrypt_rounds p m) 0 + hash_rounds p a m

-- what is set aside then: the paper's MAC state over associated data and ciphertext
unfoldable pub mac_state : Params → Input → List ℕ
mac_state p x = hashed p x.nonce x.assoc (cipher_of x (isap_enc p x.key x.nonce x.text))

-- block i is written from round R + sE·(i + 1) on, and not before
pub block_written_lem : (p : Params) → LawfulParams p → (m n i : ℕ) → i < blocks p m
    → (i < blocks_written p m n) ↔ (rekey_rounds p + p.s_e * (i + 1) ≤ n)
unfolding blocks_written
block_written_lem p l m n i h =
    let e : p.s_e * (i + 1) ≡ suc i * p.s_e = ap (λ (k : ℕ). p.s_e * k) (add-one i) ∙ mul_comm p.s_e (suc i) in
    let k = suc-mul i p.s_e in
    let some = l.some_e in
    let d = le-div_iff_mul-le {x = suc i} {y = n - rekey_rounds p} l.some_e in
    (λ w. omega (arith, d.0 (omega arith)), λ r. omega (arith, d.1 (omega arith)))
