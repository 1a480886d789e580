-- What a whole call gives: the refusals 1 to 7 in this order, else what the paper's algorithm gives, and document 01's number and rounds.
-- Assumes nothing.
use Rattle.std.specs.Prelude.{true, false, List, ℕ, ◌+◌, ◌*◌, eqb, length}
use Rattle.bits.specs.Pick.{pick}
use Rattle.scheme.specs.Machine.{Opened, Opened.plaintext, Opened.refused}
use Rattle.scheme.specs.Scheme.{Scheme, all_count}
use Rattle.isap.specs.declared.Answer.{Answer}
use Rattle.isap.specs.Beginnings.{limits_refusal, tag_refusal, or_else}

-- 6
unfoldable pub out_refusal : (out m : ℕ) → ℕ
out_refusal out m = pick (eqb out m) 0 6

-- an answer of the algorithm, unless the call is refused
abbrev pub answered : (refusal : ℕ) → Answer → Answer
answered refusal r = pick (eqb refusal 0) r (record { number = refusal; rounds = 0 })

-- the bytes that it leaves in a buffer that held `before`
abbrev pub leaves : (refusal : ℕ) → (bytes before : List ℕ) → List ℕ
leaves refusal bytes before = pick (eqb refusal 0) bytes before

-- ---- opening, whose answer is a plaintext or a refusal

unfoldable pub opened_answer : Scheme → (a m : ℕ) → Opened → Answer
opened_answer s a m (plaintext t) = record { number = 0; rounds = all_count s false a m }
opened_answer s a m refused = record { number = 8; rounds = s.front_count false a m }

unfoldable pub opened_out : Opened → (before : List ℕ) → List ℕ
opened_out (plaintext t) before = t
opened_out refused before = before

-- ---- for a host in C: the number in the low 32 bits, the rounds in the high 32

abbrev pub packed : (number rounds : ℕ) → ℕ
packed number rounds = number + 4294967296 * rounds

-- ---- by the schemes of the instances

module _ (of : ℕ → Scheme) where
  -- 1 to 7, by the instance and the lengths
  unfoldable pub whole_refusal : (instance key nonce a m out tag : ℕ) → ℕ
  whole_refusal instance key nonce a m out tag = or_else (limits_refusal of instance key nonce a m) (or_else (out_refusal out m) (tag_refusal tag))

  abbrev pub refusal_for : (instance : ℕ) → (key nonce assoc text out tag : List ℕ) → ℕ
  refusal_for instance key nonce assoc text out tag =
      whole_refusal instance (length key) (length nonce) (length assoc) (length text) (length out) (length tag)

  -- ---- sealing

  module _ (instance : ℕ) (key nonce assoc text out tag : List ℕ) where
    unfoldable pub seal_of : Answer
    seal_of =
        answered (refusal_for instance key nonce assoc text out tag)
        (record { number = 0; rounds = all_count (of instance) true (length assoc) (length text) })

    unfoldable pub seal_out : List ℕ
    seal_out = leaves (refusal_for instance key nonce assoc text out tag) ((of instance).seal key nonce assoc text).cipher out

    unfoldable pub seal_tag : List ℕ
    seal_tag = leaves (refusal_for instance key nonce assoc text out tag) ((of instance).seal key nonce assoc text).tag tag

  module _ (instance : ℕ) (key nonce assoc text tag out : List ℕ) where
    unfoldable pub open_of : Answer
    open_of =
        answered (refusal_for instance key nonce assoc text out tag)
        (opened_answer (of instance) (length assoc) (length text) ((of instance).unseal key nonce assoc text tag))

    unfoldable pub open_out : List ℕ
    open_out = leaves (refusal_for instance key nonce assoc text out tag) (opened_out ((of instance).unseal key nonce assoc text tag) out) out
