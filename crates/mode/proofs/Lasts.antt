-- How many rounds a job lasts: a sealing E + V, an opening V + E if the received tag is the paper's, and V if it is another.
-- Assumes nothing.
use Rattle.std.specs.Prelude.{◌≡◌, refl, Bool, true, false, ℕ, ◌+◌, length}
use Rattle.std.proofs.Math.Path.{ap}
use Rattle.std.proofs.Common.{ap₂, ◌∙◌, arith}
use Rattle.stopping.specs.Course.{accepted, lasts}
use Rattle.stopping.specs.Halts.{lasts-accepted, lasts_refused}
use Rattle.scheme.specs.Machine.{Machine, Input}
use Rattle.mode.specs.Params.{Params, LawfulParams}
use Rattle.mode.specs.Paper.{isap_mac}
use Rattle.mode.specs.Parts.{course}
use Rattle.mode.proofs.CountLaws.{front-rounds, back-rounds, all_count_lem, lawful}
use Rattle.mode.specs.Counts.{verify_rounds, encrypt_rounds, front_count}
use Rattle.mode.specs.Theorems.{Ready}
use Rattle.mode.proofs.Theorems.{sealing_accepted, accepts_if, accepts_only_if}

module _ (p : Params) (l : LawfulParams p) (x : Input) (hk : length x.key ≡ 16) (hn : length x.nonce ≡ 16) (m : Machine) (ready : Ready p x m) where
  abbrev a : ℕ
  a = length x.assoc

  abbrev t : ℕ
  t = length x.text

  accepted-lasts : accepted (course p x) m ≡ true → lasts (course p x) m ≡ encrypt_rounds p t + verify_rounds p a t
  accepted-lasts e =
      lasts-accepted (course p x) (lawful p l x) m e ∙ ap₂ (λ (v b : ℕ). v + b) (front-rounds p x) (back-rounds p x) ∙ all_count_lem p x.sealing a t

  pub sealing_lasts : x.sealing ≡ true
      → lasts (course p x) m ≡ encrypt_rounds p (length x.text) + verify_rounds p (length x.assoc) (length x.text)
  sealing_lasts d = accepted-lasts (sealing_accepted p l x hk hn m ready d)

  module _ (d : x.sealing ≡ false) where
    -- another tag than the paper's is refused
    pub refuses_if : (m.tag ≡ isap_mac p x.key x.nonce x.assoc x.text → ⊥) → accepted (course p x) m ≡ false
    refuses_if wrong = go (accepted (course p x) m) refl
      where
        go : (b : Bool) → accepted (course p x) m ≡ b → b ≡ false
        go true e = absurd (wrong (accepts_only_if p l x hk hn m ready d e))
        go false e = refl

    pub opening_lasts : m.tag ≡ isap_mac p x.key x.nonce x.assoc x.text
        → lasts (course p x) m ≡ verify_rounds p (length x.assoc) (length x.text) + encrypt_rounds p (length x.text)
    opening_lasts right = omega (arith, accepted-lasts (accepts_if p l x hk hn m ready d right))

    pub opening_lasts_wrong : (m.tag ≡ isap_mac p x.key x.nonce x.assoc x.text → ⊥)
        → lasts (course p x) m ≡ verify_rounds p (length x.assoc) (length x.text)
    unfolding front_count
    opening_lasts_wrong wrong =
        lasts_refused (course p x) (lawful p l x) m (refuses_if wrong) ∙ front-rounds p x ∙ ap (λ (b : Bool). front_count p b a t) d
