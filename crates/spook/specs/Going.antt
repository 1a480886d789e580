-- Several whole calls of one part in one go: the blocks of the data, or of the text, one after the other.
-- Assumes nothing.
use Rattle.std.specs.Prelude.{◌≡◌, Bool, true, List, ℕ, ◌+◌, ◌*◌, ◌%◌, ◌<◌, eqb, length}
use Rattle.std.proofs.Math.Path.{ap}
use Rattle.std.proofs.Common.{◌∙◌}
use borrow.Author.Tests.{eqb-true, ne_eqb}
use Rattle.bits.specs.Pick.{pick}
use Rattle.stopping.specs.Parts.{Part}
use Rattle.stopping.specs.Wholes.{wholes}
use Rattle.scheme.specs.Machine.{Machine, machine, given}
use Rattle.scheme.specs.Calls.{shape_in, Inner, Goes}
use Rattle.s1p.specs.Cipher.{Cipher}
use Rattle.s1p.specs.Scheme.{s1p_scheme}
use Rattle.spook.specs.Kinds.{writes_in, part_of, part_is, in_data, in_text}

-- the parts that have many calls: data and text
unfoldable pub many : (part : ℕ) → Bool
many part = pick (eqb (part % 5) 2) true (eqb (part % 5) 3)

module _ (p : Cipher) where
  -- state and output after so many calls of a kind; session bytes and tag are as they were
  unfoldable pub Gone : (sealing writes : Bool) → (kind call calls : ℕ) → (assoc text state out state' out' : List ℕ) → Type 0
  Gone sealing writes kind call calls assoc text s o s' o' =
      (count : ℕ) (key nonce session tag : List ℕ)
      → wholes (part_of p (given sealing key nonce assoc text) writes count kind) call calls (machine s session o tag) ≡ machine s' session o' tag

  -- blocks of the data change the state alone, whatever else the job is given
  unfoldable pub DataGone : (call calls : ℕ) → (assoc state state' : List ℕ) → Type 0
  DataGone call calls assoc s s' = (sealing writes : Bool) (text out : List ℕ) → Gone sealing writes 2 call calls assoc text s out s' out

  -- blocks of the text change state and output
  unfoldable pub TextGone : (sealing writes : Bool) → (call calls : ℕ) → (text state out state' out' : List ℕ) → Type 0
  TextGone sealing writes call calls text s o s' o' = (assoc : List ℕ) → Gone sealing writes 3 call calls assoc text s o s' o'

  -- ---- what the code asks: calls that are neither first nor last, and an output as long as the text

  pub record CanGo (sealing : Bool) (part call calls : ℕ) (assoc text out : List ℕ) : Type 0 where
    pub inner : Inner (s1p_scheme p) sealing (length assoc) (length text) part call calls
    pub is_many : many part ≡ true
    pub out_long : length out ≡ length text

  module _ {sealing : Bool} {part call calls : ℕ} {assoc text out : List ℕ} (can : CanGo sealing part call calls assoc text out) where
    pub data_room : part % 5 ≡ 2 → (call + calls) * 32 < length assoc
    data_room e = in_data p sealing part (call + calls) (length assoc) (length text) can.inner.is_part can.inner.not_last e

    pub text_room : part % 5 ≡ 3 → (call + calls) * 32 < length text
    text_room e = in_text p sealing part (call + calls) (length assoc) (length text) can.inner.is_part can.inner.not_last e

    -- the kind that is left
    pub text_else : (part % 5 ≡ 2 → ⊥) → part % 5 ≡ 3
    unfolding many
    text_else d = eqb-true (part % 5) 3 (simp (ne_eqb (part % 5) 2 d) at can.is_many)

    -- ---- what it gives

    gone : (kind : ℕ) (nonce state session state' out' : List ℕ) → part % 5 ≡ kind
        → Gone sealing (writes_in sealing part) kind call calls assoc text state out state' out'
        → Goes (s1p_scheme p) sealing part call calls nonce assoc text state session out state' out'
    unfolding Goes Gone
    gone kind nonce s ss s' o' e g key tag =
        let n = (shape_in (s1p_scheme p) sealing (length assoc) (length text) part).count in
        ap (λ (q : Part Machine). wholes q call calls (machine s ss out tag)) (part_is p sealing key nonce assoc text part can.inner.is_part)
        ∙ ap (λ (k : ℕ). wholes (part_of p (given sealing key nonce assoc text) (writes_in sealing part) n k) call calls (machine s ss out tag)) e ∙ g n key nonce ss tag

    pub data_goes : (nonce state session state' : List ℕ) → part % 5 ≡ 2 → DataGone call calls assoc state state'
        → Goes (s1p_scheme p) sealing part call calls nonce assoc text state session out state' out
    unfolding DataGone
    data_goes nonce s ss s' e g = gone 2 nonce s ss s' out e (g sealing (writes_in sealing part) text out)

    pub text_goes : (nonce state session state' out' : List ℕ) → part % 5 ≡ 3
        → TextGone sealing (writes_in sealing part) call calls text state out state' out'
        → Goes (s1p_scheme p) sealing part call calls nonce assoc text state session out state' out'
    unfolding TextGone
    text_goes nonce s ss s' o' e g = gone 3 nonce s ss s' o' e (g assoc)
