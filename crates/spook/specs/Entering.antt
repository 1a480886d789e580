-- The state and the session bytes with which a call's first round begins, as the code finds them. A reader may skip these: `entered`
-- shows that they are the parts'.
-- Assumes nothing.
use Rattle.std.specs.Prelude.{◌≡◌, refl, Bool, List, ◌++◌, ℕ, ◌%◌, ◌<◌, eqb, length, take, replicate}
use Rattle.std.proofs.Common.{sym, ap, ap₂, ◌∙◌, mod-lt, lit<}
use Rattle.std.proofs.Math.Bool.{true, false}
use Rattle.bits.specs.Pick.{pick}
use Rattle.bits.specs.Every.{upto_at}
use Rattle.bits.specs.Put.{put}
use Rattle.bits.specs.Strings.{block}
use Rattle.stopping.specs.Parts.{Part}
use Rattle.stopping.specs.Places.{part_at}
use Rattle.scheme.specs.Machine.{Machine, first, cipher_of, machine, given}
use Rattle.scheme.specs.Scheme.{all_shapes}
use Rattle.scheme.specs.Calls.{Enters}
use Rattle.s1p.specs.Cipher.{Cipher}
use Rattle.s1p.specs.Paper.{iv, text_mark, last_data, last_text}
use Rattle.s1p.specs.Parts.{seeded, seed, begin, assocs, texts, set_aside, tagging, verifying}
use Rattle.s1p.specs.Scheme.{s1p_scheme}
use Rattle.spook.specs.Kinds.{part_of, part_is}

-- the closing call begins with the state's first sixteen bytes, in an opening with the tag
unfoldable pub state_bytes : (sealing : Bool) → (nonce tag assoc text : List ℕ) → (kind call : ℕ) → (state out : List ℕ) → List ℕ
state_bytes sealing nonce tag assoc text kind call s o =
    pick (eqb kind 0) (put (nonce ++ replicate 48 0) s)
    (pick (eqb kind 1) (put (iv nonce ++ take 16 s) s)
    (pick (eqb kind 2) (last_data (block 32 call assoc) s)
    (pick (eqb kind 3) (last_text (block 32 call (pick sealing o text)) (first call text_mark s))
    (put (take 16 (pick sealing s tag) ++ replicate 48 0) s))))

-- the session bytes are cleared with a seed, and hold Shadow's state from the closing call on
unfoldable pub session_bytes : (kind : ℕ) → (state session : List ℕ) → List ℕ
session_bytes kind s ss = pick (eqb kind 0) (put (replicate 64 0) ss) (pick (eqb kind 4) (put (take 64 s) ss) ss)

module _ (p : Cipher) (sealing : Bool) (key nonce assoc text : List ℕ) (writes : Bool) (count call : ℕ) (s ss o g : List ℕ) where
  abbrev Entered : (b : Bool) → ℕ → Type 0
  Entered b kind =
      (part_of p (given b key nonce assoc text) writes count kind).enter call (machine s ss o g)
      ≡ machine (state_bytes b nonce g assoc text kind call s o) (session_bytes kind s ss) o g

  enter_of : (b : Bool) (kind : ℕ) → kind < 5 → Entered b kind
  unfolding part_of part_at seeded seed begin assocs texts set_aside tagging verifying state_bytes session_bytes cipher_of
  enter_of true kind h = upto_at (Entered true) 5 (((((tt, refl), refl), refl), refl), refl) kind h
  enter_of false kind h = upto_at (Entered false) 5 (((((tt, refl), refl), refl), refl), refl) kind h

-- a state and session bytes found so are those with which the call begins
pub entered : (p : Cipher) (sealing : Bool) (part call : ℕ) (nonce tag assoc text state session out state' session' : List ℕ)
    → part < length (all_shapes (s1p_scheme p) sealing (length assoc) (length text))
    → state' ≡ state_bytes sealing nonce tag assoc text (part % 5) call state out → session' ≡ session_bytes (part % 5) state session
    → (key : List ℕ) → Enters (s1p_scheme p) (given sealing key nonce assoc text) part call (machine state session out tag) state' session'
unfolding Enters
entered p sealing part call nonce tag assoc text s ss o s' ss' h e f key =
    ap (λ (q : Part Machine). q.enter call (machine s ss o tag)) (part_is p sealing key nonce assoc text part h)
    ∙ enter_of p sealing key nonce assoc text _ _ call s ss o tag sealing (part % 5) (mod-lt part (lit< tt))
    ∙ ap₂ (λ (u v : List ℕ). machine u v o tag) (sym e) (sym f)
