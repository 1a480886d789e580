-- The state and the session bytes with which a call's first round begins, as the code finds them. A reader may skip these: `enter_of`
-- shows that they are the parts'.
-- Assumes nothing.
use Rattle.std.specs.Prelude.{◌≡◌, refl, ℕ, ◌+◌, ◌-◌, ◌/◌, ◌≤◌, ◌<◌, eqb, ltb, length, take, drop, replicate}
use Rattle.std.proofs.Common.{sym, ◌∙◌, subst}
use Rattle.std.proofs.Math.Path.{ap₂}
use mathlib.Core.List.{List, ◌++◌}
use native.Mathlib.Omega.{arith}
use borrow.Author.Tests.{lt-ltb, le-ltb, ne_eqb}
use Rattle.bits.specs.Pick.{pick}
use Rattle.bits.specs.Every.{upto_at}
use Rattle.bits.specs.Put.{put, put_at}
use Rattle.stopping.specs.Places.{part_at}
use Rattle.bits.specs.Strings.{xor_into, xor_at, block}
use Rattle.mode.specs.Strings.{padded, bit_at, xor_bit}
use Rattle.mode.specs.Params.{Params, iv}
use Rattle.scheme.specs.Machine.{Input, first, cipher_of, machine}
use Rattle.mode.specs.Parts.{part, key_start, key_bits, key_end, texts, mac_start, assocs, ciphers, set_aside, mac_key_start, mac_key_bits, mac_key_end, take_back, mac_end}
use Rattle.mode.specs.Instances.{params_of}
use Rattle.sponge.specs.Kinds.{part_of, CanEnter, Entered}

-- encryption's parts, 0 to 3
unfoldable pub encryption_state : Params → (key nonce : List ℕ) → (kind call : ℕ) → (state : List ℕ) → List ℕ
encryption_state p key nonce kind call s =
    pick (eqb kind 0) (put (key ++ iv p 3) s)
    (pick (eqb kind 1) (xor_bit (bit_at nonce call) s)
    (pick (eqb kind 2) (xor_bit (bit_at nonce 127) s) (first call (put_at (p.n - 16) nonce) s)))

-- the re-keying of the MAC and its last call, 7 to 10
unfoldable pub mac_key_state : Params → (key : List ℕ) → (kind call : ℕ) → (state session : List ℕ) → List ℕ
mac_key_state p key kind call s ss =
    pick (eqb kind 7) (put (key ++ iv p 2) s)
    (pick (eqb kind 8) (xor_bit (bit_at (take 16 ss) call) s)
    (pick (eqb kind 9) (xor_bit (bit_at (take 16 ss) 127) s) (put (take 16 s ++ drop 16 (take p.n ss)) s)))

-- the MAC's parts, 4 to 10
unfoldable pub mac_state : Params → Input → (kind call : ℕ) → (state session out : List ℕ) → List ℕ
mac_state p x kind call s ss o =
    pick (eqb kind 4) (put (x.nonce ++ iv p 1) s)
    (pick (eqb kind 5) (xor_into (block p.b call (padded p.b x.assoc)) s)
    (pick (eqb kind 6) (xor_into (block p.b call (padded p.b (cipher_of x o))) (first call (xor_at (p.n - 1) 1) s))
    (mac_key_state p x.key kind call s ss)))

unfoldable pub session_bytes : Params → (kind : ℕ) → (state session : List ℕ) → List ℕ
session_bytes p kind s ss = pick (eqb kind 7) (put (take p.n s) ss) (pick (eqb kind 10) (put (replicate p.n 0) ss) ss)

unfoldable pub state_bytes : Params → Input → (kind call : ℕ) → (state session out : List ℕ) → List ℕ
state_bytes p x kind call s ss o = pick (ltb kind 4) (encryption_state p x.key x.nonce kind call s) (mac_state p x kind call s ss o)

module _ (p : Params) (x : Input) where
  abbrev Enters : (call : ℕ) → (s ss o g : List ℕ) → ℕ → Type 0
  Enters call s ss o g kind = (part_of p x kind).enter call (machine s ss o g) ≡ machine (state_bytes p x kind call s ss o) (session_bytes p kind s ss) o g

  enter_of : (kind call : ℕ) (s ss o g : List ℕ) → kind < 11 → Enters call s ss o g kind
  unfolding part_of part_at part key_start key_bits key_end texts mac_start assocs ciphers set_aside mac_key_start mac_key_bits mac_key_end take_back mac_end state_bytes encryption_state mac_state mac_key_state session_bytes
  enter_of kind call s ss o g h =
      upto_at (Enters call s ss o g) 11 (((((((((((tt, refl), refl), refl), refl), refl), refl), refl), refl), refl), refl), refl) kind h

-- a state and session bytes found so are those with which the call begins
module _ (instance kind call : ℕ) (x : Input) (s ss o : List ℕ) where
  pub entered_by : (s' ss' : List ℕ) → kind < 11
      → s' ≡ state_bytes (params_of instance) x kind call s ss o → ss' ≡ session_bytes (params_of instance) kind s ss
      → Entered instance kind call x s ss o s' ss'
  unfolding Entered
  entered_by s' ss' h e f g = enter_of (params_of instance) x kind call s ss o g h ∙ ap₂ (λ (u v : List ℕ). machine u v o g) (sym e) (sym f)

  pub entered_encryption : (s' : List ℕ) → kind < 4 → s' ≡ encryption_state (params_of instance) x.key x.nonce kind call s
      → Entered instance kind call x s ss o s' ss
  unfolding state_bytes session_bytes
  entered_encryption s' h e =
      let f : kind ≡ 7 → ⊥ = λ k. omega arith in
      let g : kind ≡ 10 → ⊥ = λ k. omega arith in
      entered_by s' ss (omega arith) (rw (state_bytes, lt-ltb kind 4 h) e) (rw (session_bytes, ne_eqb kind 7 f, ne_eqb kind 10 g))

  pub entered_mac : (s' ss' : List ℕ) → 4 ≤ kind → kind < 11
      → s' ≡ mac_state (params_of instance) x kind call s ss o → ss' ≡ session_bytes (params_of instance) kind s ss
      → Entered instance kind call x s ss o s' ss'
  unfolding state_bytes
  entered_mac s' ss' l h e f = entered_by s' ss' h (rw (state_bytes, le-ltb kind 4 l) e) f

-- ---- what a call's number is below

module _ {instance kind call : ℕ} {x : Input} {out : List ℕ} (can : CanEnter instance kind call x out) where
  call_at : (k : ℕ) → kind ≡ k → call < (part_of (params_of instance) x k).shape.count
  call_at k e = subst (λ (j : ℕ). call < (part_of (params_of instance) x j).shape.count) e can.is_call

  pub nonce_bits : kind ≡ 1 → call < 128
  unfolding part_of part_at part key_bits
  nonce_bits e = omega (arith, call_at 1 e)

  pub session_bits : kind ≡ 8 → call < 128
  unfolding part_of part_at part mac_key_bits
  session_bits e = omega (arith, call_at 8 e)

  pub assoc_blocks : kind ≡ 5 → call < length x.assoc / (params_of instance).b + 1
  unfolding part_of part_at part assocs
  assoc_blocks e = call_at 5 e

  pub cipher-blocks : kind ≡ 6 → call < length x.text / (params_of instance).b + 1
  unfolding part_of part_at part ciphers
  cipher-blocks e = call_at 6 e
