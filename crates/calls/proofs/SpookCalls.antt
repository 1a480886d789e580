-- Calls of an instance whose scheme is Spook, by their direction: what is asked and what is promised of Spook and of one direction is so of
-- the job's own.
-- Assumes nothing.
use mathlib.Core.Path.{◌≡◌, sym, subst}
use mathlib.Core.Bool.{Bool}
use mathlib.Core.List.{List}
use Prim.Native.Nat.{ℕ}
use lib.ListN.{length}
use Rattle.scheme.specs.Machine.{given, machine}
use Rattle.scheme.specs.Scheme.{Scheme}
use Rattle.scheme.specs.Calls.{At, Rest, Enters, Turns}
use Rattle.s1p.specs.Spook.{spook, spook_scheme}
use Rattle.spook.specs.Kinds.{CanCall}
use Rattle.calls.proofs.Dispatch.{enters_by, turns_by}

module _ {q : Scheme} (e : q ≡ spook_scheme) {sealing b : Bool} (d : sealing ≡ b) where
  pub can_call : (part call round : ℕ) (assoc text out : List ℕ) → At q sealing (length assoc) (length text) part call round
      → length out ≡ length text → CanCall spook b part call assoc text out
  can_call part call round assoc text out at long =
      let h = subst (λ (s : Scheme). At s sealing (length assoc) (length text) part call round) e at in
      let k = subst (λ (c : Bool). At spook_scheme c (length assoc) (length text) part call round) d h in
      record { is_part = k.is_part; is_call = k.is_call; out_long = long }

  pub can_turn : (part round count : ℕ) → Rest q sealing part round count → Rest spook_scheme b part round count
  can_turn part round count r =
      let h = subst (λ (s : Scheme). Rest s sealing part round count) e r in
      subst (λ (c : Bool). Rest spook_scheme c part round count) d h

  pub enters : (part call : ℕ) (key nonce assoc text state session out tag s ss : List ℕ)
      → Enters spook_scheme (given b key nonce assoc text) part call (machine state session out tag) s ss
      → Enters q (given sealing key nonce assoc text) part call (machine state session out tag) s ss
  enters part call key nonce assoc text state session out tag s ss h =
      enters_by e (given sealing key nonce assoc text) part call (machine state session out tag) s ss
      (subst (λ (c : Bool). Enters spook_scheme (given c key nonce assoc text) part call (machine state session out tag) s ss) (sym d) h)

  pub turns : (key : List ℕ) (part from count : ℕ) (state session state' : List ℕ) → Turns spook_scheme b key part from count state session state'
      → Turns q sealing key part from count state session state'
  turns key part from count state session state' h =
      turns_by e sealing key part from count state session state'
      (subst (λ (c : Bool). Turns spook_scheme c key part from count state session state') (sym d) h)
