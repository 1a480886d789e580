-- The scheme of an instance, once it is known which it is.
-- Assumes nothing.
use mathlib.Core.Path.{◌≡◌, sym, ◌∙◌, subst}
use mathlib.Core.Bool.{Bool, true, false}
use mathlib.Core.List.{List}
use Prim.Native.Nat.{ℕ}
use Rattle.scheme.specs.Machine.{Input, Machine}
use Rattle.scheme.specs.Scheme.{Scheme}
use Rattle.scheme.specs.Calls.{Enters, Turns, Leaves, Goes}
use Rattle.mode.specs.Instances.{params_of}
use Rattle.mode.specs.Isap.{isap_scheme}
use Rattle.s1p.specs.Spook.{spook_scheme}
use Rattle.instances.specs.Schemes.{is_spook, scheme_of, scheme-spook, scheme_isap}

pub is_spook_lem : (i : ℕ) (b : Bool) → b ≡ is_spook i → b ≡ true → scheme_of i ≡ spook_scheme
is_spook_lem i b e t = scheme-spook i (sym e ∙ t)

pub is_isap : (i : ℕ) (b : Bool) → b ≡ is_spook i → b ≡ false → scheme_of i ≡ isap_scheme (params_of i)
is_isap i b e f = scheme_isap i (sym e ∙ f)

-- ---- promises of the one scheme are promises of the other

pub enters_by : {s t : Scheme} → s ≡ t → (x : Input) (part call : ℕ) (m : Machine) (state' session' : List ℕ)
    → Enters t x part call m state' session' → Enters s x part call m state' session'
enters_by e x part call m state' session' h = subst (λ (q : Scheme). Enters q x part call m state' session') (sym e) h

pub turns_by : {s t : Scheme} → s ≡ t → (sealing : Bool) (key : List ℕ) (part from count : ℕ) (state session state' : List ℕ)
    → Turns t sealing key part from count state session state' → Turns s sealing key part from count state session state'
turns_by e sealing key part from count state session state' h =
    subst (λ (q : Scheme). Turns q sealing key part from count state session state') (sym e) h

pub leaves_by : {s t : Scheme} → s ≡ t → (sealing : Bool) (part call : ℕ) (assoc text state out tag out' tag' : List ℕ)
    → Leaves t sealing part call assoc text state out tag out' tag' → Leaves s sealing part call assoc text state out tag out' tag'
leaves_by e sealing part call assoc text state out tag out' tag' h =
    subst (λ (q : Scheme). Leaves q sealing part call assoc text state out tag out' tag') (sym e) h

pub goes_by : {s t : Scheme} → s ≡ t → (sealing : Bool) (part call calls : ℕ) (nonce assoc text state session out state' out' : List ℕ)
    → Goes t sealing part call calls nonce assoc text state session out state' out'
    → Goes s sealing part call calls nonce assoc text state session out state' out'
goes_by e sealing part call calls nonce assoc text state session out state' out' h =
    subst (λ (q : Scheme). Goes q sealing part call calls nonce assoc text state session out state' out') (sym e) h
