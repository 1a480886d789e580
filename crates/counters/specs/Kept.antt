-- A sender that keeps the counter that each building hands back and gives it to the next: no two of its parcels have one nonce, whatever was
-- refused in between.
-- Assumes nothing.
use Rattle.std.specs.Prelude.{◌≡◌, refl, Bool, true, false, List, [], ◌∷◌, ℕ, ◌+◌, ◌≤◌, ◌<◌, eqb, length}
use Rattle.std.proofs.Math.Path.{ap}
use Rattle.std.proofs.Common.{◌∙◌, arith, eqb-true, eq-eqb}
use Rattle.bits.specs.Pick.{pick}
use Rattle.instances.specs.Schemes.{scheme_of}
use Rattle.parcel.specs.declared.Built.{Built}
use Rattle.parcel.specs.Layout.{nonce_of, most_counter}
use Rattle.parcel.specs.Headers.{nonce_once}
use Rattle.parcel.specs.Building.{built_of}
use Rattle.parcel.specs.Fits.{can_build}
use Rattle.parcel.specs.Refused.{counter_kept}
use Rattle.parcel.specs.Promises.{taken}

-- what a building is given, but for the counter
pub record Asked : Type 0 where
  pub instance : ℕ
  pub key : List ℕ
  pub station : ℕ
  pub text : List ℕ
  pub out : List ℕ

-- what it answers, given the last counter: the definition in the statement of `parcel::build`
abbrev pub answer_to : Asked → ℕ → Built
answer_to q last = built_of scheme_of q.instance q.key q.station last q.text q.out

-- the counter kept behind a row of buildings, each given what the one before handed back
unfoldable pub kept_after : List Asked → ℕ → ℕ
kept_after [] last = last
kept_after (q ∷ qs) last = kept_after qs (answer_to q last).counter

-- a building hands back the next counter, which there is, or the one that it was given
steps : (q : Asked) (last : ℕ) → last < 18446744073709551616
    → (last ≤ (answer_to q last).counter) × ((answer_to q last).counter < 18446744073709551616)
steps q last small = go (eqb (answer_to q last).number 0) refl
  where
    kept : (answer_to q last).counter ≡ pick (eqb (answer_to q last).number 0) (last + 1) last
    kept = counter_kept scheme_of q.instance q.key q.station last q.text q.out

    go : (b : Bool) → eqb (answer_to q last).number 0 ≡ b → (last ≤ (answer_to q last).counter) × ((answer_to q last).counter < 18446744073709551616)
    go true e =
        let none = taken q.instance q.key q.station last q.text q.out (eqb-true (answer_to q last).number 0 e) in
        let most : (last ≡ most_counter → ⊥) = (can_build scheme_of q.instance (length q.key) (length q.text) (length q.out) last none).1 in
        let next = kept ∙ ap (λ (b : Bool). pick b (last + 1) last) e in
        (omega (arith, next), omega (arith, next, most))
    go false e = let same = kept ∙ ap (λ (b : Bool). pick b (last + 1) last) e in (omega (arith, same), omega (arith, same))

pub kept_rises : (qs : List Asked) (last : ℕ) → last < 18446744073709551616 → (last ≤ kept_after qs last) × (kept_after qs last < 18446744073709551616)
unfolding kept_after
kept_rises [] last small = (omega arith, small)
kept_rises (q ∷ qs) last small =
    let one = steps q last small in
    let rest = kept_rises qs (answer_to q last).counter one.1 in
    (omega (arith, one.0, rest.0), rest.1)

-- a parcel, any row of buildings after it, and another parcel
pub no_nonce_twice : (q : Asked) (qs : List Asked) (q' : Asked) (last : ℕ) → q.station < 65536 → q'.station < 65536 → last < 18446744073709551616
    → (answer_to q last).number ≡ 0 → (answer_to q' (kept_after (q ∷ qs) last)).number ≡ 0
    → nonce_of q.station (answer_to q last).counter ≡ nonce_of q'.station (answer_to q' (kept_after (q ∷ qs) last)).counter → ⊥
no_nonce_twice q qs q' last s s' small well well' same =
    let c : ℕ = (answer_to q last).counter in
    let last' : ℕ = kept_after (q ∷ qs) last in
    let first = steps q last small in
    let between : (c ≤ last') × (last' < 18446744073709551616) = unfold kept_after in kept_rises qs c first.1 in
    let again = steps q' last' between.1 in
    let next : (answer_to q' last').counter ≡ last' + 1 =
    counter_kept scheme_of q'.instance q'.key q'.station last' q'.text q'.out
    ∙ ap (λ (b : Bool). pick b (last' + 1) last') (eq-eqb (answer_to q' last').number 0 well') in
    let one = (nonce_once q.station c q'.station (answer_to q' last').counter s first.1 s' again.1 same).1 in
    omega (arith, one, next, between.0)
