-- `parcel::building::build` meets its contract: a refusal, or the parcel of the next fields.
-- Assumes nothing.
use Rattle.std.proofs.Common.{List, ap, arith, eq-eqb, length, subst, sym, ℕ, ◌+◌, ◌∙◌, ◌≡◌}
use Rattle.instances.specs.Schemes.{scheme_of}
use Rattle.isap.specs.declared.Answer.{Answer}
use Rattle.parcel.specs.Building.{refusal, next_fields, built_of, built_out, PutsParcel}
use Rattle.parcel.specs.Statements.{Builds}
use Rattle.parcel.specs.Fits.{can_build}
use Rattle.parcel.specs.Refused.{building_refused}
use Rattle.parcel.proofs.Numbers.{some_number}
use Rattle.parcel.proofs.building.build.Goals as goal

module _ (instance : ℕ) (key : List ℕ) (station last : ℕ) (text out : List ℕ) where
  refused : (n : ℕ) → n ≡ refusal scheme_of instance key station last text out → (n ≡ 0 → ⊥)
      → Builds scheme_of instance key station last text out (record { number = n; rounds = 0; counter = last }) out
  refused n e f =
      subst (λ (k : ℕ). Builds scheme_of instance key station last text out (record { number = k; rounds = 0; counter = last }) out) (sym e)
      (building_refused scheme_of instance key station last text out (λ z. f (e ∙ z)))

  built : refusal scheme_of instance key station last text out ≡ 0 → (r : Answer) (out' : List ℕ) → PutsParcel scheme_of (next_fields instance station last text) key text r out'
      → Builds scheme_of instance key station last text out (record { number = r.number; rounds = r.rounds; counter = last + 1 }) out'
  unfolding built_of built_out
  built none r out' h =
      let yes = eq-eqb (refusal scheme_of instance key station last text out) 0 none in
      (ap (λ (q : Answer). record { number = q.number; rounds = q.rounds; counter = last + 1 }) h.0 ∙ rw yes, h.1 ∙ rw yes)

pub returns-in-Err : goal.returns-in-Err
returns-in-Err c =
    let a = c.args in
    let n = c.number.ensures in
    refused a.instance a.key.now a.station a.last a.text.now a.out.now c.number.result (n ∙ c.in-Err.ensures) (λ z. some_number c.in-Err.refusal (sym n ∙ z))

pub overflow_add-counter : goal.overflow_add-counter
overflow_add-counter c =
    let a = c.args in
    let can = can_build scheme_of a.instance (length a.key.now) (length a.text.now) (length a.out.now) a.last (sym c.in_default.ensures) in
    record { fits = omega (arith, can.1) }

pub overflow_cast-fields : goal.overflow_cast-fields
overflow_cast-fields c =
    let a = c.args in
    let can = can_build scheme_of a.instance (length a.key.now) (length a.text.now) (length a.out.now) a.last (sym c.in_default.ensures) in
    record { fits = omega (arith, can.0.text_limit) }

pub put_parcel-sealed-requires : goal.put_parcel-sealed-requires
put_parcel-sealed-requires c =
    let a = c.args in
    (can_build scheme_of a.instance (length a.key.now) (length a.text.now) (length a.out.now) a.last (sym c.in_default.ensures)).0

pub returns : goal.returns
returns c =
    let a = c.args in
    built a.instance a.key.now a.station a.last a.text.now a.out.now (sym c.in_default.ensures)
    c.put_parcel-sealed.result c.put_parcel-sealed.new.out c.put_parcel-sealed.ensures
