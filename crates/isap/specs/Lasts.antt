-- A record as a beginning gives it is ready for its scheme, and an opening of it lasts as the algorithm says: all of its rounds if that gives
-- a plaintext, those up to the decision if that refuses.
-- Assumes nothing.
use Rattle.std.specs.Prelude.{◌≡◌, Bool, ℕ, ◌≤◌, length, replicate}
use Rattle.std.proofs.Math.Path.{refl, ap}
use Rattle.std.proofs.Common.{sym, ◌∙◌, arith, ne_eqb}
use Rattle.std.proofs.Math.Bool.{true, false}
use mathlib.Core.List.{List}
use Rattle.std.proofs.lemmas.List.{length-replicate}
use Rattle.bits.specs.Pick.{pick}
use Rattle.stopping.specs.Course.{accepted, lasts}
use Rattle.scheme.specs.Machine.{Opened, Opened.plaintext, Opened.refused, Buffer}
use Rattle.scheme.specs.Scheme.{Scheme}
use Rattle.scheme.specs.Lawful.{Ready, Given, finished, LawfulScheme}
use Rattle.isap.specs.declared.Job.{Job}
use Rattle.isap.specs.Records.{sealing_of, input_of, machine_of, course_of, front_of, total_of}
use Rattle.isap.specs.Beginnings.{begun_job}
use Rattle.isap.specs.Reached.{Begun, lasts_is}

pub opening_seals_not : (direction : ℕ) → direction ≡ 2 → sealing_of direction ≡ false
opening_seals_not direction d = ne_eqb direction 1 (λ q. omega (arith, d, q))

module _ (of : ℕ → Scheme) (j : Job) (assoc text out : List ℕ) (h : Begun of j assoc text out) where
  pub state_begun : j.state ≡ replicate 64 0
  unfolding begun_job
  state_begun = ap (λ (y : Job). y.state) h.is_begun

  pub session_begun : j.session ≡ replicate 64 0
  unfolding begun_job
  session_begun = ap (λ (y : Job). y.session) h.is_begun

  pub begun-ready : (of j.instance).n ≤ 64 → Ready (of j.instance) (input_of j assoc text) (machine_of j out)
  begun-ready room =
      let w = length-replicate {A = ℕ} 64 0 in
      record {
        state = omega (arith, room, ap length state_begun ∙ w);
        session = omega (arith, room, ap length session_begun ∙ w);
        out = h.out_long ∙ sym h.text_long;
      }

module _ (of : ℕ → Scheme) (laws : (i : ℕ) → LawfulScheme (of i)) (j : Job) (assoc text out : List ℕ) (h : Begun of j assoc text out)
    (room : (of j.instance).n ≤ 64) (d : j.direction ≡ 2) (given : Given (of j.instance) (input_of j assoc text)) (tagged : Buffer 16 j.tag) where
  -- what the algorithm gives
  abbrev opened : Opened
  opened = (of j.instance).unseal j.key j.nonce assoc text j.tag

  -- it accepts exactly when the algorithm gives a plaintext
  decided : opened ≡ pick (accepted (course_of of j assoc text) (machine_of j out)) (plaintext (finished (course_of of j assoc text) (machine_of j out)).out) refused
  unfolding course_of
  decided =
      (laws j.instance).opened (input_of j assoc text) given (opening_seals_not j.direction d) (machine_of j out)
      (begun-ready of j assoc text out h room) tagged

  -- all of its rounds, or those up to the decision
  lasts_for : Opened → ℕ
  lasts_for (plaintext plain) = total_of of j
  lasts_for refused = front_of of j

  lasts_for_lem : lasts (course_of of j assoc text) (machine_of j out) ≡ lasts_for opened
  unfolding lasts_for
  lasts_for_lem =
      lasts_is of laws j assoc text out h ∙ go (accepted (course_of of j assoc text) (machine_of j out)) (finished (course_of of j assoc text) (machine_of j out)).out
      ∙ ap lasts_for (sym decided)
    where
      go : (b : Bool) (plain : List ℕ) → pick b (total_of of j) (front_of of j) ≡ lasts_for (pick b (plaintext plain) refused)
      go true plain = refl
      go false plain = refl

  pub opening_lasts : (plain : List ℕ) → (of j.instance).unseal j.key j.nonce assoc text j.tag ≡ plaintext plain
      → lasts (course_of of j assoc text) (machine_of j out) ≡ total_of of j
  unfolding lasts_for
  opening_lasts plain e = lasts_for_lem ∙ ap lasts_for e

  pub opening_lasts_refused : (of j.instance).unseal j.key j.nonce assoc text j.tag ≡ refused
      → lasts (course_of of j assoc text) (machine_of j out) ≡ front_of of j
  unfolding lasts_for
  opening_lasts_refused e = lasts_for_lem ∙ ap lasts_for e
