-- Document 01's 'Round counts to check': the ten cases marked P, by one statement over the table of them; and so the four empty heartbeats.
-- Assumes nothing.
use Rattle.std.specs.Prelude.{◌≡◌, refl, Bool, ◌&&◌, List, [], ◌∷◌, ◌++◌, ◌+◌, eqb, length}
use Rattle.std.proofs.Common.{ap, ◌∙◌, eqb-true}
use Rattle.std.proofs.Math.Bool.{true}
use Rattle.bits.specs.Every.{and_left, and_right}
use Rattle.stopping.specs.Parts.{total-row}
use Rattle.mode.specs.Paper.{blocks}
use Rattle.mode.specs.Parts.{enc_parts, mac_parts}
use Rattle.mode.proofs.CountLaws.{rounds_mac, front-count, shapes_mac, shapes_sealing}
use Rattle.mode.specs.Counts.{rekey_rounds, verify_rounds, encrypt_rounds, front_count, front_shapes}
use Rattle.mode.specs.Instances.{isap_a128a, isap_a128, isap_k128a, isap_k128, params_of}
use Rattle.mode.specs.Checked.{Case, cases, heartbeats, Holds, Each}

-- the test that decides a line, by the formulas
right : Case → Bool
right t =
    eqb (verify_rounds (params_of t.instance) t.a t.m) t.verify
    && eqb (encrypt_rounds (params_of t.instance) t.m + verify_rounds (params_of t.instance) t.a t.m) t.all

all_right : List Case → Bool
all_right [] = true
all_right (t ∷ ts) = right t && all_right ts

line-holds : (t : Case) → right t ≡ true → Holds t
unfolding Holds right
line-holds t e x ha hm =
    let p = params_of t.instance in
    let v = verify_rounds p t.a t.m in
    let all = encrypt_rounds p t.m + v in (
      total-row (mac_parts p x) ∙ ap Rattle.stopping.specs.Parts.rounds_in (shapes_mac p x) ∙ rounds_mac p (length x.assoc) (length x.text)
          ∙ rw (ha, hm) (eqb-true v t.verify (and_left (eqb v t.verify) (eqb all t.all) e)),
      total-row (enc_parts p x ++ mac_parts p x) ∙ ap Rattle.stopping.specs.Parts.rounds_in (shapes_sealing p x)
          ∙ unfold front_shapes front_count in front-count p true (length x.assoc) (length x.text)
          ∙ rw (ha, hm) (eqb-true all t.all (and_right (eqb v t.verify) (eqb all t.all) e)),
    )

each_holds : (ts : List Case) → all_right ts ≡ true → Each Holds ts
unfolding Each all_right
each_holds [] e = tt
each_holds (t ∷ ts) e = (line-holds t (and_left (right t) (all_right ts) e), each_holds ts (and_right (right t) (all_right ts) e))

-- every line of the table holds
pub table-holds : Each Holds cases
unfolding cases all_right right params_of isap_a128a isap_a128 isap_k128a isap_k128 verify_rounds encrypt_rounds rekey_rounds blocks
table-holds = each_holds cases refl

pub heartbeats_hold : Each Holds heartbeats
unfolding heartbeats all_right right params_of isap_a128a isap_a128 isap_k128a isap_k128 verify_rounds encrypt_rounds rekey_rounds blocks
heartbeats_hold = each_holds heartbeats refl
