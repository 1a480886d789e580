-- ISAP's calls: the part at a place is the one of its kind, so what the code does with a call of that kind is what the course's part says.
-- Assumes nothing.
use mathlib.Core.Path.{◌≡◌, refl, sym, ap, ap₂, ◌∙◌, subst}
use mathlib.Core.Bool.{Bool, true, false}
use mathlib.Core.List.{List, []}
use Prim.Native.Nat.{ℕ, ◌+◌, ◌-◌, ◌≤◌, ◌<◌}
use native.Mathlib.Omega.{arith}
use lib.ListN.{length, take}
use Rattle.bits.specs.Pick.{pick}
use Rattle.bits.specs.Every.{upto_at}
use Rattle.bits.specs.Run.{turns, run}
use Rattle.bits.specs.Strings.{same}
use Rattle.stopping.specs.Parts.{Shape, Part}
use Rattle.stopping.specs.Places.{part_at}
use Rattle.stopping.specs.Course.{parts}
use Rattle.stopping.specs.Wholes.{wholes}
use Rattle.scheme.specs.Machine.{Machine, Input, machine, given, on_state}
use Rattle.scheme.specs.Scheme.{parts_of}
use Rattle.scheme.specs.Scheme as schemes
use Rattle.scheme.specs.Calls.{part_in, shape_in, At, Rest, Inner, Enters, Turns, Leaves, Goes, Decides}
use Rattle.mode.specs.Params.{Params}
use Rattle.mode.specs.Parts.{sealing_course, opening_course, course}
use Rattle.mode.specs.Instances.{params_of}
use Rattle.mode.proofs.Calls.{turns-run_from}
use Rattle.mode.specs.InstanceLaws.{lawful_instance}
use Rattle.mode.specs.Isap.{isap_scheme}
use Rattle.mode.proofs.Isap.{lawful_isap}
use Rattle.plan.specs.Kinds.{kind_of, shape_of, eleven_parts, shape_of_part, rounds_most}
use Rattle.sponge.specs.Kinds.{part_of, CanEnter, Entered}
use Rattle.sponge.specs.Leaves.{out_left, tag_left, shape_of_lem, turn_of, leave_of}
use Rattle.rows.specs.Gone.{many, CanGo, Gone}

-- ---- the part at a place, by its kind

module _ (p : Params) (x : Input) where
  abbrev Ordered : Bool → ℕ → Type 0
  Ordered b j = part_at (parts (pick b (sealing_course p x) (opening_course p x))) j ≡ part_of p x (kind_of b j)

  parts_are : (b : Bool) (j : ℕ) → j < 11 → Ordered b j
  unfolding part_of part_at sealing_course opening_course kind_of
  parts_are true j h = upto_at (Ordered true) 11 (((((((((((tt, refl), refl), refl), refl), refl), refl), refl), refl), refl), refl), refl) j h
  parts_are false j h = upto_at (Ordered false) 11 (((((((((((tt, refl), refl), refl), refl), refl), refl), refl), refl), refl), refl), refl) j h

module _ (instance : ℕ) (sealing : Bool) (part : ℕ) where
  pub part_at_lem : part < 11 → (key nonce assoc text : List ℕ) → (kind : ℕ) → kind ≡ kind_of sealing part
      → part_in (isap_scheme (params_of instance)) (given sealing key nonce assoc text) part ≡ part_of (params_of instance) (given sealing key nonce assoc text) kind
  unfolding isap_scheme course
  part_at_lem h key nonce assoc text kind k =
      let x = given sealing key nonce assoc text in
      parts_are (params_of instance) x sealing part h ∙ ap (part_of (params_of instance) x) (sym k)

  -- there are eleven parts, and each has the shape of its kind
  pub of_eleven : (a m : ℕ) → part < length (schemes.all_shapes (isap_scheme (params_of instance)) sealing a m) → part < 11
  of_eleven a m h = omega (arith, h, (lawful_isap (params_of instance) (lawful_instance instance)).fixed sealing a m, eleven_parts instance sealing)

  pub counted : part < parts_of (isap_scheme (params_of instance)) sealing → part < 11
  counted h = omega (arith, h, eleven_parts instance sealing)

  module _ (kind : ℕ) (k : kind ≡ kind_of sealing part) (h : part < 11) where
    pub shape_at : (a m : ℕ) → shape_in (isap_scheme (params_of instance)) sealing a m part ≡ shape_of (params_of instance) a m kind
    shape_at a m = sym (shape_of_part instance sealing a m part kind h k)

    -- ---- what the code asks

    module _ (call round : ℕ) (key nonce assoc text out : List ℕ) (at : At (isap_scheme (params_of instance)) sealing (length assoc) (length text) part call round) (long : length out ≡ length text) (small : kind < 11) where
      is_call_lem : call < (shape_of (params_of instance) (length assoc) (length text) kind).count
      is_call_lem = subst (λ (q : Shape). call < q.count) (shape_at (length assoc) (length text)) at.is_call

      pub can_enter : CanEnter instance kind call (given sealing key nonce assoc text) out
      can_enter =
          record {
            is_kind = small;
            is_call = subst (λ (q : Shape). call < q.count) (sym (shape_of_lem (params_of instance) (given sealing key nonce assoc text) kind)) is_call_lem;
            out_long = long;
          }

    module _ (rounds : ℕ) (r : (a m : ℕ) → rounds ≡ (shape_of (params_of instance) a m kind).rounds) (round count : ℕ) where
      pub within : Rest (isap_scheme (params_of instance)) sealing part round count → round + count ≤ rounds
      within f = omega (arith, f.fits, r f.a f.m, ap Shape.rounds (shape_at f.a f.m))

      pub under : kind < 11 → rounds ≤ (params_of instance).most
      under small = omega (arith, r 0 0, rounds_most instance 0 0 kind small)

    pub can_go : (call calls : ℕ) (assoc text out : List ℕ) → Inner (isap_scheme (params_of instance)) sealing (length assoc) (length text) part call calls
        → many (kind_of sealing part) ≡ true → length out ≡ length text → CanGo instance kind call calls assoc text out
    can_go call calls assoc text out i y long =
        record {
          is_many = ap many k ∙ y;
          not_first = i.not_first;
          not_last = subst (λ (q : Shape). call + calls < q.count) (shape_at (length assoc) (length text)) i.not_last;
          out_long = long;
        }

    -- ---- what it gives

    pub enters : (call : ℕ) (key nonce assoc text state session out tag s ss : List ℕ)
        → Entered instance kind call (given sealing key nonce assoc text) state session out s ss
        → Enters (isap_scheme (params_of instance)) (given sealing key nonce assoc text) part call (machine state session out tag) s ss
    unfolding Entered Enters
    enters call key nonce assoc text state session out tag s ss e =
        ap (λ (q : Part Machine). q.enter call (machine state session out tag)) (part_at_lem h key nonce assoc text kind k) ∙ e tag

    pub leaves : (call : ℕ) (assoc text state out tag out' tag' : List ℕ) → kind < 11
        → out' ≡ out_left (params_of instance) (given sealing [] [] assoc text) kind call state out
        → tag' ≡ tag_left (given sealing [] [] assoc text) kind state tag
        → Leaves (isap_scheme (params_of instance)) sealing part call assoc text state out tag out' tag'
    unfolding Leaves
    leaves call assoc text state out tag out' tag' small o g key nonce session =
        let x = given sealing key nonce assoc text in
        ap (λ (q : Part Machine). q.leave call (machine state session out tag)) (part_at_lem h key nonce assoc text kind k)
        ∙ leave_of (params_of instance) x kind call state session out tag small
        ∙ ap₂ (λ (u v : List ℕ). machine state session u v) (sym o) (sym g)

    pub goes : (call calls : ℕ) (nonce assoc text state session out state' out' : List ℕ)
        → Gone instance kind call calls sealing nonce assoc text state session out state' out'
        → Goes (isap_scheme (params_of instance)) sealing part call calls nonce assoc text state session out state' out'
    unfolding Gone Goes
    goes call calls nonce assoc text state session out state' out' g key tag =
        ap (λ (q : Part Machine). wholes q call calls (machine state session out tag)) (part_at_lem h key nonce assoc text kind k) ∙ g key tag

    -- the rounds of a kind are the permutation's last
    turned : (key nonce assoc text : List ℕ) (round count : ℕ) (m : Machine) → kind < 11
        → turns (λ (i : ℕ). (part_of (params_of instance) (given sealing key nonce assoc text) kind).turn (round + i)) count m
        ≡ on_state (run (params_of instance).n (params_of instance).round ((params_of instance).most - (part_of (params_of instance) (given sealing key nonce assoc text) kind).shape.rounds + round) count) m
    turned key nonce assoc text round count m small =
        let p = params_of instance in
        let x = given sealing key nonce assoc text in
        (λ j. turns (λ (i : ℕ). turn_of p x kind (round + i) small j) count m) ∙ turns-run_from p (part_of p x kind).shape.rounds round count m

    pub turns_by : (rounds from round count : ℕ) → kind < 11 → ((a m : ℕ) → rounds ≡ (shape_of (params_of instance) a m kind).rounds)
        → from ≡ (params_of instance).most - rounds + round → (key state session state' : List ℕ)
        → state' ≡ run (params_of instance).n (params_of instance).round from count state
        → Turns (isap_scheme (params_of instance)) sealing key part round count state session state'
    unfolding Turns
    turns_by rounds from round count small r f key state session state' e nonce assoc text out tag =
        let p = params_of instance in
        let x = given sealing key nonce assoc text in
        let rs : rounds ≡ (part_of p x kind).shape.rounds = r (length assoc) (length text) ∙ sym (ap Shape.rounds (shape_of_lem p x kind)) in
        ap (λ (q : Part Machine). turns (λ (i : ℕ). q.turn (round + i)) count (machine state session out tag)) (part_at_lem h key nonce assoc text kind k)
        ∙ turned key nonce assoc text round count (machine state session out tag) small
        ∙ ap (λ (u : List ℕ). machine u session out tag)
        (sym (e ∙ ap (λ (i : ℕ). run p.n p.round i count state) (f ∙ ap (λ (i : ℕ). p.most - i + round) rs)))

-- ---- the decision

pub decides : (instance : ℕ) (state session tag : List ℕ) (r : Bool) → r ≡ same tag (take 16 state)
    → Decides (isap_scheme (params_of instance)) false state session tag r
unfolding Decides isap_scheme course opening_course
decides instance state session tag r e key nonce assoc text out = e
