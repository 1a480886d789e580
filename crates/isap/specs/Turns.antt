-- Some rounds of the call at which a record stands: what goes with the first round, the rounds, what goes with the last. They are as many
-- steps of the job.
-- Assumes nothing.
use Rattle.std.specs.Prelude.{◌≡◌, Bool, true, false, List, eqb, length}
use Rattle.std.proofs.Math.Path.{refl, sym, ap, ap₂}
use Rattle.std.proofs.Common.{◌∙◌, subst, arith}
use Prim.Native.Nat.{ℕ, zero, suc, ◌+◌, ◌-◌, ◌≤◌, ◌<◌}
use Rattle.bits.specs.Pick.{pick}
use Rattle.bits.specs.Run.{turns}
use Rattle.stopping.specs.Stopped.{Call, entered, left}
use Rattle.stopping.specs.Parts.{Shape, EachSome, rounds_in, call_of}
use Rattle.stopping.specs.PlaceLaws.{shape-part, place_inside}
use Rattle.stopping.specs.Places.{Place, place_of, part_at, call_at, shape_at}
use Rattle.stopping.specs.Course.{Course, parts, front_rounds, back_rounds, ending_of, core_at, stands_at, steps, Lawful}
use Rattle.stopping.specs.Chunks.{some, chunk}
use Rattle.scheme.specs.Machine.{Machine, machine}
use Rattle.scheme.specs.Scheme.{Scheme, all_shapes, all_count}
use Rattle.scheme.specs.Calls as calls
use Rattle.scheme.specs.Lawful.{LawfulScheme, all_some, count_all, shapes_all, front-rounds, back-rounds, lawful}
use Rattle.instances.specs.Limits.{most_assoc, most_text}
use Rattle.plan.specs.declared.places.Place as planned
use Rattle.plan.specs.Planned.{placed}
use Rattle.isap.specs.declared.Job.{Job}
use Rattle.isap.specs.Records.{sealing_of, input_of, machine_of, core_of, course_of, shapes_of, front_of, back_of, total_of, ran}

-- k rounds of a call from its round i on, with what goes with its first and its last
unfoldable pub gone : {M : Type 0} → Call M → (i k : ℕ) → M → M
gone f i k m = pick (eqb (i + k) f.rounds) (f.leave (some f i k m)) (some f i k m)

gone-left : {M : Type 0} (f : Call M) (i k : ℕ) (m : M) → left f (i + k) (some f i (suc k) m) ≡ gone f i (suc k) m
unfolding gone left
gone-left f i k m =
    let e : suc (i + k) ≡ i + suc k = omega arith in
    ap (λ (n : ℕ). pick (eqb n f.rounds) (f.leave (some f i (suc k) m)) (some f i (suc k) m)) e

module _ (of : ℕ → Scheme) where
  -- the shape of the part at a place
  abbrev pub shape_here : Job → planned.Place → Shape
  shape_here j w = shape_at (shapes_of of j) w.part

  -- ---- a record that stands at a call, ready for some rounds of it

  pub record Ready (j : Job) (assoc text out : List ℕ) (count : ℕ) : Type 0 where
    pub unended : j.ending ≡ 0
    pub place_is : j.place ≡ placed (place_of (shapes_of of j) j.done)
    pub inside : j.done < total_of of j
    pub assoc_long : length assoc ≡ j.assoc
    pub text_long : length text ≡ j.text
    pub out_long : length out ≡ j.text
    pub assoc_limit : j.assoc ≤ most_assoc
    pub text_limit : j.text ≤ most_text
    pub some_rounds : 0 < count
    pub fits : j.place.round + count ≤ (shape_here j j.place).rounds

  -- a place of the code, inside: a part, a call of it and a round of that which are there
  pub record At (j : Job) (w : planned.Place) : Type 0 where
    pub is_part : w.part < length (shapes_of of j)
    pub is_call : w.call < (shape_here j w).count
    pub is_round : w.round < (shape_here j w).rounds

  -- so many rounds more are of the same call
  pub record Rest (j : Job) (count : ℕ) : Type 0 where
    pub fits : j.place.round + count ≤ (shape_here j j.place).rounds

  -- the call at which it stands
  unfoldable pub call_now : Job → (assoc text : List ℕ) → Call Machine
  call_now j assoc text = call_of (part_at (parts (course_of of j assoc text)) j.place.part) j.place.call

  -- ---- what the code gives, of the call at which a record stands

  -- a call that is there, with what belongs to the record lent
  pub record Here (j : Job) (assoc text out : List ℕ) : Type 0 where
    pub at : calls.At (of j.instance) (sealing_of j.direction) (length assoc) (length text) j.place.part j.place.call j.place.round
    pub out_long : length out ≡ length text

  -- the state and the session bytes that the next round meets; output and tag are as they were
  unfoldable pub Meets : Job → (assoc text out state' session' : List ℕ) → Type 0
  Meets j assoc text out s ss = entered (call_now j assoc text) j.place.round (machine_of j out) ≡ machine s ss out j.tag

  -- what goes with the last round, if it is done: output and tag
  unfoldable pub Left : Job → (last : Bool) → (assoc text out state out' tag' : List ℕ) → Type 0
  Left j last assoc text out s out' tag' =
      (session : List ℕ)
      → pick last ((call_now j assoc text).leave (machine s session out j.tag)) (machine s session out j.tag) ≡ machine s session out' tag'

  -- the ending that its d-th round gives, by the counts that the code has
  unfoldable pub Ends : Job → (d front back : ℕ) → (tag state session : List ℕ) → ℕ → Type 0
  Ends j d front back tag s ss r =
      (assoc text out : List ℕ) → r ≡ ending_of front back d ((course_of of j assoc text).accepts (machine s ss out tag))

  -- the ending that its d-th round gives
  unfoldable pub ends_with : Job → (assoc text : List ℕ) → (d : ℕ) → Machine → ℕ
  ends_with j assoc text d m = ending_of (front_of of j) (back_of of j) d ((course_of of j assoc text).accepts m)

-- ---- a turn, from what the code of a scheme gives

entered-later : {M : Type 0} (f : Call M) (i : ℕ) (m : M) → (i ≡ 0 → ⊥) → entered f i m ≡ m
unfolding entered
entered-later f zero m h = absurd (h refl)
entered-later f (suc i) m h = refl

entered-first : {M : Type 0} (f : Call M) (i : ℕ) (m : M) → i ≡ 0 → entered f i m ≡ f.enter m
unfolding entered
entered-first f i m e = ap (λ (r : ℕ). entered f r m) e

module _ (of : ℕ → Scheme) (j : Job) (assoc text out : List ℕ) where
  pub meets-later : (j.place.round ≡ 0 → ⊥) → Meets of j assoc text out j.state j.session
  unfolding Meets
  meets-later h = entered-later (call_now of j assoc text) j.place.round (machine_of j out) h

  pub meets-first : (s ss : List ℕ) → j.place.round ≡ 0
      → calls.Enters (of j.instance) (input_of j assoc text) j.place.part j.place.call (machine_of j out) s ss → Meets of j assoc text out s ss
  unfolding Meets calls.Enters call_now call_of course_of
  meets-first s ss h e = entered-first (call_now of j assoc text) j.place.round (machine_of j out) h ∙ e

  pub left_not : (s : List ℕ) → Left of j false assoc text out s out j.tag
  unfolding Left
  left_not s session = refl

  pub left_last : (s out' tag' : List ℕ)
      → calls.Leaves (of j.instance) (sealing_of j.direction) j.place.part j.place.call assoc text s out j.tag out' tag'
      → Left of j true assoc text out s out' tag'
  unfolding Left calls.Leaves call_now call_of course_of
  left_last s out' tag' e session = e j.key j.nonce session

  pub gone_by : (count rounds : ℕ) → rounds ≡ (call_now of j assoc text).rounds → (s ss s' out' tag' : List ℕ) → Meets of j assoc text out s ss
      → calls.Turns (of j.instance) (sealing_of j.direction) j.key j.place.part j.place.round count s ss s'
      → Left of j (eqb (j.place.round + count) rounds) assoc text out s' out' tag'
      → machine s' ss out' tag' ≡ gone (call_now of j assoc text) j.place.round count (machine_of j out)
  unfolding gone some Meets calls.Turns Left call_now call_of course_of
  gone_by count rounds r s ss s' out' tag' e t l =
      let f = call_now of j assoc text in
      let i = j.place.round in
      let met : some f i count (machine_of j out) ≡ machine s' ss out j.tag =
      ap (turns (λ (n : ℕ). f.turn (i + n)) count) e ∙ t j.nonce assoc text out j.tag in
      sym (l ss) ∙ ap₂ (λ (n : ℕ) (u : Machine). pick (eqb (i + count) n) (f.leave u) u) r (sym met)

module _ (of : ℕ → Scheme) (laws : (i : ℕ) → LawfulScheme (of i)) where
  -- ---- where it stands

  pub total_is : (j : Job) → rounds_in (shapes_of of j) ≡ total_of of j
  unfolding shapes_of front_of back_of all_count
  total_is j = count_all (of j.instance) (laws j.instance) (sealing_of j.direction) j.assoc j.text

  pub some_shapes_of : (j : Job) → EachSome (shapes_of of j)
  unfolding shapes_of
  some_shapes_of j = all_some (of j.instance) (laws j.instance) (sealing_of j.direction) j.assoc j.text

  pub at_of : (j : Job) → j.done < total_of of j → At of j (placed (place_of (shapes_of of j) j.done))
  at_of j h =
      let i = place_inside (shapes_of of j) (some_shapes_of j) j.done (subst (λ (n : ℕ). j.done < n) (sym (total_is j)) h) in
      record { is_part = i.part; is_call = i.call; is_round = i.round }

  -- so a record whose place is that of its rounds stands in a call
  pub stands_in : (j : Job) → j.place ≡ placed (place_of (shapes_of of j) j.done) → j.done < total_of of j → At of j j.place
  stands_in j e h = subst (At of j) (sym e) (at_of j h)

  -- ---- the rounds of one call are as many steps

  module _ (j : Job) (assoc text out : List ℕ) (count : ℕ) (h : Ready of j assoc text out count) where
    abbrev c : Course Machine
    c = course_of of j assoc text

    w : Place
    w = place_of (shapes_of of j) j.done

    pub lawful_c : Lawful c
    unfolding course_of
    lawful_c = lawful (of j.instance) (laws j.instance) (input_of j assoc text)

    pub stands_at_lem : (d : ℕ) → stands_at c d ≡ place_of (shapes_of of j) d
    unfolding course_of shapes_of stands_at
    stands_at_lem d =
        ap (λ hs. place_of hs d) (shapes_all (of j.instance) (laws j.instance) (input_of j assoc text))
        ∙ ap₂ (λ (a m : ℕ). place_of (all_shapes (of j.instance) (sealing_of j.direction) a m) d) h.assoc_long h.text_long

    stands_is : stands_at c j.done ≡ w
    unfolding w
    stands_is = stands_at_lem j.done

    place_is_lem : j.place ≡ placed w
    unfolding w
    place_is_lem = h.place_is

    pub at : At of j j.place
    at = stands_in j h.place_is h.inside

    call_is : call_at (parts c) w ≡ call_now of j assoc text
    unfolding call_now call_at w
    call_is =
        let e = place_is_lem in
        ap₂ (λ (k i : ℕ). call_of (part_at (parts c) k) i) (sym (ap planned.Place.part e)) (sym (ap planned.Place.call e))

    -- the part at its place has the shape that the lengths give
    pub shape_now : (k : ℕ) → (part_at (parts c) k).shape ≡ shape_at (shapes_of of j) k
    unfolding course_of shapes_of
    shape_now k =
        shape-part (parts c) k
        ∙ ap (λ hs. shape_at hs k) (shapes_all (of j.instance) (laws j.instance) (input_of j assoc text))
        ∙ ap₂ (λ (a m : ℕ). shape_at (all_shapes (of j.instance) (sealing_of j.direction) a m) k) h.assoc_long h.text_long

    pub rounds_now : (call_now of j assoc text).rounds ≡ (shape_here of j j.place).rounds
    unfolding call_now call_of
    rounds_now = ap Shape.rounds (shape_now j.place.part)

    pub front_is_lem : front_rounds c ≡ front_of of j
    unfolding course_of front_of
    front_is_lem =
        front-rounds (of j.instance) (laws j.instance) (input_of j assoc text)
        ∙ ap₂ ((of j.instance).front_count (sealing_of j.direction)) h.assoc_long h.text_long

    pub back_is_lem : back_rounds c ≡ back_of of j
    unfolding course_of back_of
    back_is_lem =
        back-rounds (of j.instance) (laws j.instance) (input_of j assoc text)
        ∙ ap₂ ((of j.instance).back_count (sealing_of j.direction)) h.assoc_long h.text_long

    pub all_rounds : front_rounds c + back_rounds c ≡ total_of of j
    all_rounds = omega (arith, front_is_lem, back_is_lem)

    pub more : j.done < front_rounds c + back_rounds c
    more = omega (arith, h.inside, all_rounds)

    ending_is : (d : ℕ) (m : Machine) → (core_at c d m).ending ≡ ends_with of j assoc text d m
    unfolding ends_with
    ending_is d m = (λ i. ending_of (front_is_lem i) (back_is_lem i) d (c.accepts m))

    rounds-fit : (k : ℕ) → suc k ≡ count → w.round + k < (call_at (parts c) w).rounds
    unfolding call_of call_now
    rounds-fit k e =
        let r = ap (λ (f : Call Machine). f.rounds) call_is in
        let s = ap Shape.rounds (shape_now j.place.part) in
        omega (arith, h.fits, r, s, ap planned.Place.round place_is_lem)

    pub turn_steps : (m : Machine) → m ≡ gone (call_now of j assoc text) j.place.round count (machine_of j out)
        → ran of j assoc text out count ≡ record { machine = m; done = j.done + count; ending = ends_with of j assoc text (j.done + count) m }
    unfolding ran
    turn_steps m q =
        let k : ℕ = count - 1 in
        let n : suc k ≡ count = omega (arith, h.some_rounds) in
        let r : w.round ≡ j.place.round = sym (ap planned.Place.round place_is_lem) in
        let all : left (call_at (parts c) w) (w.round + k) (some (call_at (parts c) w) w.round (suc k) (machine_of j out)) ≡ m =
        ap₂ (λ (g : Call Machine) (i : ℕ). left g (i + k) (some g i (suc k) (machine_of j out))) call_is r
        ∙ gone-left (call_now of j assoc text) j.place.round k (machine_of j out)
        ∙ ap (λ (i : ℕ). gone (call_now of j assoc text) j.place.round i (machine_of j out)) n
        ∙ sym q in
        ap (λ (i : ℕ). steps c i (core_of j out)) (sym n)
        ∙ chunk c lawful_c (core_of j out) h.unended more w stands_is k (rounds-fit k n)
        ∙ ap₂ (λ (i : ℕ) (u : Machine). core_at c (j.done + i) u) n all
        ∙ ap (λ (i : ℕ). record { machine = m; done = j.done + count; ending = i }) (ending_is (j.done + count) m)
