-- A job's record as the mode's definitions see it: what it is given, what it works on, and the record after some steps.
-- Assumes nothing.
use Rattle.std.specs.Prelude.{Bool, List, ℕ, ◌+◌, eqb}
use Rattle.stopping.specs.Parts.{Shape}
use Rattle.stopping.specs.Places.{place_of}
use Rattle.stopping.specs.Course.{Course, Core, steps}
use Rattle.scheme.specs.Machine.{Machine, Input}
use Rattle.scheme.specs.Scheme.{Scheme, all_shapes}
use Rattle.plan.specs.declared.places.Place.{Place}
use Rattle.plan.specs.Planned.{placed}
use Rattle.isap.specs.declared.Job.{Job}

-- direction 1 seals, 2 opens
abbrev pub sealing_of : ℕ → Bool
sealing_of d = eqb d 1

-- what a record is given, with what the host lends
abbrev pub input_of : Job → (assoc text : List ℕ) → Input
input_of j assoc text = record { sealing = sealing_of j.direction; key = j.key; nonce = j.nonce; assoc = assoc; text = text }

-- what it works on, with the output that the host lends
abbrev pub machine_of : Job → (out : List ℕ) → Machine
machine_of j out = record { state = j.state; session = j.session; out = out; tag = j.tag }

abbrev pub core_of : Job → (out : List ℕ) → Core Machine
core_of j out = record { machine = machine_of j out; done = j.done; ending = j.ending }

-- a record with what rounds change in it
abbrev pub changed : Job → (tag : List ℕ) → (done : ℕ) → Place → (ending : ℕ) → (state session : List ℕ) → Job
changed j tag done place ending state session =
    record {
      instance = j.instance;
      direction = j.direction;
      assoc = j.assoc;
      text = j.text;
      key = j.key;
      nonce = j.nonce;
      tag = tag;
      done = done;
      place = place;
      ending = ending;
      state = state;
      session = session;
    }

-- ---- by the schemes of the instances

module _ (of : ℕ → Scheme) where
  unfoldable pub course_of : Job → (assoc text : List ℕ) → Course Machine
  course_of j assoc text = (of j.instance).course (input_of j assoc text)

  -- the shapes of its parts, by its own lengths, and the rounds that it takes up to the decision, after it, and at most
  unfoldable pub shapes_of : Job → List Shape
  shapes_of j = all_shapes (of j.instance) (sealing_of j.direction) j.assoc j.text

  unfoldable pub front_of : Job → ℕ
  front_of j = (of j.instance).front_count (sealing_of j.direction) j.assoc j.text

  unfoldable pub back_of : Job → ℕ
  back_of j = (of j.instance).back_count (sealing_of j.direction) j.assoc j.text

  abbrev pub total_of : Job → ℕ
  total_of j = front_of j + back_of j

  -- the record of a job that is now at k
  abbrev pub after : Job → Core Machine → Job
  after j k = changed j k.machine.tag k.done (placed (place_of (shapes_of j) k.done)) k.ending k.machine.state k.machine.session

  -- n steps of it
  unfoldable pub ran : Job → (assoc text out : List ℕ) → ℕ → Core Machine
  ran j assoc text out n = steps (course_of j assoc text) n (core_of j out)
