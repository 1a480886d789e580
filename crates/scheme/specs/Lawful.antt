-- What every scheme keeps, and what follows from it.
-- Assumes nothing.
use Rattle.std.specs.Prelude.{◌≡◌, refl, Bool, true, false, ℕ, ◌+◌, ◌≤◌, ◌<◌, length}
use Rattle.std.proofs.Common.{sym, ◌∙◌, subst, arith}
use Rattle.std.proofs.Math.Path.{ap, ap₂}
use mathlib.Core.List.{List, ◌++◌}
use Rattle.std.proofs.Math.Decide.{dec_lt}
use Rattle.bits.specs.Pick.{pick}
use Rattle.bits.specs.Bytes.{Bytes}
use Rattle.stopping.specs.Rows.{run}
use Rattle.stopping.specs.Parts.{rounds_in, EachSome, shapes, shapes-append, rounds_in-append, some_shapes, row}
use Rattle.stopping.specs.Course.{Course, Core, parts, front_rounds, back_rounds, accepted, halted, steps, Lawful}
use Rattle.stopping.specs.Kept.{KeepsParts, keeps-stopped, keeps-row}
use Rattle.stopping.specs.Halts.{halted-front, halted_decided, halted-accepted, halted_refused, keeps-halted}
use Rattle.scheme.specs.Machine.{Machine, Input, Opened.plaintext, Opened.refused, Buffer, Sound, Exact}
use Rattle.scheme.specs.Blind.{BlindCourse, core_tails, all_exact, all_tails}
use Rattle.scheme.specs.Scheme.{Scheme, all_shapes, all_count, parts_of}

-- a key and a nonce of their lengths
pub record Keyed (s : Scheme) (x : Input) : Type 0 where
  pub key : length x.key ≡ s.key_bytes
  pub nonce : length x.nonce ≡ 16

-- a machine on which a job may be begun: room for a state and for the session bytes, and an output as long as the text
pub record Ready (s : Scheme) (x : Input) (m : Machine) : Type 0 where
  pub state : s.n ≤ length m.state
  pub session : s.n ≤ length m.session
  pub out : length m.out ≡ length x.text

-- the same, all of it bytes
pub record Given (s : Scheme) (x : Input) : Type 0 where
  pub key : Buffer s.key_bytes x.key
  pub nonce : Buffer 16 x.nonce
  pub assoc : Bytes x.assoc
  pub text : Bytes x.text

-- a course run to its end, whatever its decision says
abbrev pub finished : Course Machine → Machine → Machine
finished c m = run (row c.back) (run (row c.front) m)

-- what every part of a course keeps
pub record KeepsCourse (P : Machine → Type 0) (c : Course Machine) : Type 0 where
  pub front : KeepsParts P c.front
  pub back : KeepsParts P c.back

pub record LawfulScheme (s : Scheme) : Type 0 where
  -- the shapes are the course's, the counts are the shapes', every call has a round, a direction has its number of parts and a job its decision
  pub shapes_front : (x : Input) → shapes (s.course x).front ≡ s.front_shapes x.sealing (length x.assoc) (length x.text)
  pub shapes_back : (x : Input) → shapes (s.course x).back ≡ s.back_shapes x.sealing (length x.assoc) (length x.text)
  pub count_front : (b : Bool) (a m : ℕ) → rounds_in (s.front_shapes b a m) ≡ s.front_count b a m
  pub count_back : (b : Bool) (a m : ℕ) → rounds_in (s.back_shapes b a m) ≡ s.back_count b a m
  pub some_front : (b : Bool) (a m : ℕ) → EachSome (s.front_shapes b a m)
  pub some_back : (b : Bool) (a m : ℕ) → EachSome (s.back_shapes b a m)
  pub fixed : (b : Bool) (a m : ℕ) → length (all_shapes s b a m) ≡ parts_of s b
  pub decides : (b : Bool) (a m : ℕ) → 0 < s.front_count b a m
  -- a sealing has nothing to decide
  pub accepts : (x : Input) → x.sealing ≡ true → (m : Machine) → (s.course x).accepts m ≡ true
  -- what every part keeps: the length of the output; buffers of bytes, each with its length; up to an opening's decision the output itself;
  -- and what lies beyond n is neither read nor changed
  pub long : (x : Input) → KeepsCourse (λ (m : Machine). length m.out ≡ length x.text) (s.course x)
  pub sound : (x : Input) → Given s x → (ls lss : ℕ) → s.n ≤ ls → s.n ≤ lss → KeepsCourse (Sound ls lss (length x.text)) (s.course x)
  pub untouched : (x : Input) → x.sealing ≡ false → (o : List ℕ) → KeepsParts (λ (m : Machine). m.out ≡ o) (s.course x).front
  pub blind : (x : Input) → Keyed s x → BlindCourse s.n (s.course x)
  -- at its end a sealing has the algorithm's ciphertext and tag; an opening accepts exactly when the algorithm does, with its plaintext
  pub sealed : (x : Input) → Keyed s x → x.sealing ≡ true → (m : Machine) → Ready s x m
      → ((finished (s.course x) m).out ≡ (s.seal x.key x.nonce x.assoc x.text).cipher)
      × ((finished (s.course x) m).tag ≡ (s.seal x.key x.nonce x.assoc x.text).tag)
  pub opened : (x : Input) → Given s x → x.sealing ≡ false → (m : Machine) → Ready s x m → Buffer 16 m.tag
      → s.unseal x.key x.nonce x.assoc x.text m.tag
      ≡ pick (accepted (s.course x) m) (plaintext (finished (s.course x) m).out) refused
  -- the algorithm: lengths, opening undoes sealing, sealing undoes opening
  pub cipher_long : (key nonce a m : List ℕ) → length key ≡ s.key_bytes → length nonce ≡ 16 → length (s.seal key nonce a m).cipher ≡ length m
  pub tag_long : (key nonce a m : List ℕ) → length key ≡ s.key_bytes → length nonce ≡ 16 → length (s.seal key nonce a m).tag ≡ 16
  pub open_sealed : (key nonce a m : List ℕ) → Buffer s.key_bytes key → Buffer 16 nonce → Bytes a → Bytes m
      → s.unseal key nonce a (s.seal key nonce a m).cipher (s.seal key nonce a m).tag ≡ plaintext m
  pub sealed_back : (key nonce a c tag m : List ℕ) → Buffer s.key_bytes key → Buffer 16 nonce → Bytes a → Bytes c → Buffer 16 tag
      → s.unseal key nonce a c tag ≡ plaintext m → s.seal key nonce a m ≡ record { cipher = c; tag = tag }

-- ---- what follows

module _ (s : Scheme) (l : LawfulScheme s) where
  pub all_some : (b : Bool) (a m : ℕ) → EachSome (all_shapes s b a m)
  unfolding all_shapes
  all_some b a m = some_shapes (s.front_shapes b a m) (s.back_shapes b a m) (l.some_front b a m) (l.some_back b a m)

  pub count_all : (b : Bool) (a m : ℕ) → rounds_in (all_shapes s b a m) ≡ all_count s b a m
  unfolding all_shapes all_count
  count_all b a m =
      rounds_in-append (s.front_shapes b a m) (s.back_shapes b a m) ∙ ap₂ (λ (i j : ℕ). i + j) (l.count_front b a m) (l.count_back b a m)

  module _ (x : Input) where
    pub shapes_all : shapes (parts (s.course x)) ≡ all_shapes s x.sealing (length x.assoc) (length x.text)
    unfolding all_shapes
    shapes_all = shapes-append (s.course x).front (s.course x).back ∙ ap₂ ◌++◌ (l.shapes_front x) (l.shapes_back x)

    pub front-rounds : front_rounds (s.course x) ≡ s.front_count x.sealing (length x.assoc) (length x.text)
    unfolding front_rounds
    front-rounds = ap rounds_in (l.shapes_front x) ∙ l.count_front x.sealing (length x.assoc) (length x.text)

    pub back-rounds : back_rounds (s.course x) ≡ s.back_count x.sealing (length x.assoc) (length x.text)
    unfolding back_rounds
    back-rounds = ap rounds_in (l.shapes_back x) ∙ l.count_back x.sealing (length x.assoc) (length x.text)

    pub both-rounds : front_rounds (s.course x) + back_rounds (s.course x) ≡ all_count s x.sealing (length x.assoc) (length x.text)
    unfolding all_count
    both-rounds = ap₂ (λ (i j : ℕ). i + j) front-rounds back-rounds

    pub lawful : Lawful (s.course x)
    lawful =
        record {
          front_some = subst EachSome (sym (l.shapes_front x)) (l.some_front x.sealing (length x.assoc) (length x.text));
          back_some = subst EachSome (sym (l.shapes_back x)) (l.some_back x.sealing (length x.assoc) (length x.text));
          decides = subst (λ (n : ℕ). 0 < n) (sym front-rounds) (l.decides x.sealing (length x.assoc) (length x.text));
        }

    pub sealing_accepted : x.sealing ≡ true → (m : Machine) → accepted (s.course x) m ≡ true
    unfolding accepted
    sealing_accepted d m = l.accepts x d (run (row (s.course x).front) m)

    -- wherever it is stopped
    pub out_long_lem : (k : ℕ) (m : Machine) → length m.out ≡ length x.text → length (halted (s.course x) k m).out ≡ length x.text
    out_long_lem k m h = keeps-halted (λ (u : Machine). length u.out ≡ length x.text) (s.course x) (l.long x).front (l.long x).back k m h

    pub sound-halted : Given s x → (ls lss : ℕ) → s.n ≤ ls → s.n ≤ lss → (k : ℕ) (m : Machine) → Sound ls lss (length x.text) m
        → Sound ls lss (length x.text) (halted (s.course x) k m)
    sound-halted g ls lss hs hss k m h =
        let q = l.sound x g ls lss hs hss in
        keeps-halted (Sound ls lss (length x.text)) (s.course x) q.front q.back k m h

    -- until the decision, and after a refusal for good, an opening's output is as it was
    module _ (d : x.sealing ≡ false) (m : Machine) where
      pub untouched_before : (k : ℕ) → k ≤ front_rounds (s.course x) → (halted (s.course x) k m).out ≡ m.out
      untouched_before k h =
          ap Machine.out (halted-front (s.course x) lawful m k h)
          ∙ keeps-stopped (λ (u : Machine). u.out ≡ m.out) (row (s.course x).front)
          (keeps-row (λ (u : Machine). u.out ≡ m.out) (s.course x).front (l.untouched x d m.out)) k m refl

      pub untouched_refused : accepted (s.course x) m ≡ false → (k : ℕ) → (halted (s.course x) k m).out ≡ m.out
      untouched_refused e k =
          let c = s.course x in
          elim (dec_lt k (front_rounds c)) [
            | yes y ↦ untouched_before k (omega arith)
            | no f ↦
                ap Machine.out (halted_refused c lawful m e k (omega arith) ∙ sym (halted_decided c lawful m))
                ∙ untouched_before (front_rounds c) (omega arith)
          ]

    -- at its end
    pub sealed-halted : Keyed s x → x.sealing ≡ true → (m : Machine) → Ready s x m
        → (k : ℕ) → all_count s x.sealing (length x.assoc) (length x.text) ≤ k
        → ((halted (s.course x) k m).out ≡ (s.seal x.key x.nonce x.assoc x.text).cipher)
        × ((halted (s.course x) k m).tag ≡ (s.seal x.key x.nonce x.assoc x.text).tag)
    sealed-halted h d m r k b =
        let e = halted-accepted (s.course x) lawful m (sealing_accepted d m) k (omega (arith, both-rounds)) in
        let q = l.sealed x h d m r in
        (ap Machine.out e ∙ q.0, ap Machine.tag e ∙ q.1)

    pub opened-halted : Given s x → x.sealing ≡ false → (m : Machine) → Ready s x m → Buffer 16 m.tag
        → (k : ℕ) → all_count s x.sealing (length x.assoc) (length x.text) ≤ k
        → s.unseal x.key x.nonce x.assoc x.text m.tag
        ≡ pick (accepted (s.course x) m) (plaintext (halted (s.course x) k m).out) refused
    opened-halted h d m r g k b = l.opened x h d m r g ∙ go (accepted (s.course x) m) refl
      where
        go : (ok : Bool) → accepted (s.course x) m ≡ ok
            → pick ok (plaintext (finished (s.course x) m).out) refused ≡ pick ok (plaintext (halted (s.course x) k m).out) refused
        go true e = ap (λ (u : Machine). plaintext u.out) (sym (halted-accepted (s.course x) lawful m e k (omega (arith, both-rounds))))
        go false e = refl

    -- what lies beyond n, in any number of steps from any record
    pub exact : Keyed s x → (k : ℕ) (j : Core Machine) → Exact s.n j.machine → Exact s.n (steps (s.course x) k j).machine
    exact h k j e = all_exact s.n (s.course x) (l.blind x h) k j e

    pub beyond : Keyed s x → (t v : List ℕ) (k : ℕ) (j : Core Machine) → Exact s.n j.machine
        → steps (s.course x) k (core_tails t v j) ≡ core_tails t v (steps (s.course x) k j)
    beyond h t v k j e = all_tails s.n (s.course x) (l.blind x h) t v k j e
