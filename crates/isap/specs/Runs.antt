-- A job begun and run to its end is the paper's algorithm: what a whole call and a slice with budget enough lean on.
-- Assumes nothing.
use Rattle.std.specs.Prelude.{◌≡◌, Bool, List, ℕ, ◌+◌, ◌≤◌, min, eqb, length, replicate}
use Rattle.std.proofs.Math.Path.{refl, ap}
use Rattle.std.proofs.Common.{sym, ap₂, ◌∙◌, arith}
use Rattle.std.proofs.Math.Bool.{true, false}
use Rattle.std.proofs.lemmas.List.{length-replicate}
use Rattle.bits.specs.Pick.{pick}
use Rattle.stopping.specs.Course.{Course, Core, accepted, lasts, halted, ended_by, front_rounds, back_rounds, Lawful}
use Rattle.stopping.specs.Halts.{lasts-accepted, lasts_refused}
use Rattle.stopping.specs.Follows.{lasts_most, following, follows, ended}
use Rattle.scheme.specs.Machine.{Machine, Input, Buffer, Opened, Opened.plaintext, Opened.refused}
use Rattle.scheme.specs.Scheme.{Scheme, all_count}
use Rattle.scheme.specs.Lawful.{Keyed, Ready, Given, LawfulScheme, lawful, front-rounds, both-rounds, sealing_accepted, untouched_refused, sealed-halted, opened-halted}
use Rattle.isap.specs.declared.Job.{Job}
use Rattle.isap.specs.declared.Answer.{Answer}
use Rattle.isap.specs.Records.{course_of, ran}
use Rattle.isap.specs.Slices.{number_of}
use Rattle.isap.specs.Beginnings.{begun_job}
use Rattle.isap.specs.Whole.{opened_answer, opened_out}

module _ (of : ℕ → Scheme) (laws : (i : ℕ) → LawfulScheme (of i)) (fits : (i : ℕ) → (of i).n ≤ 64) where
  module _ (instance direction : ℕ) (key nonce tag assoc text out : List ℕ)
      (hk : length key ≡ (of instance).key_bytes) (hn : length nonce ≡ 16) (long : length out ≡ length text) where
    abbrev s : Scheme
    s = of instance

    abbrev j : Job
    j = begun_job of instance direction key nonce tag (length assoc) (length text)

    abbrev x : Input
    x = record { sealing = eqb direction 1; key = key; nonce = nonce; assoc = assoc; text = text }

    abbrev m : Machine
    m = record { state = replicate 64 0; session = replicate 64 0; out = out; tag = tag }

    abbrev c : Course Machine
    c = course_of of j assoc text

    lawful_c : Lawful c
    unfolding course_of begun_job
    lawful_c = lawful (of instance) (laws instance) x

    keyed : Keyed s x
    keyed = record { key = hk; nonce = hn }

    ready : Ready s x m
    ready =
        let w = length-replicate {A = ℕ} 64 0 in
        record { state = omega (arith, fits instance, w); session = omega (arith, fits instance, w); out = long }

    -- wherever it is stopped
    pub runs : (n : ℕ) → ran of j assoc text out n ≡ record { machine = halted c n m; done = min n (lasts c m); ending = ended_by c n m }
    unfolding ran begun_job following
    runs n = follows c lawful_c m n

    both : front_rounds c + back_rounds c ≡ all_count (of instance) (eqb direction 1) (length assoc) (length text)
    unfolding course_of begun_job
    both = both-rounds (of instance) (laws instance) x

    module _ (n : ℕ) (h : all_count (of instance) (eqb direction 1) (length assoc) (length text) ≤ n) where
      over : lasts c m ≤ n
      over = omega (arith, h, lasts_most c lawful_c m, both)

      ends : (b : Bool) → accepted c m ≡ b → ended_by c n m ≡ pick b 1 2
      ends b e = ended c lawful_c m n over ∙ ap (λ (b : Bool). pick b 1 2) e

      answer_is : (b : Bool) (d : ℕ) → accepted c m ≡ b → lasts c m ≡ d
          → ◌≡◌ {A = Answer} (record { number = number_of (ran of j assoc text out n).ending; rounds = (ran of j assoc text out n).done }) (record { number = number_of (pick b 1 2); rounds = d })
      answer_is b d e f =
          let r = runs n in
          let done : min n (lasts c m) ≡ d = omega (arith, over, f) in
          (λ i. record { number = number_of (r i).ending; rounds = (r i).done })
          ∙ ap₂ (λ (u v : ℕ). record { number = number_of u; rounds = v }) (ends b e) done

      -- ---- a sealing

      module _ (d : eqb direction 1 ≡ true) where
        made : accepted c m ≡ true
        unfolding course_of begun_job
        made = sealing_accepted (of instance) (laws instance) x d m

        pub sealing_answer : ◌≡◌ {A = Answer} (record { number = number_of (ran of j assoc text out n).ending; rounds = (ran of j assoc text out n).done })
            (record { number = 0; rounds = all_count (of instance) true (length assoc) (length text) })
        unfolding number_of
        sealing_answer =
            answer_is true (all_count (of instance) true (length assoc) (length text)) made
            (lasts-accepted c lawful_c m made ∙ both ∙ ap (λ (b : Bool). all_count (of instance) b (length assoc) (length text)) d)

        pub sealing_writes : (ran of j assoc text out n).machine.out ≡ ((of instance).seal key nonce assoc text).cipher
        unfolding course_of begun_job
        sealing_writes = ap (λ (k : Core Machine). k.machine.out) (runs n) ∙ (sealed-halted (of instance) (laws instance) x keyed d m ready n h).0

        pub sealing_tags : (ran of j assoc text out n).machine.tag ≡ ((of instance).seal key nonce assoc text).tag
        unfolding course_of begun_job
        sealing_tags = ap (λ (k : Core Machine). k.machine.tag) (runs n) ∙ (sealed-halted (of instance) (laws instance) x keyed d m ready n h).1

      -- ---- an opening

      module _ (d : eqb direction 1 ≡ false) (given : Given (of instance) x) (tagged : Buffer 16 tag) where
        u : Opened
        u = (of instance).unseal key nonce assoc text tag

        paper : (b : Bool) → accepted c m ≡ b → u ≡ pick b (plaintext (halted c n m).out) refused
        unfolding u course_of begun_job
        paper b e = opened-halted (of instance) (laws instance) x given d m ready tagged n h ∙ ap (λ (b : Bool). pick b (plaintext (halted ((of instance).course x) n m).out) refused) e

        front_is_lem : front_rounds c ≡ (of instance).front_count false (length assoc) (length text)
        unfolding course_of begun_job
        front_is_lem = front-rounds (of instance) (laws instance) x ∙ ap (λ (b : Bool). (of instance).front_count b (length assoc) (length text)) d

        abbrev AnswerIs : Type 0
        AnswerIs = ◌≡◌ {A = Answer} (record { number = number_of (ran of j assoc text out n).ending; rounds = (ran of j assoc text out n).done }) (opened_answer (of instance) (length assoc) (length text) u)

        abbrev OutIs : Type 0
        OutIs = (ran of j assoc text out n).machine.out ≡ opened_out u out

        answer_by : (b : Bool) → accepted c m ≡ b → AnswerIs
        unfolding number_of opened_answer
        answer_by true e =
            answer_is true (all_count (of instance) false (length assoc) (length text)) e
            (lasts-accepted c lawful_c m e ∙ both ∙ ap (λ (b : Bool). all_count (of instance) b (length assoc) (length text)) d)
            ∙ ap (opened_answer (of instance) (length assoc) (length text)) (sym (paper true e))
        answer_by false e =
            answer_is false ((of instance).front_count false (length assoc) (length text)) e (lasts_refused c lawful_c m e ∙ front_is_lem)
            ∙ ap (opened_answer (of instance) (length assoc) (length text)) (sym (paper false e))

        out_by_lem : (b : Bool) → accepted c m ≡ b → OutIs
        unfolding opened_out course_of begun_job
        out_by_lem true e =
            ap (λ (k : Core Machine). k.machine.out) (runs n)
            ∙ ap (λ (o : Opened). opened_out o out) (sym (paper true e))
        out_by_lem false e =
            ap (λ (k : Core Machine). k.machine.out) (runs n)
            ∙ untouched_refused (of instance) (laws instance) x d m e n
            ∙ ap (λ (o : Opened). opened_out o out) (sym (paper false e))

        pub opening_answer : ◌≡◌ {A = Answer} (record { number = number_of (ran of j assoc text out n).ending; rounds = (ran of j assoc text out n).done })
            (opened_answer (of instance) (length assoc) (length text) ((of instance).unseal key nonce assoc text tag))
        unfolding u
        opening_answer = answer_by (accepted c m) refl

        pub opening_writes : (ran of j assoc text out n).machine.out ≡ opened_out ((of instance).unseal key nonce assoc text tag) out
        unfolding u
        opening_writes = out_by_lem (accepted c m) refl
