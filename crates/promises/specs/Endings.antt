-- Where a job of ISAP from a beginning ends, and how: a sealing well after E + V rounds; an opening well after V + E rounds if the received
-- tag is the paper's for what it is given, and by a wrong tag after V if it is another. Whatever the text, E has the rounds of the re-keying,
-- so no opening ends well at exactly V; document 01's clause for that is Spook's, with an empty text (`SpookEndings`).
-- Assumes nothing.
use Rattle.std.specs.Prelude.{◌≡◌, Bool, true, false, List, ℕ, ◌+◌, length}
use Rattle.std.proofs.Common.{ap, ◌∙◌, subst, arith, eq-eqb}
use Rattle.stopping.specs.Course.{Course, accepted, lasts}
use Rattle.scheme.specs.Machine.{Machine, Input}
use Rattle.scheme.specs.Scheme.{Scheme}
use Rattle.mode.specs.Params.{Params, LawfulParams}
use Rattle.mode.specs.Paper.{isap_mac}
use Rattle.mode.proofs.CountLaws.{encrypt_some, encrypt_empty}
use Rattle.mode.specs.Counts.{rekey_rounds, verify_rounds, encrypt_rounds, front_count, back_count}
use Rattle.mode.specs.InstanceLaws.{lawful_instance}
use Rattle.mode.specs.Instances.{params_of}
use Rattle.mode.specs.Isap.{isap_scheme}
use Rattle.mode.specs.Parts.{course}
use Rattle.mode.specs.Theorems.{Ready}
use Rattle.mode.proofs.Theorems.{sealing_accepted, accepts_if}
use Rattle.mode.proofs.Lasts as mode
use Rattle.mode.proofs.Lasts.{refuses_if}
use Rattle.instances.specs.Schemes.{is_spook, scheme_of, scheme_isap}
use Rattle.isap.specs.declared.Job.{Job}
use Rattle.isap.specs.Records.{sealing_of, input_of, machine_of, course_of, front_of, back_of}
use Rattle.isap.specs.Lasts.{opening_seals_not}
use Rattle.isap.specs.Slices.{stands_of}
use Rattle.promises.specs.Jobs.{Ends, Throughout, ends, unended_at, none_well_decided, IsapJob, isap_ready, isap_course}

module _ (j : Job) (assoc text out : List ℕ) (h : IsapJob j assoc text out) where
  abbrev p : Params
  p = params_of j.instance

  abbrev x : Input
  x = input_of j assoc text

  abbrev m : Machine
  m = machine_of j out

  abbrev l : LawfulParams p
  l = lawful_instance j.instance

  abbrev r : Ready p x m
  r = isap_ready j assoc text out h

  -- V and E
  abbrev verify : ℕ
  verify = verify_rounds p (length assoc) (length text)

  abbrev encrypt : ℕ
  encrypt = encrypt_rounds p (length text)

  -- ---- how long it lasts

  lasts_is : lasts (course_of scheme_of j assoc text) m ≡ lasts (course p x) m
  lasts_is = ap (λ (c : Course Machine). lasts c m) (isap_course j assoc text out h)

  accepted_is : accepted (course_of scheme_of j assoc text) m ≡ accepted (course p x) m
  accepted_is = ap (λ (c : Course Machine). accepted c m) (isap_course j assoc text out h)

  pub sealing_lasts : j.direction ≡ 1 → lasts (course_of scheme_of j assoc text) (machine_of j out) ≡ encrypt + verify
  sealing_lasts d = lasts_is ∙ mode.sealing_lasts p l x h.job.key h.job.nonce m r (eq-eqb j.direction 1 d)

  pub opening_lasts : j.direction ≡ 2 → j.tag ≡ isap_mac (params_of j.instance) j.key j.nonce assoc text
      → lasts (course_of scheme_of j assoc text) (machine_of j out) ≡ verify + encrypt
  opening_lasts d right = lasts_is ∙ mode.opening_lasts p l x h.job.key h.job.nonce m r (opening_seals_not j.direction d) right

  pub opening_lasts_wrong : j.direction ≡ 2 → (j.tag ≡ isap_mac (params_of j.instance) j.key j.nonce assoc text → ⊥)
      → lasts (course_of scheme_of j assoc text) (machine_of j out) ≡ verify
  opening_lasts_wrong d wrong = lasts_is ∙ mode.opening_lasts_wrong p l x h.job.key h.job.nonce m r (opening_seals_not j.direction d) wrong

  -- ---- its end, on its record

  pub sealing_ends : j.direction ≡ 1 → Throughout j assoc text out h.job (Ends (encrypt + verify) 1)
  sealing_ends d =
      ends j assoc text out h.job true (encrypt + verify)
      (accepted_is ∙ sealing_accepted p l x h.job.key h.job.nonce m r (eq-eqb j.direction 1 d)) (sealing_lasts d)

  pub opening_ends : j.direction ≡ 2 → j.tag ≡ isap_mac (params_of j.instance) j.key j.nonce assoc text
      → Throughout j assoc text out h.job (Ends (verify + encrypt) 1)
  opening_ends d right =
      ends j assoc text out h.job true (verify + encrypt)
      (accepted_is ∙ accepts_if p l x h.job.key h.job.nonce m r (opening_seals_not j.direction d) right) (opening_lasts d right)

  pub opening_ends_wrong : j.direction ≡ 2 → (j.tag ≡ isap_mac (params_of j.instance) j.key j.nonce assoc text → ⊥)
      → Throughout j assoc text out h.job (Ends verify 2)
  opening_ends_wrong d wrong =
      ends j assoc text out h.job false verify
      (accepted_is ∙ refuses_if p l x h.job.key h.job.nonce m r (opening_seals_not j.direction d) wrong) (opening_lasts_wrong d wrong)

  -- ---- past V

  -- at V an opening with the paper's tag is unended, whatever the text
  pub unended_at_V : j.direction ≡ 2 → j.tag ≡ isap_mac (params_of j.instance) j.key j.nonce assoc text
      → Throughout j assoc text out h.job (λ n q. n ≡ verify → q.job.ending ≡ 0)
  unended_at_V d right =
      unended_at j assoc text out h.job verify (verify + encrypt) 1 (omega (arith, encrypt_some p l (length text))) (opening_ends d right)

  -- with an empty text a sealing takes R + V rounds, and such an opening V + R
  module _ (none : length text ≡ 0) where
    empty : encrypt ≡ rekey_rounds p
    empty = encrypt_empty p l (length text) none

    pub empty_sealing_ends : j.direction ≡ 1 → Throughout j assoc text out h.job (Ends (rekey_rounds (params_of j.instance) + verify) 1)
    empty_sealing_ends d = subst (λ (k : ℕ). Throughout j assoc text out h.job (Ends (k + verify) 1)) empty (sealing_ends d)

    pub empty_opening_ends : j.direction ≡ 2 → j.tag ≡ isap_mac (params_of j.instance) j.key j.nonce assoc text
        → Throughout j assoc text out h.job (Ends (verify + rekey_rounds (params_of j.instance)) 1)
    empty_opening_ends d right = subst (λ (k : ℕ). Throughout j assoc text out h.job (Ends (verify + k) 1)) empty (opening_ends d right)

-- no record of ISAP can stand, not even a forged one, that is an opening ended well at exactly V (of Spook one can: with an empty text)
pub none_well_at_V : (j : Job) → is_spook j.instance ≡ false → stands_of scheme_of j ≡ true → j.direction ≡ 2
    → j.done ≡ verify_rounds (params_of j.instance) j.assoc j.text → j.ending ≡ 1 → ⊥
unfolding front_of back_of isap_scheme front_count back_count
none_well_at_V j isap stands d v e =
    let p = params_of j.instance in
    let opens = opening_seals_not j.direction d in
    let is = scheme_isap j.instance isap in
    let front : front_of scheme_of j ≡ verify_rounds p j.assoc j.text =
    ap (λ (s : Scheme). s.front_count (sealing_of j.direction) j.assoc j.text) is ∙ ap (λ (b : Bool). front_count p b j.assoc j.text) opens in
    let back : back_of scheme_of j ≡ encrypt_rounds p j.text =
    ap (λ (s : Scheme). s.back_count (sealing_of j.direction) j.assoc j.text) is ∙ ap (λ (b : Bool). back_count p b j.text) opens in
    none_well_decided j stands d (omega (arith, v, front)) (λ none. omega (arith, none, back, encrypt_some p (lawful_instance j.instance) j.text)) e
