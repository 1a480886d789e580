-- Where a job of Spook from a beginning ends, and how: a sealing well after 24 + 12 (1 + u + v) rounds, with u and v the blocks of data and
-- text; an opening by a wrong tag after as many, which are V, if the received tag is another than document 004's; with that tag it ends well,
-- after V + 12 + 12 (u + v) rounds if there is a text, and after V if there is none.
-- Assumes nothing.
use Rattle.std.specs.Prelude.{◌≡◌, Bool, true, ◌↔◌, List, ℕ, ◌+◌, ◌*◌, ◌<◌, length}
use Rattle.std.proofs.Math.Path.{sym}
use Rattle.std.proofs.Common.{ap, ◌∙◌, arith, eq-eqb}
use Rattle.std.proofs.Math.Bool.{false}
use Rattle.stopping.specs.Course.{Course, accepted, lasts}
use Rattle.scheme.specs.Machine.{Machine, Input}
use Rattle.scheme.specs.Scheme.{Scheme}
use Rattle.scheme.specs.Lawful.{Ready}
use Rattle.clyde.specs.Clyde.{clyde_bytes_inverse}
use Rattle.s1p.specs.Paper.{blocks, last_state, required, closing_tweak}
use Rattle.s1p.specs.Parts.{course}
use Rattle.s1p.specs.Counts.{verify_rounds, back_count}
use Rattle.s1p.specs.Scheme.{s1p_scheme}
use Rattle.s1p.proofs.Laws.{closing_tweak_is}
use Rattle.s1p.proofs.Evenly.{last_state_kept}
use Rattle.s1p.proofs.Theorems.{sealing_accepted}
use Rattle.s1p.specs.Spook.{spook, spook_scheme, spook-lawful, decrypt_is}
use Rattle.s1p.proofs.Lasts as s1p
use Rattle.s1p.specs.Lasts.{right_tag}
use Rattle.s1p.proofs.Lasts.{inverse_right, second_some, accepts_if, refuses_if}
use Rattle.instances.specs.Schemes.{is_spook, scheme_of, scheme-spook}
use Rattle.isap.specs.declared.Job.{Job}
use Rattle.isap.specs.Records.{sealing_of, input_of, machine_of, course_of, front_of, back_of}
use Rattle.isap.specs.Lasts.{opening_seals_not}
use Rattle.isap.specs.Slices.{stands_of}
use Rattle.promises.specs.Jobs.{Ends, Throughout, ends, unended_at, ended_at, none_well_decided, SpookJob, spook-ready, spook-course}

module _ (j : Job) (assoc text out : List ℕ) (h : SpookJob j assoc text out) where
  abbrev x : Input
  x = input_of j assoc text

  abbrev m : Machine
  m = machine_of j out

  abbrev r : Ready spook_scheme x m
  r = spook-ready j assoc text out h

  -- V, and the rounds of the second walk
  abbrev verify : ℕ
  verify = 24 + 12 * (1 + blocks (length assoc) + blocks (length text))

  abbrev second : ℕ
  second = 12 + 12 * (blocks (length assoc) + blocks (length text))

  -- ---- how long it lasts

  lasts_is : lasts (course_of scheme_of j assoc text) m ≡ lasts (course spook x) m
  lasts_is = ap (λ (c : Course Machine). lasts c m) (spook-course j assoc text out h)

  accepted_is : accepted (course_of scheme_of j assoc text) m ≡ accepted (course spook x) m
  accepted_is = ap (λ (c : Course Machine). accepted c m) (spook-course j assoc text out h)

  pub sealing_lasts : j.direction ≡ 1 → lasts (course_of scheme_of j assoc text) (machine_of j out) ≡ verify
  sealing_lasts d = lasts_is ∙ s1p.sealing_lasts spook spook-lawful x h.given m r (eq-eqb j.direction 1 d)

  pub opening_lasts : j.direction ≡ 2 → j.tag ≡ right_tag spook (input_of j assoc text) → 0 < length text
      → lasts (course_of scheme_of j assoc text) (machine_of j out) ≡ verify + second
  opening_lasts d right some =
      lasts_is ∙ s1p.opening_lasts spook spook-lawful x h.given m r (opening_seals_not j.direction d) h.tag right some

  pub empty_opening_lasts : j.direction ≡ 2 → j.tag ≡ right_tag spook (input_of j assoc text) → length text ≡ 0
      → lasts (course_of scheme_of j assoc text) (machine_of j out) ≡ verify
  empty_opening_lasts d right none =
      lasts_is ∙ s1p.opening_lasts_empty spook spook-lawful x h.given m r (opening_seals_not j.direction d) h.tag right none

  pub opening_lasts_wrong : j.direction ≡ 2 → (j.tag ≡ right_tag spook (input_of j assoc text) → ⊥)
      → lasts (course_of scheme_of j assoc text) (machine_of j out) ≡ verify
  opening_lasts_wrong d wrong =
      lasts_is ∙ s1p.opening_lasts_wrong spook spook-lawful x h.given m r (opening_seals_not j.direction d) h.tag wrong

  -- ---- whether it accepts: the received tag is document 004's exactly when inverse Clyde of it gives the required value

  abbrev last : List ℕ
  last = last_state spook false j.key j.nonce assoc text

  pub right_by_inverse : (clyde_bytes_inverse j.key (closing_tweak last) j.tag ≡ required last) ↔ (j.tag ≡ right_tag spook (input_of j assoc text))
  unfolding s1p_scheme
  right_by_inverse =
      let g = h.given in
      let kept = last_state_kept spook spook-lawful j.key j.nonce assoc g.nonce.long g.nonce.bytes g.assoc false text g.text in
      let is = decrypt_is j.key (closing_tweak last) j.tag g.key (closing_tweak_is last kept) h.tag in
      let by = inverse_right spook spook-lawful x g j.tag h.tag in
      (λ e. by.0 (is ∙ e), λ e. sym is ∙ by.1 e)

  -- ---- its end, on its record

  accepts : j.direction ≡ 2 → j.tag ≡ right_tag spook x → accepted (course_of scheme_of j assoc text) m ≡ true
  accepts d right = accepted_is ∙ accepts_if spook spook-lawful x h.given m r (opening_seals_not j.direction d) h.tag right

  pub sealing_ends : j.direction ≡ 1 → Throughout j assoc text out h.job (Ends verify 1)
  sealing_ends d =
      ends j assoc text out h.job true verify
      (accepted_is ∙ sealing_accepted spook spook-lawful x h.job.nonce m r (eq-eqb j.direction 1 d)) (sealing_lasts d)

  pub opening_ends : j.direction ≡ 2 → j.tag ≡ right_tag spook (input_of j assoc text) → 0 < length text
      → Throughout j assoc text out h.job (Ends (verify + second) 1)
  opening_ends d right some = ends j assoc text out h.job true (verify + second) (accepts d right) (opening_lasts d right some)

  pub empty_opening_ends : j.direction ≡ 2 → j.tag ≡ right_tag spook (input_of j assoc text) → length text ≡ 0
      → Throughout j assoc text out h.job (Ends verify 1)
  empty_opening_ends d right none = ends j assoc text out h.job true verify (accepts d right) (empty_opening_lasts d right none)

  pub opening_ends_wrong : j.direction ≡ 2 → (j.tag ≡ right_tag spook (input_of j assoc text) → ⊥)
      → Throughout j assoc text out h.job (Ends verify 2)
  opening_ends_wrong d wrong =
      ends j assoc text out h.job false verify
      (accepted_is ∙ refuses_if spook spook-lawful x h.given m r (opening_seals_not j.direction d) h.tag wrong) (opening_lasts_wrong d wrong)

  -- ---- at V, with document 004's tag: unended if there is a text, ended well if there is none

  pub unended_at_V : j.direction ≡ 2 → j.tag ≡ right_tag spook (input_of j assoc text) → 0 < length text
      → Throughout j assoc text out h.job (λ n q. n ≡ verify → q.job.ending ≡ 0)
  unended_at_V d right some = unended_at j assoc text out h.job verify (verify + second) 1 (omega arith) (opening_ends d right some)

  pub well_at_V : j.direction ≡ 2 → j.tag ≡ right_tag spook (input_of j assoc text) → length text ≡ 0
      → Throughout j assoc text out h.job (λ n q. n ≡ verify → q.job.ending ≡ 1)
  well_at_V d right none = ended_at j assoc text out h.job verify 1 (empty_opening_ends d right none)

-- no record of Spook with a text can stand, not even a forged one, that is an opening ended well at exactly V
pub none_well_at_V : (j : Job) → is_spook j.instance ≡ true → stands_of scheme_of j ≡ true → j.direction ≡ 2
    → j.done ≡ 24 + 12 * (1 + blocks j.assoc + blocks j.text) → 0 < j.text → j.ending ≡ 1 → ⊥
unfolding front_of back_of s1p_scheme verify_rounds back_count
none_well_at_V j is_spook_lem stands d v some e =
    let opens = opening_seals_not j.direction d in
    let is = scheme-spook j.instance is_spook_lem in
    let front : front_of scheme_of j ≡ verify_rounds j.assoc j.text =
    ap (λ (s : Scheme). s.front_count (sealing_of j.direction) j.assoc j.text) is in
    let back : back_of scheme_of j ≡ 12 + 12 * (blocks j.assoc + blocks j.text) =
    ap (λ (s : Scheme). s.back_count (sealing_of j.direction) j.assoc j.text) is
    ∙ ap (λ (b : Bool). back_count b j.assoc j.text) opens ∙ second_some j.assoc j.text some in
    none_well_decided j stands d (omega (arith, v, front)) (λ none. omega (arith, none, back)) e
