-- Document 01's rule between two rounds, on the record and the output of a job of ISAP from a beginning: which bytes of the output are the
-- paper's, when the tag is made, and when the MAC state is set aside, after every number of rounds and every row of budgets; and that the
-- encryption's re-keying is done whatever the text.
-- Assumes nothing.
use Rattle.std.specs.Prelude.{◌≡◌, ◌⊎◌, ℕ, ◌+◌, ◌-◌, ◌≤◌, ◌<◌, length, drop, replicate}
use Rattle.std.proofs.Math.Path.{sym, ap, subst}
use Rattle.std.proofs.Common.{◌∙◌}
use mathlib.Core.List.{List, ◌++◌}
use borrow.Author.Tests.{eq-eqb}
use Rattle.stopping.specs.Course.{Course, halted}
use Rattle.stopping.specs.Follows.{following}
use Rattle.scheme.specs.Machine.{Machine, Input}
use Rattle.scheme.specs.Scheme.{Scheme}
use Rattle.scheme.specs.Lawful.{Keyed, untouched_refused}
use Rattle.mode.specs.Params.{Params, LawfulParams}
use Rattle.mode.specs.Paper.{rekeyed, isap_enc, isap_mac, seal}
use Rattle.mode.specs.Parts.{course}
use Rattle.mode.specs.Counts.{rekey_rounds, verify_rounds, encrypt_rounds}
use Rattle.mode.specs.InstanceLaws.{lawful_instance}
use Rattle.mode.specs.Instances.{params_of}
use Rattle.mode.specs.Isap.{isap_scheme}
use Rattle.mode.proofs.Isap.{lawful_isap}
use Rattle.mode.specs.Theorems.{Ready}
use Rattle.mode.proofs.Theorems.{sealing_tag, accepts_if}
use Rattle.mode.proofs.Lasts.{refuses_if}
use Rattle.mode.specs.Between.{blocks_written, aside_after, mac_state}
use Rattle.mode.proofs.Outputs.{sealing_out_after, opening_out_at}
use Rattle.mode.proofs.Rekeyed as mode
use Rattle.mode.proofs.Sessions.{tag_before_the_end, session_in, session_outside}
use Rattle.instances.specs.Schemes.{scheme_of, scheme_isap, lawful-scheme, scheme-fits, key_bytes_lem}
use Rattle.isap.specs.declared.Job.{Job}
use Rattle.isap.specs.Records.{input_of, machine_of, course_of}
use Rattle.isap.specs.Reached.{at}
use Rattle.isap.specs.Lasts.{opening_seals_not, state_begun, session_begun}
use Rattle.isap.specs.Beyond.{Zeroed, zeros-behind, zeros_beyond}
use Rattle.isap.specs.Budgets.{Progress}
use Rattle.promises.specs.Jobs.{blocks_over, after_rounds, Throughout, throughout, IsapJob, isap_ready, isap_course, isap_fits}

-- ---- the rule

-- the session bytes after n rounds: from the first round of the MAC's re-keying to its last the paper's MAC state, else zero
pub record SessionAfter (p : Params) (x : Input) (n : ℕ) (session : List ℕ) : Type 0 where
  pub aside : aside_after p x.sealing (length x.assoc) (length x.text) < n
      → n ≤ aside_after p x.sealing (length x.assoc) (length x.text) + rekey_rounds p
      → session ≡ mac_state p x ++ replicate (64 - p.n) 0
  pub elsewhere : (n ≤ aside_after p x.sealing (length x.assoc) (length x.text))
      ⊎ (aside_after p x.sealing (length x.assoc) (length x.text) + rekey_rounds p < n)
      → session ≡ replicate 64 0

module _ (p : Params) (x : Input) where
  -- V and E
  abbrev verify : ℕ
  verify = verify_rounds p (length x.assoc) (length x.text)

  abbrev encrypt : ℕ
  encrypt = encrypt_rounds p (length x.text)

  -- the paper's encryption of the text, and its tag over the ciphertext y
  abbrev enc : List ℕ
  enc = isap_enc p x.key x.nonce x.text

  abbrev mac : List ℕ → List ℕ
  mac y = isap_mac p x.key x.nonce x.assoc y

  -- a sealing after n rounds, to which the bytes out were lent
  pub record SealingAfter (out : List ℕ) (n : ℕ) (q : Progress) : Type 0 where
    pub output : q.out ≡ blocks_over p.b (blocks_written p (length x.text) n) enc out
    pub untagged : n < encrypt + verify → q.job.tag ≡ replicate 16 0
    pub tagged : encrypt + verify ≤ n → q.job.tag ≡ mac enc
    pub session : SessionAfter p x n q.job.session

  -- an opening after n rounds, which received the tag: with the paper's, and with another
  pub record OpeningAfter (received out : List ℕ) (n : ℕ) (q : Progress) : Type 0 where
    pub right : received ≡ mac x.text → q.out ≡ blocks_over p.b (blocks_written p (length x.text) (n - verify)) enc out
    pub wrong : (received ≡ mac x.text → ⊥) → q.out ≡ out
    pub session : SessionAfter p x n q.job.session

-- a job whose state, after k rounds, is the one that Algorithm 4 leaves
abbrev pub RekeyedAfter : Params → Input → (k n : ℕ) → Progress → Type 0
RekeyedAfter p x k n q = n ≡ k → q.job.state ≡ rekeyed p 3 x.key x.nonce ++ replicate (64 - p.n) 0

-- ---- jobs keep it

module _ (j : Job) (assoc text out : List ℕ) (h : IsapJob j assoc text out) where
  abbrev p : Params
  p = params_of j.instance

  abbrev x : Input
  x = input_of j assoc text

  abbrev m : Machine
  m = machine_of j out

  abbrev l : LawfulParams p
  l = lawful_instance j.instance

  abbrev r : Ready p x m
  r = isap_ready j assoc text out h

  halted_is : (n : ℕ) → halted (course_of scheme_of j assoc text) n m ≡ halted (course p x) n m
  halted_is n = ap (λ (c : Course Machine). halted c n m) (isap_course j assoc text out h)

  session_after : (n : ℕ) → SessionAfter p x n (halted (course_of scheme_of j assoc text) n m).session
  session_after n =
      let zero = session_begun scheme_of j assoc text out h.job.begun in
      let rest = zeros-behind p.n 64 (isap_fits j assoc text out h) j.session zero in
      subst (λ (q : Machine). SessionAfter p x n q.session) (sym (halted_is n))
      (record {
        aside = λ f b. session_in p l x h.job.key h.job.nonce m r n f b ∙ ap (λ (v : List ℕ). mac_state p x ++ v) rest;
        elsewhere = session_outside p l x h.job.key h.job.nonce m r 64 zero n;
      })

  pub sealing_between : j.direction ≡ 1 → j.tag ≡ replicate 16 0 → Throughout j assoc text out h.job (SealingAfter p x out)
  unfolding after_rounds at following seal
  sealing_between d zero =
      let seals = eq-eqb j.direction 1 d in
      throughout j assoc text out h.job (SealingAfter p x out)
      (λ n.
      record {
        output = ap Machine.out (halted_is n) ∙ sealing_out_after p l x h.job.key h.job.nonce m r seals n;
        untagged = λ b. ap Machine.tag (halted_is n) ∙ tag_before_the_end p l x seals m n b ∙ zero;
        tagged = λ b. ap Machine.tag (halted_is n) ∙ sealing_tag p l x h.job.key h.job.nonce m r seals n b;
        session = session_after n;
      })

  pub opening_between : j.direction ≡ 2 → Throughout j assoc text out h.job (OpeningAfter p x j.tag out)
  unfolding after_rounds at following isap_scheme
  opening_between d =
      let opens = opening_seals_not j.direction d in
      throughout j assoc text out h.job (OpeningAfter p x j.tag out)
      (λ n.
      record {
        right = λ e.
            ap Machine.out (halted_is n)
            ∙ opening_out_at p l x h.job.key h.job.nonce m r opens (accepts_if p l x h.job.key h.job.nonce m r opens e) n;
        wrong = λ e.
            ap Machine.out (halted_is n)
            ∙ untouched_refused (isap_scheme p) (lawful_isap p l) x opens m (refuses_if p l x h.job.key h.job.nonce m r opens e) n;
        session = session_after n;
      })

  -- R rounds into the encryption the session key stands at the front of the state; with an empty text that is all the encryption there is
  rekeyed-after : (k : ℕ) → (halted (course p x) k m).state ≡ rekeyed p 3 j.key j.nonce ++ drop p.n j.state
      → Throughout j assoc text out h.job (RekeyedAfter p x k)
  unfolding after_rounds at following
  rekeyed-after k e =
      let rest = zeros-behind p.n 64 (isap_fits j assoc text out h) j.state (state_begun scheme_of j assoc text out h.job.begun) in
      throughout j assoc text out h.job (RekeyedAfter p x k)
      (λ n f.
      ap (λ (i : ℕ). (halted (course_of scheme_of j assoc text) i m).state) f ∙ ap Machine.state (halted_is k) ∙ e
      ∙ ap (λ (t : List ℕ). rekeyed p 3 j.key j.nonce ++ t) rest)

  pub sealing_rekeyed : j.direction ≡ 1 → Throughout j assoc text out h.job (RekeyedAfter p x (rekey_rounds p))
  sealing_rekeyed d = rekeyed-after (rekey_rounds p) (mode.sealing_rekeyed p l x h.job.key h.job.nonce m r (eq-eqb j.direction 1 d))

  pub opening_rekeyed : j.direction ≡ 2 → j.tag ≡ isap_mac (params_of j.instance) j.key j.nonce assoc text
      → Throughout j assoc text out h.job (RekeyedAfter p x (verify p x + rekey_rounds p))
  opening_rekeyed d right =
      let opens = opening_seals_not j.direction d in
      rekeyed-after (verify p x + rekey_rounds p)
      (mode.opening_rekeyed p l x h.job.key h.job.nonce m r opens (accepts_if p l x h.job.key h.job.nonce m r opens right))

  -- beyond its n bytes, state and session are zero
  pub beyond_zero : Throughout j assoc text out h.job (λ n q. Zeroed (params_of j.instance).n q.job)
  unfolding after_rounds isap_scheme
  beyond_zero =
      let keyed : Keyed (scheme_of j.instance) x = record { key = h.job.key ∙ sym (key_bytes_lem j.instance); nonce = h.job.nonce } in
      throughout j assoc text out h.job (λ n q. Zeroed p.n q.job)
      (λ n.
      subst (λ (s : Scheme). Zeroed s.n (at scheme_of lawful-scheme j assoc text out h.job.begun n)) (scheme_isap j.instance h.isap)
      (zeros_beyond scheme_of lawful-scheme j assoc text out h.job.begun keyed (scheme-fits j.instance) n))
