-- Request (iv)'s rule between two rounds, on the record and the output of a job of Spook from a beginning: which bytes of the output are
-- document 004's, when the tag is made, when the session bytes hold Shadow's last state, and what the state is within a Clyde call and at
-- the end of a Shadow call that gives a state which 004 names, after every number of rounds and every row of budgets. Session bytes and state
-- go by the rounds done, so an ended record keeps those of its last round.
-- Assumes nothing.
use Rattle.std.specs.Prelude.{◌≡◌, true, false, ◌⊎◌, length}
use Rattle.std.proofs.Common.{sym, ◌∙◌, inl, inr, zero-add, arith}
use Rattle.std.proofs.Math.Path.{ap, subst}
use Rattle.std.proofs.Math.Bool.{Bool}
use mathlib.Core.List.{List, ◌++◌, append-nil}
use Prim.Native.Nat.{ℕ, zero, suc, ◌+◌, ◌-◌, ◌*◌, ◌≤◌, ◌<◌, min}
use Rattle.std.proofs.Math.ListN.{drop, replicate}
use borrow.Author.Tests.{eq-eqb}
use Rattle.bits.specs.Run.{turns}
use Rattle.stopping.specs.Stopped.{stopped}
use Rattle.stopping.specs.Parts.{row}
use Rattle.stopping.specs.Course.{Course, parts, lasts, halted}
use Rattle.stopping.specs.Follows.{following}
use Rattle.scheme.specs.Machine.{Machine, Input, Sealed}
use Rattle.scheme.specs.Lawful.{Ready, untouched_refused}
use Rattle.clyde.specs.OnBytes.{clyde_turn, clyde_turn_back}
use Rattle.s1p.specs.Paper.{blocks, parsed, start, absorb, text_out, last_state, required, closing_tweak, seal}
use Rattle.s1p.specs.Parts.{course}
use Rattle.s1p.specs.Counts.{verify_rounds}
use Rattle.s1p.specs.Scheme.{s1p_scheme}
use Rattle.s1p.specs.Walks.{clyde_state}
use Rattle.s1p.proofs.Theorems.{sealing_finished, sealing_ends}
use Rattle.s1p.specs.Spook.{spook, spook_scheme, spook-lawful}
use Rattle.s1p.proofs.Spook.{lawful-spook}
use Rattle.s1p.specs.Lasts.{right_tag}
use Rattle.s1p.proofs.Lasts.{goes_on, accepts_if, refuses_if}
use Rattle.s1p.specs.Between.{close_after, close_last, blocks_written}
use Rattle.s1p.proofs.Sessions.{tag_before, tag_opening, session_before, session_closing, session_after}
use Rattle.s1p.proofs.Within.{seed_state, sealing_closing_state, opening_closing_state, second_seed_state}
use Rattle.s1p.proofs.States.{state_started, state_absorbed, state_walked, state_started_again, state_absorbed_again}
use Rattle.s1p.proofs.Outputs.{sealing_out_at, opening_out_at}
use Rattle.instances.specs.Schemes.{scheme_of}
use Rattle.isap.specs.declared.Job.{Job}
use Rattle.isap.specs.Records.{input_of, machine_of, course_of}
use Rattle.isap.specs.Reached.{at}
use Rattle.isap.specs.Lasts.{opening_seals_not, state_begun, session_begun}
use Rattle.isap.specs.Beyond.{zeros-behind}
use Rattle.isap.specs.Budgets.{Progress}
use Rattle.promises.specs.Jobs.{blocks_over, after_rounds, Throughout, throughout, SpookJob, spook-ready, spook-course}

-- ---- the rule

module _ (x : Input) where
  -- V, and the rounds before the closing call
  abbrev verify : ℕ
  verify = verify_rounds (length x.assoc) (length x.text)

  abbrev close : ℕ
  close = close_after (length x.assoc) (length x.text)

  -- u
  abbrev data_blocks : ℕ
  data_blocks = blocks (length x.assoc)

  -- of the text's blocks, how many are written after n rounds of a walk that writes
  abbrev blocks_after : ℕ → ℕ
  blocks_after n = blocks_written (length x.assoc) (length x.text) n

  -- Shadow's last state, document 004's ciphertext and tag, and its plaintext
  abbrev last : List ℕ
  last = last_state spook x.sealing x.key x.nonce x.assoc x.text

  abbrev sealed : Sealed
  sealed = seal spook x.key x.nonce x.assoc x.text

  abbrev plain : List ℕ
  plain = text_out spook false x.key x.nonce x.assoc x.text

  -- the session bytes with d rounds done: from the first round of the closing call to its last Shadow's last state, else zero
  pub record SessionAfter (d : ℕ) (session : List ℕ) : Type 0 where
    pub aside : close < d → d ≤ verify → session ≡ last
    pub elsewhere : (d ≤ close) ⊎ (verify < d) → session ≡ replicate 64 0

  -- the closing call's 16 bytes after k of its rounds: Clyde's of the required value, or inverse Clyde's of the received tag
  abbrev tagging_bytes : (k : ℕ) → List ℕ
  tagging_bytes k = turns (clyde_turn x.key (closing_tweak last)) k (required last)

  abbrev verifying_bytes : (received : List ℕ) → (k : ℕ) → List ℕ
  verifying_bytes received k = turns (clyde_turn_back x.key (closing_tweak last)) k received

  -- the state with d rounds done, within a Clyde call and at its end: Clyde's 16 bytes, then 48 zeros. The seed's are those of the nonce with
  -- a tweak of zeros, and an opening's second walk begins with them again.
  pub record ClydeAfter (closing : ℕ → List ℕ) (d : ℕ) (state : List ℕ) : Type 0 where
    pub seed : 0 < d → d ≤ 12 → state ≡ turns (clyde_turn x.key (replicate 16 0)) d x.nonce ++ replicate 48 0
    pub closed : close < d → d ≤ verify → state ≡ closing (d - close) ++ replicate 48 0
    pub again : verify < d → d ≤ verify + 12 → state ≡ turns (clyde_turn x.key (replicate 16 0)) (d - verify) x.nonce ++ replicate 48 0

  -- the state with d rounds done, at the end of a Shadow call: S_0 behind its start, S_λ behind the data, S_{λ+ℓ} before the closing call,
  -- and in an opening's second walk the first two again. Nothing of the next call is in it.
  pub record ShadowAfter (d : ℕ) (state : List ℕ) : Type 0 where
    pub started : d ≡ 24 → state ≡ start spook x.key x.nonce
    pub absorbed : d ≡ 24 + 12 * data_blocks → state ≡ absorb spook (parsed x.assoc) (start spook x.key x.nonce)
    pub walked : d ≡ close → state ≡ last
    pub started_again : d ≡ verify + 24 → state ≡ start spook x.key x.nonce
    pub absorbed_again : d ≡ verify + (24 + 12 * data_blocks) → state ≡ absorb spook (parsed x.assoc) (start spook x.key x.nonce)

  -- a sealing after n rounds, to which the bytes out were lent
  pub record SealingAfter (out : List ℕ) (n : ℕ) (q : Progress) : Type 0 where
    pub output : q.out ≡ blocks_over 32 (blocks_after n) sealed.cipher out
    pub untagged : n < verify → q.job.tag ≡ replicate 16 0
    pub tagged : verify ≤ n → q.job.tag ≡ sealed.tag
    pub session : SessionAfter q.rounds q.job.session
    pub state : ClydeAfter tagging_bytes q.rounds q.job.state
    pub shadow : ShadowAfter q.rounds q.job.state

  -- an opening after n rounds, which received the tag: with document 004's, and with another
  pub record OpeningAfter (received out : List ℕ) (n : ℕ) (q : Progress) : Type 0 where
    pub right : received ≡ right_tag spook x → q.out ≡ blocks_over 32 (blocks_after (n - verify)) plain out
    pub wrong : (received ≡ right_tag spook x → ⊥) → q.out ≡ out
    pub tag : q.job.tag ≡ received
    pub session : SessionAfter q.rounds q.job.session
    pub state : ClydeAfter (verifying_bytes received) q.rounds q.job.state
    pub shadow : ShadowAfter q.rounds q.job.state

-- ---- jobs keep it

-- stopped after n rounds it is stopped after those of them that it does
halted_done : (c : Course Machine) (n : ℕ) (m : Machine) → halted c n m ≡ halted c (min n (lasts c m)) m
unfolding halted
halted_done c n m =
    let e : min n (lasts c m) ≡ min (min n (lasts c m)) (lasts c m) = omega arith in
    ap (λ (k : ℕ). stopped (row (parts c)) k m) e

-- a record has no byte beyond the 64
none_behind : (s t : List ℕ) → t ≡ replicate 64 0 → s ++ drop 64 t ≡ s
none_behind s t e = ap (λ (u : List ℕ). s ++ u) (zeros-behind 64 64 (omega arith) t e) ∙ append-nil s

module _ (j : Job) (assoc text out : List ℕ) (h : SpookJob j assoc text out) where
  abbrev x : Input
  x = input_of j assoc text

  abbrev m : Machine
  m = machine_of j out

  abbrev r : Ready spook_scheme x m
  r = spook-ready j assoc text out h

  abbrev c : Course Machine
  c = course spook x

  halted_is : (n : ℕ) → halted (course_of scheme_of j assoc text) n m ≡ halted c n m
  halted_is n = ap (λ (c : Course Machine). halted c n m) (spook-course j assoc text out h)

  whole_state : (s : List ℕ) → s ++ drop 64 j.state ≡ s
  whole_state s = none_behind s j.state (state_begun scheme_of j assoc text out h.job.begun)

  whole_session : (s : List ℕ) → s ++ drop 64 j.session ≡ s
  whole_session s = none_behind s j.session (session_begun scheme_of j assoc text out h.job.begun)

  -- ---- session bytes and state, with d rounds done

  session_done : (d : ℕ) → d ≤ lasts c m → SessionAfter x d (halted c d m).session
  session_done d done = record { aside = λ f b. session_closing spook spook-lawful x h.job.nonce m r d f b ∙ whole_session (last x); elsewhere = none }
    where
      none : (d ≤ close x) ⊎ (verify x < d) → (halted c d m).session ≡ replicate 64 0
      none (inl b) =
          session_before spook spook-lawful x h.job.nonce m r 64 (session_begun scheme_of j assoc text out h.job.begun) d b
      none (inr b) =
          let on = goes_on spook x m (omega (arith, done, b)) in
          session_after spook spook-lawful x h.job.nonce m r on.0 on.1 on.2 d b ∙ whole_session (replicate 64 0)

  -- k rounds of a Clyde call behind b rounds
  clyde_done : (b : ℕ) (f : ℕ → List ℕ → List ℕ) (s : List ℕ)
      → ((k : ℕ) → k < 12 → (halted c (b + suc k) m).state ≡ clyde_state (turns f (suc k) s) ++ drop 64 j.state)
      → (d k : ℕ) → d ≡ b + k → 0 < k → k ≤ 12 → (halted c d m).state ≡ turns f k s ++ replicate 48 0
  unfolding clyde_state
  clyde_done b f s e d zero at first most = absurd (omega arith)
  clyde_done b f s e d (suc k) at first most =
      ap (λ (i : ℕ). (halted c i m).state) at ∙ e k (omega arith) ∙ whole_state (clyde_state (turns f (suc k) s))

  -- the closing call, of a sealing and of an opening
  abbrev last_by : Bool → List ℕ
  last_by b = last_state spook b j.key j.nonce assoc text

  tagging_done : x.sealing ≡ true → (d : ℕ) → close x < d → d ≤ verify x → (halted c d m).state ≡ tagging_bytes x (d - close x) ++ replicate 48 0
  unfolding spook
  tagging_done seals d f b =
      let turn : Bool → ℕ → List ℕ → List ℕ = λ o. clyde_turn j.key (closing_tweak (last_by o)) in
      subst (λ (o : Bool). (halted c d m).state ≡ turns (turn o) (d - close x) (required (last_by o)) ++ replicate 48 0) (sym seals)
      (clyde_done (close x) (turn true) (required (last_by true)) (sealing_closing_state spook spook-lawful x h.job.nonce m r seals) d (d - close x)
      (omega arith) (omega arith) (omega (arith, close_last (length assoc) (length text))))

  verifying_done : x.sealing ≡ false → (d : ℕ) → close x < d → d ≤ verify x
      → (halted c d m).state ≡ verifying_bytes x j.tag (d - close x) ++ replicate 48 0
  unfolding spook
  verifying_done opens d f b =
      let turn : Bool → ℕ → List ℕ → List ℕ = λ o. clyde_turn_back j.key (closing_tweak (last_by o)) in
      subst (λ (o : Bool). (halted c d m).state ≡ turns (turn o) (d - close x) j.tag ++ replicate 48 0) (sym opens)
      (clyde_done (close x) (turn false) j.tag (opening_closing_state spook spook-lawful x h.job.nonce m r opens h.tag.long) d (d - close x)
      (omega arith) (omega arith) (omega (arith, close_last (length assoc) (length text))))

  state_done : (closing : ℕ → List ℕ)
      → ((d : ℕ) → close x < d → d ≤ verify x → (halted c d m).state ≡ closing (d - close x) ++ replicate 48 0)
      → (d : ℕ) → d ≤ lasts c m → ClydeAfter x closing d (halted c d m).state
  unfolding spook
  state_done closing closed d done =
      let n16 = h.job.nonce in
      let turn = clyde_turn j.key (replicate 16 0) in
      record {
        seed = λ f b.
            clyde_done 0 turn j.nonce
            (λ k w. ap (λ (i : ℕ). (halted c i m).state) (zero-add (suc k)) ∙ seed_state spook spook-lawful x n16 m k w) d d (omega arith) f b;
        closed = closed d;
        again = λ f b.
            let on = goes_on spook x m (omega (arith, done, f)) in
            clyde_done (verify x) turn j.nonce (second_seed_state spook spook-lawful x n16 m r on.0 h.tag.long on.1 on.2) d (d - verify x)
            (omega arith) (omega arith) (omega arith);
      }

  -- at the end of a Shadow call
  shadow_done : (d : ℕ) → d ≤ lasts c m → ShadowAfter x d (halted c d m).state
  unfolding spook
  shadow_done d done =
      let l = spook-lawful in
      let n16 = h.job.nonce in
      record {
        started = λ e. here e (state_started spook l x n16 m r);
        absorbed = λ e. here e (state_absorbed spook l x n16 m r);
        walked = λ e. here e (state_walked spook l x n16 m r);
        started_again = λ e.
            let on = goes_on spook x m (omega (arith, done, e)) in here e (state_started_again spook l x n16 m r on.0 h.tag.long on.1 on.2);
        absorbed_again = λ e.
            let on = goes_on spook x m (omega (arith, done, e)) in here e (state_absorbed_again spook l x n16 m r on.0 h.tag.long on.1 on.2);
      }
    where
      here : {k : ℕ} {s : List ℕ} → d ≡ k → (halted c k m).state ≡ s ++ drop 64 j.state → (halted c d m).state ≡ s
      here {k} {s} e f = ap (λ (i : ℕ). (halted c i m).state) e ∙ f ∙ whole_state s

  -- ---- so after n rounds of the job

  -- what holds with so many rounds done
  by_done : (P : ℕ → Machine → Type 0) → ((d : ℕ) → d ≤ lasts c m → P d (halted c d m)) → (n : ℕ)
      → P (min n (lasts (course_of scheme_of j assoc text) m)) (halted (course_of scheme_of j assoc text) n m)
  by_done P e n =
      subst (λ (c : Course Machine). P (min n (lasts c m)) (halted c n m)) (sym (spook-course j assoc text out h))
      (subst (P (min n (lasts c m))) (sym (halted_done c n m)) (e (min n (lasts c m)) (omega arith)))

  -- ---- all of it

  pub sealing_between : j.direction ≡ 1 → j.tag ≡ replicate 16 0 → Throughout j assoc text out h.job (SealingAfter (input_of j assoc text) out)
  unfolding after_rounds at following
  sealing_between d none =
      let l = spook-lawful in
      let n16 = h.job.nonce in
      let seals = eq-eqb j.direction 1 d in
      throughout j assoc text out h.job (SealingAfter x out)
      (λ n.
      record {
        output = ap Machine.out (halted_is n) ∙ sealing_out_at spook l x n16 m r seals n;
        untagged = λ b. ap Machine.tag (halted_is n) ∙ tag_before spook x m n b ∙ none;
        tagged = λ b. ap Machine.tag (halted_is n ∙ sealing_ends spook l x n16 m r seals n b ∙ sealing_finished spook l x n16 m r seals);
        session = by_done (λ d q. SessionAfter x d q.session) session_done n;
        state = by_done (λ d q. ClydeAfter x (tagging_bytes x) d q.state) (state_done (tagging_bytes x) (tagging_done seals)) n;
        shadow = by_done (λ d q. ShadowAfter x d q.state) shadow_done n;
      })

  pub opening_between : j.direction ≡ 2 → Throughout j assoc text out h.job (OpeningAfter (input_of j assoc text) j.tag out)
  unfolding after_rounds at following s1p_scheme
  opening_between d =
      let l = spook-lawful in
      let opens = opening_seals_not j.direction d in
      throughout j assoc text out h.job (OpeningAfter x j.tag out)
      (λ n.
      record {
        right = λ e.
            ap Machine.out (halted_is n)
            ∙ opening_out_at spook l x h.job.nonce m r opens h.tag.long (accepts_if spook l x h.given m r opens h.tag e) n;
        wrong = λ e.
            ap Machine.out (halted_is n)
            ∙ untouched_refused spook_scheme lawful-spook x opens m (refuses_if spook l x h.given m r opens h.tag e) n;
        tag = ap Machine.tag (halted_is n) ∙ tag_opening spook x m opens n;
        session = by_done (λ d q. SessionAfter x d q.session) session_done n;
        state = by_done (λ d q. ClydeAfter x (verifying_bytes x j.tag) d q.state) (state_done (verifying_bytes x j.tag) (verifying_done opens)) n;
        shadow = by_done (λ d q. ShadowAfter x d q.state) shadow_done n;
      })
