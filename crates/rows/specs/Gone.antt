-- Whole calls of a part in one go, by the part's kind: the bits of a re-keying, the blocks of a string, and the blocks of the text are fed
-- to the state one after the other.
-- Assumes nothing.
use Rattle.std.specs.Prelude.{◌≡◌, Bool, true, eqb, length, take}
use Rattle.std.proofs.Math.Path.{refl, ap, ap₂}
use Rattle.std.proofs.Common.{sym, ◌∙◌, subst, arith}
use mathlib.Core.List.{List}
use Prim.Native.Nat.{ℕ, zero, suc, ◌+◌, ◌-◌, ◌*◌, ◌≤◌, ◌<◌}
use borrow.Author.Tests.{eqb-true, ne_eqb}
use Rattle.bits.specs.Pick.{pick}
use Rattle.bits.specs.Run.{turns, run}
use Rattle.stopping.specs.Stopped.{whole}
use Rattle.stopping.specs.Parts.{Part, call_of}
use Rattle.stopping.specs.Places.{part_at, shape_at}
use Rattle.stopping.specs.Wholes.{wholes}
use Rattle.bits.specs.Strings.{xor_into, xor_at, block}
use Rattle.mode.specs.Strings.{padded}
use Rattle.mode.specs.StringLaws.{block_full}
use Rattle.mode.specs.Params.{Params}
use Rattle.scheme.specs.Machine.{Machine, Input, on_state, first, cipher_of, given, machine}
use Rattle.mode.specs.Parts.{part, written, key_bits, texts, assocs, ciphers, mac_key_bits}
use Rattle.mode.proofs.Calls.{turns-run}
use Rattle.mode.specs.InstanceLaws.{lawful_instance}
use Rattle.mode.specs.Instances.{params_of}
use Rattle.mode.specs.Counts.{enc_shapes, mac_shapes}
use Rattle.plan.specs.Kinds.{shape_of}
use Rattle.sponge.specs.Kinds.{part_of}
use Rattle.sponge.specs.Leaves.{turn_of}
use Rattle.sponge.specs.Offsets.{pad_offset, text_offset}
use Rattle.engine.proofs.Holding.{in_string}
use Rattle.engine.specs.Fed.{fed, block_in, nothing_in, written_by}
use Rattle.rows.specs.Bits.{bit_in}

-- the kinds of part that have many calls: 1 and 8 the bits of a re-keying, 3 the text, 5 and 6 associated data and ciphertext
unfoldable pub many : ℕ → Bool
many kind = pick (eqb kind 1) true (pick (eqb kind 8) true (pick (eqb kind 5) true (pick (eqb kind 6) true (eqb kind 3))))

-- calls of such a part, neither its first nor its last, and an output as long as the text
pub record CanGo (instance kind call calls : ℕ) (assoc text out : List ℕ) : Type 0 where
  pub is_many : many kind ≡ true
  pub not_first : 0 < call
  pub not_last : call + calls < (shape_of (params_of instance) (length assoc) (length text) kind).count
  pub out_long : length out ≡ length text

-- state and output after them; session bytes and tag are as they were
unfoldable pub Gone : (instance kind call calls : ℕ) → (sealing : Bool) → (nonce assoc text : List ℕ) → (state session out state' out' : List ℕ) → Type 0
Gone instance kind call calls sealing nonce assoc text state session out state' out' =
    (key tag : List ℕ)
    → wholes (part_of (params_of instance) (given sealing key nonce assoc text) kind) call calls (machine state session out tag)
    ≡ machine state' session out' tag

-- the rounds of a call of a kind
abbrev pub rounds_of : Params → (rounds : ℕ) → List ℕ → List ℕ
rounds_of p r s = run p.n p.round (p.most - r) r s

module _ (p : Params) (x : Input) (kind : ℕ) (h : kind < 11) where
  abbrev q : Part Machine
  q = part_of p x kind

  abbrev f : List ℕ → List ℕ
  f s = rounds_of p q.shape.rounds s

  whole_is : (i : ℕ) (m : Machine) → whole (call_of q i) m ≡ q.leave i (on_state f (q.enter i m))
  unfolding whole call_of
  whole_is i m =
      ap (q.leave i)
      ((λ z. turns (λ (k : ℕ). turn_of p x kind k h z) q.shape.rounds (q.enter i m)) ∙ turns-run p q.shape.rounds q.shape.rounds (q.enter i m))

  -- calls that leave nothing behind, from what enters with each
  fed-wholes : (g : ℕ → List ℕ → List ℕ) (ss o tag : List ℕ) (call k : ℕ)
      → ((i : ℕ) (s : List ℕ) → call ≤ i → i < call + k → q.enter i (machine s ss o tag) ≡ machine (g i s) ss o tag)
      → ((i : ℕ) (m : Machine) → q.leave i m ≡ m)
      → (s : List ℕ) → wholes q call k (machine s ss o tag) ≡ machine (fed f g call k s) ss o tag
  unfolding wholes fed
  fed-wholes g ss o tag call zero en lv s = refl
  fed-wholes g ss o tag call (suc k) en lv s =
      ap (whole (call_of q (call + k))) (fed-wholes g ss o tag call k (λ i u a b. en i u a (omega arith)) lv s)
      ∙ whole_is (call + k) (machine (fed f g call k s) ss o tag)
      ∙ lv (call + k) (on_state f (q.enter (call + k) (machine (fed f g call k s) ss o tag)))
      ∙ ap (on_state f) (en (call + k) (fed f g call k s) (omega arith) (omega arith))

  -- calls that nothing enters and that write the text's blocks
  written-wholes : (ss tag : List ℕ) (call k : ℕ)
      → ((i : ℕ) (m : Machine) → call ≤ i → q.enter i m ≡ m)
      → ((i : ℕ) (m : Machine) → q.leave i m ≡ written p x i m)
      → (s o : List ℕ) → wholes q call k (machine s ss o tag) ≡ machine (fed f nothing_in call k s) ss (written_by f p.b x.text call k s o) tag
  unfolding wholes fed written_by written
  written-wholes ss tag call zero en lv s o = refl
  written-wholes ss tag call (suc k) en lv s o =
      let m = machine (fed f nothing_in call k s) ss (written_by f p.b x.text call k s o) tag in
      ap (whole (call_of q (call + k))) (written-wholes ss tag call k en lv s o)
      ∙ whole_is (call + k) m
      ∙ lv (call + k) (on_state f (q.enter (call + k) m))
      ∙ ap (λ (u : Machine). written p x (call + k) (on_state f u)) (en (call + k) m (omega arith))

-- ---- by kind

module _ (instance call calls : ℕ) (sealing : Bool) (nonce assoc text state session out : List ℕ) where
  abbrev p : Params
  p = params_of instance

  abbrev To : (kind : ℕ) → (state' out' : List ℕ) → Type 0
  To kind s o = Gone instance kind call calls sealing nonce assoc text state session out s o

  pub nonce_bits : To 1 (fed (rounds_of p p.s_b) (bit_in nonce) call calls state) out
  unfolding Gone part_of part_at part key_bits
  nonce_bits key tag =
      fed-wholes p (given sealing key nonce assoc text) 1 (omega arith) (bit_in nonce) session out tag call calls (λ i s a b. refl) (λ i m. refl) state

  pub session_bits : To 8 (fed (rounds_of p p.s_b) (bit_in (take 16 session)) call calls state) out
  unfolding Gone part_of part_at part mac_key_bits
  session_bits key tag =
      fed-wholes p (given sealing key nonce assoc text) 8 (omega arith) (bit_in (take 16 session)) session out tag call calls (λ i s a b. refl) (λ i m. refl) state

  pub assoc_blocks : (call + calls) * p.b ≤ length assoc → To 5 (fed (rounds_of p p.s_h) (block_in p.b assoc) call calls state) out
  unfolding Gone part_of part_at part assocs block
  assoc_blocks h key tag =
      fed-wholes p (given sealing key nonce assoc text) 5 (omega arith) (block_in p.b assoc) session out tag call calls
      (λ i s a b. ap (λ (u : List ℕ). machine (xor_into u s) session out tag) (block_full p.b i assoc (in_string p.b i (call + calls) assoc b h)))
      (λ i m. refl) state

  -- the domain bit goes with the first block alone
  after_first : (i : ℕ) (g : List ℕ → List ℕ) (s : List ℕ) → 0 < i → first i g s ≡ s
  after_first zero g s h = absurd (omega arith)
  after_first (suc i) g s h = refl

  pub cipher-blocks : 0 < call → (cipher : List ℕ) → cipher ≡ pick sealing out text → (call + calls) * p.b ≤ length cipher
      → To 6 (fed (rounds_of p p.s_h) (block_in p.b cipher) call calls state) out
  unfolding Gone part_of part_at part ciphers cipher_of block
  cipher-blocks z cipher e h key tag =
      fed-wholes p (given sealing key nonce assoc text) 6 (omega arith) (block_in p.b cipher) session out tag call calls
      (λ i s a b. ap₂ (λ (t u : List ℕ). machine (xor_into (block p.b i (padded p.b t)) u) session out tag) (sym e) (after_first i (xor_at (p.n - 1) 1) s (omega arith))
      ∙ ap (λ (u : List ℕ). machine (xor_into u s) session out tag) (block_full p.b i cipher (in_string p.b i (call + calls) cipher b h)))
      (λ i m. refl) state

  pub text_blocks_lem : 0 < call
      → To 3 (fed (rounds_of p p.s_e) nothing_in call calls state) (written_by (rounds_of p p.s_e) p.b text call calls state out)
  unfolding Gone part_of part_at part texts
  text_blocks_lem z key tag =
      written-wholes p (given sealing key nonce assoc text) 3 (omega arith) session tag call calls
      (λ i m a. ap (λ (u : List ℕ). record { state = u; session = m.session; out = m.out; tag = m.tag }) (after_first i _ m.state (omega arith)))
      (λ i m. refl) state out

  -- a kind's calls, found by its number
  pub gone_as : {kind k : ℕ} {s s' o o' : List ℕ} → kind ≡ k → s' ≡ s → o' ≡ o → To k s o → To kind s' o'
  gone_as {kind} {k} {s} {s'} {o} {o'} e f g h =
      subst (λ (j : ℕ). To j s' o') (sym e) (subst (λ (u : List ℕ). To k u o') (sym f) (subst (λ (u : List ℕ). To k s u) (sym g) h))

-- ---- the room that the calls have

module _ {instance kind call calls : ℕ} {assoc text out : List ℕ} (can : CanGo instance kind call calls assoc text out) where
  below : (k : ℕ) → kind ≡ k → call + calls < (shape_of (params_of instance) (length assoc) (length text) k).count
  below k e = subst (λ (j : ℕ). call + calls < (shape_of (params_of instance) (length assoc) (length text) j).count) e can.not_last

  pub nonce_room : kind ≡ 1 → call + calls ≤ 128
  unfolding shape_of shape_at enc_shapes mac_shapes
  nonce_room e = omega (arith, below 1 e)

  pub session_room : kind ≡ 8 → call + calls ≤ 128
  unfolding shape_of shape_at enc_shapes mac_shapes
  session_room e = omega (arith, below 8 e)

  pub assoc_room : kind ≡ 5 → (call + calls) * (params_of instance).b ≤ length assoc
  unfolding shape_of shape_at enc_shapes mac_shapes
  assoc_room e = pad_offset (call + calls) (length assoc) (params_of instance).b (below 5 e)

  pub cipher_room : kind ≡ 6 → (call + calls) * (params_of instance).b ≤ length text
  unfolding shape_of shape_at enc_shapes mac_shapes
  cipher_room e = pad_offset (call + calls) (length text) (params_of instance).b (below 6 e)

  pub text_room : kind ≡ 3 → (call + calls) * (params_of instance).b ≤ length text
  unfolding shape_of shape_at enc_shapes mac_shapes
  text_room e = text_offset (params_of instance) (call + calls) (length text) (lawful_instance instance).block (below 3 e)

  -- the kind that is left
  pub text_else : (kind ≡ 1 → ⊥) → (kind ≡ 8 → ⊥) → (kind ≡ 5 → ⊥) → (kind ≡ 6 → ⊥) → kind ≡ 3
  unfolding many
  text_else a b c d =
      eqb-true kind 3 (simp (ne_eqb kind 1 a, ne_eqb kind 8 b, ne_eqb kind 5 c, ne_eqb kind 6 d) at can.is_many)
