-- What a loop keeps that holds Shadow's state in words from call to call: the words' bytes and the output are those after so many calls.
-- Assumes nothing.
use mathlib.Core.Path.{◌≡◌, refl, sym, ap, ap₂, ◌∙◌, subst}
use mathlib.Core.Bool.{Bool, true, false}
use mathlib.Core.List.{List, ◌++◌, append-nil}
use Prim.Native.Nat.{ℕ, zero, suc, ◌+◌, ◌-◌, ◌*◌, ◌≤◌, ◌<◌}
use native.Mathlib.Nat.{zero-add}
use native.Mathlib.Numerals.{add-one}
use native.Mathlib.Omega.{arith}
use lib.ListN.{length, drop, drop_of_length-le}
use lib.Seq.{take_all}
use Rattle.bits.specs.Pick.{pick}
use Rattle.bits.specs.Run.{turns, rounds, run, front, Keeps, length-rounds}
use Rattle.bits.proofs.Run.{run-front}
use Rattle.engine.specs.Fed.{fed, block_in}
use Rattle.bits.specs.Put.{put}
use Rattle.bits.specs.Strings.{xor_into, block}
use Rattle.stopping.specs.Stopped.{whole}
use Rattle.stopping.specs.Parts.{call_of}
use Rattle.stopping.specs.Places.{part_at}
use Rattle.stopping.specs.Wholes.{wholes}
use Rattle.scheme.specs.Machine.{Input, machine, given, first, first-later, cipher_of}
use Rattle.s1p.specs.Cipher.{Cipher}
use Rattle.s1p.specs.Paper.{blocks, text_mark, last_data, last_text}
use Rattle.s1p.specs.Parts.{due, next, shadowed, assocs, texts}
use Rattle.s1p.specs.Counts.{blocks_are}
use Rattle.s1p.proofs.Laws.{turns_all, length-last_data, length-last_text}
use Rattle.s1p.proofs.Evenly.{full_data, full_text}
use Rattle.s1p.proofs.Calls.{whole_is, not_due}
use Rattle.spook.specs.Kinds.{part_of}
use Rattle.spook.specs.Leaving.{block_written, written-or}
use Rattle.spook.specs.Going.{Gone, DataGone, TextGone}
use Rattle.spook.proofs.Blocks.{block_long}

-- ---- a whole block

whole_text : (c s : List ℕ) → length c ≡ 32 → last_text c s ≡ c ++ drop 32 s
unfolding put
whole_text c s h = full_text c s h ∙ ap (λ (n : ℕ). c ++ drop n s) h

picked_long : (b : Bool) (y t : List ℕ) → length y ≡ length t → length (pick b y t) ≡ length t
picked_long true y t h = h
picked_long false y t h = refl

module _ (p : Cipher) (keeps : Keeps 64 p.round) where
  -- ---- a whole call: v is the state with what enters, w the rounds of v

  all_rounds : (v w : List ℕ) → length v ≡ 64 → w ≡ rounds p.round 0 12 v → turns (λ (k : ℕ). front 64 (p.round k)) 12 v ≡ w
  unfolding rounds
  all_rounds v w long d = turns_all keeps 12 v long ∙ (λ j. turns (λ (k : ℕ). p.round (sym (zero-add k) j)) 12 v) ∙ sym d

  module _ (b writes : Bool) (key nonce assoc text : List ℕ) (count i : ℕ) (u v w ss o g : List ℕ) (long : length v ≡ 64) (d : w ≡ rounds p.round 0 12 v) where
    abbrev x : Input
    x = given b key nonce assoc text

    data_call : last_data (block 32 i assoc) u ≡ v → suc i < blocks (length assoc)
        → whole (call_of (part_of p x writes count 2) i) (machine u ss o g) ≡ machine w ss o g
    unfolding part_of part_at assocs
    data_call e h =
        whole_is count (shadowed p x) _ (λ j. due p x writes (suc j)) i (machine u ss o g)
        ∙ ap (λ (t : List ℕ). due p x writes (suc i) (machine (turns (λ (k : ℕ). front 64 (p.round k)) 12 t) ss o g)) e
        ∙ ap (λ (t : List ℕ). due p x writes (suc i) (machine t ss o g)) (all_rounds v w long d)
        ∙ not_due p x writes (suc i) (machine w ss o g) h

    text_call_lem : (o' : List ℕ) → last_text (block 32 i (pick b o text)) (first i text_mark u) ≡ v → o' ≡ pick writes (block_written (suc i) text w o) o
        → whole (call_of (part_of p x writes count 3) i) (machine u ss o g) ≡ machine w ss o' g
    unfolding part_of part_at texts cipher_of next
    text_call_lem o' e f =
        whole_is count (shadowed p x) _ (next p x writes) i (machine u ss o g)
        ∙ ap (λ (t : List ℕ). next p x writes i (machine (turns (λ (k : ℕ). front 64 (p.round k)) 12 t) ss o g)) e
        ∙ ap (λ (t : List ℕ). next p x writes i (machine t ss o g)) (all_rounds v w long d)
        ∙ written-or p key nonce assoc text w ss o g b writes (suc i) ∙ ap (λ (z : List ℕ). machine w ss z g) (sym f)

  -- ---- the loop over blocks of the data: u is the state after k calls, v that with the next block, w the rounds of v

  pub data_none : (call : ℕ) (assoc s u : List ℕ) → u ≡ s → DataGone p call 0 assoc s u
  unfolding DataGone Gone wholes
  data_none call assoc s u e b writes text o count key nonce ss g = ap (λ (x : List ℕ). machine x ss o g) (sym e)

  data_next : (call k : ℕ) (assoc s u v w : List ℕ) → DataGone p call k assoc s u → last_data (block 32 (call + k) assoc) u ≡ v
      → suc (call + k) < blocks (length assoc) → length v ≡ 64 → w ≡ rounds p.round 0 12 v → DataGone p call (suc k) assoc s w
  unfolding DataGone Gone wholes
  data_next call k assoc s u v w h e room long d b writes text o count key nonce ss g =
      ap (whole (call_of (part_of p (given b key nonce assoc text) writes count 2) (call + k))) (h b writes text o count key nonce ss g)
      ∙ data_call b writes key nonce assoc text count (call + k) u v w ss o g long d e room

  -- ---- the same over blocks of the text, with the output

  pub text_none : (b writes : Bool) (call : ℕ) (text s o u : List ℕ) → u ≡ s → TextGone p b writes call 0 text s o u o
  unfolding TextGone Gone wholes
  text_none b writes call text s o u e assoc count key nonce ss g = ap (λ (x : List ℕ). machine x ss o g) (sym e)

  text_next : (b writes : Bool) (call k : ℕ) (text s o u v w y z : List ℕ) → TextGone p b writes call k text s o u y
      → last_text (block 32 (call + k) (pick b y text)) (first (call + k) text_mark u) ≡ v → length v ≡ 64 → w ≡ rounds p.round 0 12 v
      → z ≡ pick writes (block_written (suc (call + k)) text w y) y → TextGone p b writes call (suc k) text s o w z
  unfolding TextGone Gone wholes
  text_next b writes call k text s o u v w y z h e long d f assoc count key nonce ss g =
      ap (whole (call_of (part_of p (given b key nonce assoc text) writes count 3) (call + k))) (h assoc count key nonce ss g)
      ∙ text_call_lem b writes key nonce assoc text count (call + k) u v w ss y g long d z e f

  pub text_more : (b writes : Bool) (call k : ℕ) (text s o u v w y z : List ℕ) → TextGone p b writes call k text s o u y
      → length u ≡ 64 → length y ≡ length text → 0 < call → (call + k) * 32 + 32 ≤ length text
      → v ≡ block 32 (call + k) (pick b y text) ++ drop 32 u → w ≡ rounds p.round 0 12 v
      → z ≡ pick writes (block_written (call + k + 1) text w y) y → TextGone p b writes call (k + 1) text s o w z
  text_more b writes call k text s o u v w y z h long same later room e d f =
      let x = block 32 (call + k) (pick b y text) in
      let full : length x ≡ 32 = block_long (call + k) (pick b y text) (omega (arith, picked_long b y text same)) in
      let late : call + k ≡ 0 → ⊥ = λ e. omega arith in
      subst (λ (n : ℕ). TextGone p b writes call n text s o w z) (sym (add-one k))
      (text_next b writes call k text s o u v w y z h
      (ap (last_text x) (first-later (call + k) text_mark u late) ∙ whole_text x u full ∙ sym e)
      (ap length (e ∙ sym (whole_text x u full)) ∙ length-last_text x u (omega arith) ∙ long) d
      (f ∙ ap (λ (n : ℕ). pick writes (block_written n text w y) y) (add-one (call + k))))

  -- the same, as a loop over the calls' numbers has it
  pub text_more-at : (b writes : Bool) (call i : ℕ) (text s o u v w y z : List ℕ) → call ≤ i → TextGone p b writes call (i - call) text s o u y
      → length u ≡ 64 → length y ≡ length text → 0 < call → i * 32 + 32 ≤ length text
      → v ≡ block 32 i (pick b y text) ++ drop 32 u → w ≡ rounds p.round 0 12 v
      → z ≡ pick writes (block_written (i + 1) text w y) y → TextGone p b writes call (i + 1 - call) text s o w z
  text_more-at b writes call i text s o u v w y z le h long same later room e d f =
      let k = i - call in
      let here : i ≡ call + k = omega arith in
      let next : k + 1 ≡ i + 1 - call = omega arith in
      subst (λ (n : ℕ). TextGone p b writes call n text s o w z) next
      (text_more b writes call k text s o u v w y z h long same later (omega arith)
      (e ∙ ap (λ (n : ℕ). block 32 n (pick b y text) ++ drop 32 u) here) d
      (f ∙ ap (λ (n : ℕ). pick writes (block_written (n + 1) text w y) y) here))

  -- ---- blocks of the data, as an engine takes them in (`engine`, `blocks`)

  -- a run on a whole buffer
  whole_run : (v : List ℕ) → length v ≡ 64 → run 64 p.round 0 12 v ≡ rounds p.round 0 12 v
  whole_run v h =
      run-front keeps 0 12 v (omega arith)
      ∙ ap₂ (λ (x y : List ℕ). rounds p.round 0 12 x ++ y) (take_all 64 v (omega arith)) (drop_of_length-le v {i = 64} (omega arith))
      ∙ append-nil (rounds p.round 0 12 v)

  abbrev data_after : (call calls : ℕ) (assoc s : List ℕ) → List ℕ
  data_after call calls assoc s = fed (run 64 p.round 0 12) (block_in 32 assoc) call calls s

  data_after_is : (call calls : ℕ) (assoc s : List ℕ) → length s ≡ 64 → (call + calls) * 32 < length assoc
      → (length (data_after call calls assoc s) ≡ 64) × DataGone p call calls assoc s (data_after call calls assoc s)
  unfolding fed
  data_after_is call zero assoc s long room = (long, data_none call assoc s s refl)
  data_after_is call (suc k) assoc s long room =
      let u = data_after call k assoc s in
      let before = data_after_is call k assoc s long (omega arith) in
      let x = block 32 (call + k) assoc in
      let full : length x ≡ 32 = block_long (call + k) assoc (omega arith) in
      let v = xor_into x u in
      let enters : last_data x u ≡ v = full_data x u full in
      let v_long : length v ≡ 64 = ap length (sym enters) ∙ length-last_data x u (omega arith) (omega (arith, before.0)) ∙ before.0 in
      let run_is = whole_run v v_long in (
        ap length run_is ∙ length-rounds keeps 0 12 v v_long,
        data_next call k assoc s u v (run 64 p.round 0 12 v) before.1 enters (omega (arith, (blocks_are (length assoc)).0)) v_long run_is,
      )

  pub data_fed : (call calls : ℕ) (assoc s t : List ℕ) → length s ≡ 64 → (call + calls) * 32 < length assoc
      → t ≡ data_after call calls assoc s → DataGone p call calls assoc s t
  data_fed call calls assoc s t long room e =
      subst (λ (u : List ℕ). DataGone p call calls assoc s u) (sym e) (data_after_is call calls assoc s long room).1
