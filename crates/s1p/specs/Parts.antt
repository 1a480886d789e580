-- S1P as a row of calls, by request (iv)'s rule between two rounds: a text block is written with the last round of the Shadow call before
-- it; the tag, or its comparison, goes with the last round of the closing call; all else goes with the round after it. Within a Clyde call
-- the state is Clyde's 16 bytes, then 48 zeros; from the first round of the closing one the session bytes hold Shadow's state.
-- Assumes nothing.
use Rattle.std.specs.Prelude.{Bool, true, false, List, [], ◌∷◌, ◌++◌, ℕ, zero, suc, ◌-◌, ◌*◌, eqb, length, take, replicate}
use Rattle.bits.specs.Pick.{pick}
use Rattle.bits.specs.Run.{front}
use Rattle.bits.specs.Put.{put, put_at}
use Rattle.bits.specs.Xors.{xors}
use Rattle.stopping.specs.Parts.{Part}
use Rattle.stopping.specs.Course.{Course}
use Rattle.bits.specs.Strings.{block, same}
use Rattle.scheme.specs.Machine.{Machine, Input, on_state, first, nothing, cipher_of}
use Rattle.s1p.specs.Cipher.{Cipher}
use Rattle.s1p.specs.Paper.{blocks, iv, text_mark, last_data, last_text, closing_tweak}

-- a second walk there is only where there is a text
unfoldable pub unless_empty : (m k : ℕ) → ℕ
unless_empty zero k = 0
unless_empty (suc m) k = k

-- twelve rounds each; a round may read the session bytes
abbrev pub part : (count : ℕ) → (turn : List ℕ → ℕ → List ℕ → List ℕ) → (enter leave : ℕ → Machine → Machine) → Part Machine
part count turn enter leave =
    record { shape = record { count = count; rounds = 12 }; enter = enter; turn = λ k m. on_state (turn m.session k) m; leave = leave }

module _ (p : Cipher) (x : Input) where
  -- ---- what is written: block i of the text, xored with the state, at its place; past the last block nothing
  unfoldable pub written : ℕ → Machine → Machine
  written i m =
      record { state = m.state; session = m.session; out = put_at (i * 32) (xors m.state (block 32 i x.text)) m.out; tag = m.tag }

  -- a walk writes or does not; after j blocks of data the first text block is due if those are all
  unfoldable pub due : Bool → ℕ → Machine → Machine
  due writes j m = pick writes (pick (eqb j (blocks (length x.assoc))) (written 0 m) m) m

  unfoldable pub next : Bool → ℕ → Machine → Machine
  next writes i m = pick writes (written (suc i) m) m

  -- a round of the permutation, on the state's first 64 bytes
  abbrev pub shadowed : List ℕ → ℕ → List ℕ → List ℕ
  shadowed ss k = front 64 (p.round k)

  -- ---- a walk: the seed, Shadow's start, the data, the text

  unfoldable pub seeded : Machine → Machine
  seeded m =
      record { state = put (x.nonce ++ replicate 48 0) m.state; session = put (replicate 64 0) m.session; out = m.out; tag = m.tag }

  unfoldable pub seed : ℕ → Part Machine
  seed count = part count (λ ss k. front 16 (p.forward x.key (replicate 16 0) k)) (λ i. seeded) nothing

  unfoldable pub begin : Bool → ℕ → Part Machine
  begin writes count = part count shadowed (λ i. on_state (λ s. put (iv x.nonce ++ take 16 s) s)) (λ i. due writes 0)

  -- every block by the rule of the last one: no other is short, and to a whole block that rule does what Algorithm 3's loop does
  unfoldable pub assocs : Bool → ℕ → Part Machine
  assocs writes count = part count shadowed (λ i. on_state (last_data (block 32 i x.assoc))) (λ i. due writes (suc i))

  -- likewise; the text's mark goes with the first block
  unfoldable pub texts : Bool → ℕ → Part Machine
  texts writes count =
      part count shadowed (λ i m. on_state (λ s. last_text (block 32 i (cipher_of x m.out)) (first i text_mark s)) m) (next writes)

  abbrev pub walk : Bool → (n d t : ℕ) → List (Part Machine)
  walk writes n d t = seed n ∷ begin writes n ∷ assocs writes d ∷ texts writes t ∷ []

  -- ---- the closing call: forward for the tag, backward for the required value

  unfoldable pub set_aside : List ℕ → Machine → Machine
  set_aside s m =
      record { state = put (s ++ replicate 48 0) m.state; session = put (take 64 m.state) m.session; out = m.out; tag = m.tag }

  unfoldable pub tagged : Machine → Machine
  tagged m = record { state = m.state; session = m.session; out = m.out; tag = take 16 m.state }

  unfoldable pub tagging : Part Machine
  tagging = part 1 (λ ss k. front 16 (p.forward x.key (closing_tweak ss) k)) (λ i m. set_aside (take 16 m.state) m) (λ i. tagged)

  unfoldable pub verifying : Part Machine
  verifying = part 1 (λ ss k. front 16 (p.backward x.key (closing_tweak ss) k)) (λ i m. set_aside (take 16 m.tag) m) nothing

  -- ---- the two courses

  -- u and v
  abbrev pub data_blocks : ℕ
  data_blocks = blocks (length x.assoc)

  abbrev pub text_blocks : ℕ
  text_blocks = blocks (length x.text)

  abbrev pub seal_parts : List (Part Machine)
  seal_parts = seed 1 ∷ begin true 1 ∷ assocs true data_blocks ∷ texts true text_blocks ∷ tagging ∷ []

  abbrev pub verify_parts : List (Part Machine)
  verify_parts = seed 1 ∷ begin false 1 ∷ assocs false data_blocks ∷ texts false text_blocks ∷ verifying ∷ []

  -- the last text block needs no call after it; an empty text has no second walk
  abbrev pub open_parts : List (Part Machine)
  open_parts =
      walk true (unless_empty (length x.text) 1) (unless_empty (length x.text) data_blocks) (unless_empty (length x.text) (text_blocks - 1))

  unfoldable pub sealing_course : Course Machine
  sealing_course = record { front = seal_parts; back = []; accepts = λ m. true }

  unfoldable pub opening_course : Course Machine
  opening_course = record { front = verify_parts; back = open_parts; accepts = λ m. same (take 16 m.state) (take 16 m.session) }

  unfoldable pub course : Course Machine
  course = pick x.sealing sealing_course opening_course
