-- Some calls of one part in one go, on the state and on the output: what the loops on words promise.
-- Assumes nothing.
use Rattle.std.specs.Prelude.{List, ℕ, zero, suc, ◌+◌, ◌*◌}
use Rattle.bits.specs.Put.{put_at}
use Rattle.bits.specs.Xors.{xors}
use Rattle.bits.specs.Strings.{xor_into, block}

-- k calls from the i-th on: g, what enters with the call's own number, then its rounds f
unfoldable pub fed : (f : List ℕ → List ℕ) → (g : ℕ → List ℕ → List ℕ) → (i k : ℕ) → List ℕ → List ℕ
fed f g i zero s = s
fed f g i (suc k) s = f (g (i + k) (fed f g i k s))

-- what enters: a block of a string, nothing
abbrev pub block_in : ℕ → List ℕ → ℕ → List ℕ → List ℕ
block_in b t i s = xor_into (block b i t) s

abbrev pub nothing_in : ℕ → List ℕ → List ℕ
nothing_in i s = s

-- the output, where each call writes its own block of the text xored with the state
unfoldable pub written_by : (f : List ℕ → List ℕ) → (b : ℕ) → (text : List ℕ) → (i k : ℕ) → (state out : List ℕ) → List ℕ
written_by f b text i zero s o = o
written_by f b text i (suc k) s o =
    put_at ((i + k) * b) (xors (fed f nothing_in i (suc k) s) (block b (i + k) text)) (written_by f b text i k s o)
