-- The laws of Ascon-p that callers go by, so that no proof above opens the definitions: a round keeps 40 bytes, and a call is a run of
-- such rounds (`bits`, `Run`), as words become bytes and come back unchanged.
-- Assumes nothing.
use Rattle.std.specs.Prelude.{◌≡◌, refl, ◌^◌, ◌<◌, length}
use Rattle.bits.specs.Bytes.{Bytes, bytes-append}
use Rattle.bits.specs.BigEndian.{be_bytes, bytes-be_bytes}
use Rattle.bits.specs.Run.{Keeps}
use Rattle.ascon.specs.declared.Words.{Words}
use Rattle.ascon.specs.Permutation.{p, words_of, bytes_of, ascon_round}

-- every word has 64 digits
pub record Fit (s : Words) : Type 0 where
  pub f0 : s.x0 < 2 ^ 64
  pub f1 : s.x1 < 2 ^ 64
  pub f2 : s.x2 < 2 ^ 64
  pub f3 : s.x3 < 2 ^ 64
  pub f4 : s.x4 < 2 ^ 64

pub length-bytes_of : (w : Words) → length (bytes_of w) ≡ 40
unfolding bytes_of be_bytes
length-bytes_of w = refl

pub bytes-bytes_of : (w : Words) → Bytes (bytes_of w)
unfolding bytes_of
bytes-bytes_of w =
    bytes-append
    (bytes-append (bytes-append (bytes-append (bytes-be_bytes 8 w.x0) (bytes-be_bytes 8 w.x1)) (bytes-be_bytes 8 w.x2)) (bytes-be_bytes 8 w.x3))
    (bytes-be_bytes 8 w.x4)

pub ascon_keeps : Keeps 40 ascon_round
unfolding ascon_round
ascon_keeps = record { long = λ i s l. length-bytes_of (p i (words_of s)); bytes = λ i s l h. bytes-bytes_of (p i (words_of s)) }
