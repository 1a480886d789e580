-- The parcel on the air, byte by byte: a header of 15 bytes, the ciphertext, the tag of 16. Numbers are big-endian.
-- Assumes nothing.
use Rattle.std.specs.Prelude.{List, [], ◌∷◌, ◌++◌, ℕ, replicate}
use Rattle.bits.specs.BigEndian.{be_bytes}
use Rattle.scheme.specs.Machine.{Sealed}
use Rattle.parcel.specs.declared.Fields.{Fields}

abbrev pub mark : List ℕ
mark = 0xa7 ∷ 0x5c ∷ []

-- mark, instance (1 byte), station (2), counter (8), text length (2); these 15 bytes are the associated data
unfoldable pub header_of : Fields → List ℕ
header_of f = mark ++ be_bytes 1 f.instance ++ be_bytes 2 f.station ++ be_bytes 8 f.counter ++ be_bytes 2 f.text

-- station, counter, six zero bytes
unfoldable pub nonce_of : (station counter : ℕ) → List ℕ
nonce_of station counter = be_bytes 2 station ++ be_bytes 8 counter ++ replicate 6 0

unfoldable pub parcel_of : Fields → Sealed → List ℕ
parcel_of f s = header_of f ++ s.cipher ++ s.tag

-- the longest text that a parcel carries, and the largest counter
abbrev pub most_carried : ℕ
most_carried = 4096

abbrev pub most_counter : ℕ
most_counter = 18446744073709551615
