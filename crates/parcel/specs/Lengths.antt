-- Lengths and bytes of header and nonce.
-- Assumes nothing.
use Rattle.std.specs.Prelude.{◌≡◌, refl, ℕ, length}
use Rattle.std.proofs.Common.{arith}
use Rattle.bits.specs.Bytes.{Bytes, no_bytes, cons_bytes, bytes-append, bytes-zeros}
use Rattle.bits.specs.BigEndian.{be_bytes, bytes-be_bytes}
use Rattle.parcel.specs.declared.Fields.{Fields}
use Rattle.parcel.specs.Layout.{header_of, nonce_of}

pub header_long : (f : Fields) → length (header_of f) ≡ 15
unfolding header_of be_bytes
header_long f = refl

pub nonce_long_lem : (station counter : ℕ) → length (nonce_of station counter) ≡ 16
unfolding nonce_of be_bytes
nonce_long_lem station counter = refl

pub header_bytes : (f : Fields) → Bytes (header_of f)
unfolding header_of
header_bytes f =
    bytes-append
    (bytes-append (bytes-append (bytes-append (cons_bytes (omega arith) (cons_bytes (omega arith) no_bytes)) (bytes-be_bytes 1 f.instance)) (bytes-be_bytes 2 f.station)) (bytes-be_bytes 8 f.counter))
    (bytes-be_bytes 2 f.text)

pub nonce_bytes : (station counter : ℕ) → Bytes (nonce_of station counter)
unfolding nonce_of
nonce_bytes station counter = bytes-append (bytes-append (bytes-be_bytes 2 station) (bytes-be_bytes 8 counter)) (bytes-zeros 6)
