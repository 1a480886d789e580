-- Two parcels of one instance of ISAP, built under one key for one station with one counter, in the words of what `parcel::build` promises and of
-- the ciphertext that `parcel::cipher` gives: whoever overhears both has the xor of their texts.
-- Assumes nothing.
use Rattle.std.specs.Prelude.{◌≡◌, false, List, ℕ, ◌+◌, ◌<◌, take}
use Rattle.std.proofs.Common.{◌∙◌}
use Rattle.bits.specs.Xors.{xors}
use Rattle.instances.specs.Schemes.{is_spook}
use Rattle.parcel.specs.Layout.{header_of, nonce_of}
use Rattle.parcel.specs.Lengths.{nonce_long_lem}
use Rattle.parcel.specs.Building.{next_fields, sealed_under}
use Rattle.parcel.specs.Promises.{parcel-cipher, parcel_key}
use Rattle.counters.specs.Sealings.{Under, under_twice, under_common, under_first, isap_cipher}
use Rattle.counters.specs.Parcels.{Parcel}

-- what the types say: a station has 16 bits, a counter 64
module _ (instance : ℕ) (isap : is_spook instance ≡ false) (station last : ℕ) (stations : station < 65536) (counters : last < 18446744073709551616) where
  parcel-under : {key text cipher : List ℕ} → Parcel instance key station last text cipher → Under instance key (nonce_of station (last + 1)) text cipher
  unfolding sealed_under
  parcel-under {key} {text} {cipher} h =
      record {
        key_long = parcel_key instance key station last text h.out stations counters h.built h.parcel h.promise h.well h.rest;
        nonce_long = nonce_long_lem station (last + 1);
        is =
            h.heard ∙ parcel-cipher instance key station last text h.out stations counters h.built h.parcel h.promise h.well h.rest
            ∙ isap_cipher instance isap key (nonce_of station (last + 1)) (header_of (next_fields instance station last text)) text;
      }

  module _ {key text cipher text' cipher' : List ℕ} (h : Parcel instance key station last text cipher) (h' : Parcel instance key station last text' cipher') where
    -- a parcel whose text is the ciphertext of another has that one's text for its ciphertext
    pub parcels_twice : text' ≡ cipher → cipher' ≡ text
    parcels_twice = under_twice (parcel-under h) (parcel-under h')

    -- the xor of two parcels' ciphertexts is the xor of their texts; of two lengths, as far as the shorter goes
    pub parcels_common : xors cipher cipher' ≡ xors text text'
    parcels_common = under_common (parcel-under h) (parcel-under h')

    -- a parcel of a text's first k bytes has the first k bytes of that text's ciphertext
    pub parcels_first : (k : ℕ) → text' ≡ take k text → cipher' ≡ take k cipher
    parcels_first = under_first (parcel-under h) (parcel-under h')
