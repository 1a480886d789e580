-- `parcel::reader::fields_in` meets its contract: a byte, and three numbers of the library's byte order.
-- Assumes nothing.
use Rattle.std.proofs.Common.{[], ap, arith, drop, sym, take, w16, w64, ℕ, ◌∙◌, ◌∷◌, ◌≡◌}
use Rattle.std.specs.Int.{from_be_bytes}
use Rattle.std.proofs.lemmas.Result.{MatchResult-at_ok}
use Rattle.bits.specs.BigEndian.{from_be}
use Rattle.bits.specs.Library.{from_be_bytes_lem}
use Rattle.bits.specs.Part.{part-elems, length_part}
use Rattle.parcel.specs.Reading.{fields_in}
use Rattle.parcel.proofs.reader.fields_in.Goals as goal

one_byte : (b : ℕ) → b ≡ from_be (b ∷ [])
unfolding from_be
one_byte b = omega arith

pub returns : goal.returns
unfolding fields_in
returns c =
    let p = c.args.parcel.now in
    let station = MatchResult-at_ok _ _ _ c.unwrap.ensures c.try_into.ensures.1 in
    let counter = MatchResult-at_ok _ _ _ c.unwrap-2.ensures c.try_into-2.ensures.1 in
    let text = MatchResult-at_ok _ _ _ c.unwrap-3.ensures c.try_into-3.ensures.1 in
    let e0 = c.from.ensures ∙ one_byte _ ∙ ap from_be (sym (part-elems p 2 0 (omega arith))) in
    let e1 = c.from_be_bytes.ensures ∙ ap (from_be_bytes w16) station.same ∙ from_be_bytes_lem w16 (take 2 (drop 3 p)) (length_part p 3 2 (omega arith)) in
    let e2 = c.from_be_bytes-2.ensures ∙ ap (from_be_bytes w64) counter.same ∙ from_be_bytes_lem w64 (take 8 (drop 5 p)) (length_part p 5 8 (omega arith)) in
    let e3 = c.from-2.ensures ∙ c.from_be_bytes-3.ensures ∙ ap (from_be_bytes w16) text.same ∙ from_be_bytes_lem w16 (take 2 (drop 13 p)) (length_part p 13 2 (omega arith)) in
    λ i. record { instance = e0 i; station = e1 i; counter = e2 i; text = e3 i }
