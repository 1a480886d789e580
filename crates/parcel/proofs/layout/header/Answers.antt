-- `parcel::layout::header` meets its contract: the mark, and four numbers put one behind the other.
-- Assumes nothing.
use Rattle.std.proofs.Common.{ap, append-nil, drop, refl, replicate, take, w16, w32, w64, ◌++◌, ◌∙◌}
use Rattle.bits.specs.BigEndian.{be_bytes, length-be_bytes}
use Rattle.bits.specs.Library.{to_be_bytes_lem}
use Rattle.bits.specs.Part.{Written}
use Rattle.parcel.specs.Layout.{mark, header_of}
use Rattle.parcel.proofs.Putting.{put_more}
use Rattle.parcel.proofs.layout.header.Goals as goal

start : Written mark 2 (mark ++ replicate 13 0) (replicate 15 0)
start = record { is = refl; long = refl }

pub returns : goal.returns
unfolding header_of be_bytes
returns c =
    let f = c.args.fields in
    let instance = ap (λ s. take 1 (drop 3 s)) (c.to_be_bytes.ensures ∙ to_be_bytes_lem w32 f.instance) in
    let text = ap (λ s. take 2 (drop 2 s)) (c.to_be_bytes-4.ensures ∙ to_be_bytes_lem w32 f.text) in
    let w1 = put_more start (be_bytes 1 f.instance) 1 (length-be_bytes 1 f.instance) _ instance c.put.ensures in
    let w2 = put_more w1 (be_bytes 2 f.station) 2 (length-be_bytes 2 f.station) _ (c.to_be_bytes-2.ensures ∙ to_be_bytes_lem w16 f.station) c.put-2.ensures in
    let w3 = put_more w2 (be_bytes 8 f.counter) 8 (length-be_bytes 8 f.counter) _ (c.to_be_bytes-3.ensures ∙ to_be_bytes_lem w64 f.counter) c.put-3.ensures in
    let w4 = put_more w3 (be_bytes 2 f.text) 2 (length-be_bytes 2 f.text) _ text c.put-4.ensures in
    w4.is ∙ append-nil (header_of f)
