-- `parcel::layout::nonce` meets its contract: two numbers put one behind the other, zeros behind them.
-- Assumes nothing.
use Rattle.std.proofs.Common.{replicate, w16, w64, ◌∙◌}
use Rattle.bits.specs.BigEndian.{be_bytes, length-be_bytes}
use Rattle.bits.specs.Library.{to_be_bytes_lem}
use Rattle.bits.specs.Part.{written_none}
use Rattle.parcel.specs.Layout.{nonce_of}
use Rattle.parcel.proofs.Putting.{put_more}
use Rattle.parcel.proofs.layout.nonce.Goals as goal

pub returns : goal.returns
unfolding nonce_of
returns c =
    let a = c.args in
    let w = put_more (written_none (replicate 16 0)) (be_bytes 2 a.station) 2 (length-be_bytes 2 a.station) _ (c.to_be_bytes.ensures ∙ to_be_bytes_lem w16 a.station) c.put.ensures in
    (put_more w (be_bytes 8 a.counter) 8 (length-be_bytes 8 a.counter) _ (c.to_be_bytes-2.ensures ∙ to_be_bytes_lem w64 a.counter) c.put-2.ensures).is
