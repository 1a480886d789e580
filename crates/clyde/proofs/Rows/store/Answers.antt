-- `clyde::Rows::store` meets its contract: four rows are written one behind the other (`bits`, `written_more`).
-- Assumes nothing.
use Rattle.std.proofs.Common.{List, ap, drop, drop-drop, length, refl, take, ℕ, ◌++◌, ◌+◌, ◌∙◌, ◌≡◌}
use borrow.Rule.Slice.PartMut.{put_mid}
use Rattle.std.specs.Int.{w32, to_le_bytes}
use Rattle.bits.specs.LittleEndian.{le_bytes, length-le_bytes}
use Rattle.bits.specs.Library.{to_le_bytes_lem}
use Rattle.bits.specs.Part.{written_none, written_more}
use Rattle.clyde.specs.Clyde.{bytes_of}
use Rattle.clyde.proofs.Rows.store.Goals as goal

-- the bytes of a row as they were copied
copied : (x : ℕ) {t v : List ℕ} → t ≡ to_le_bytes w32 x → v ≡ t → v ≡ le_bytes 4 x
copied x e f = f ∙ e ∙ to_le_bytes_lem w32 x

-- a part with v in its place
mid : (at n : ℕ) (v t : List ℕ) → put_mid at n t v ≡ take at t ++ (v ++ drop (at + n) t)
mid at n v t = ap (λ (r : List ℕ). take at t ++ (v ++ r)) (drop-drop n at t)

-- four bytes behind one another, four times
module _ (s b0 b1 b2 b3 : List ℕ) (l0 : length b0 ≡ 4) (l1 : length b1 ≡ 4) (l2 : length b2 ≡ 4) (l3 : length b3 ≡ 4) where
  all : put_mid 12 4 (put_mid 8 4 (put_mid 4 4 (b0 ++ drop 4 s) b1) b2) b3 ≡ b0 ++ b1 ++ b2 ++ b3 ++ drop 16 s
  all =
      let w0 = written_more (written_none s) b0 4 l0 refl in
      let w1 = written_more w0 b1 4 l1 (mid 4 4 b1 _) in
      let w2 = written_more w1 b2 4 l2 (mid 8 4 b2 _) in
      let w3 = written_more w2 b3 4 l3 (mid 12 4 b3 _) in
      w3.is

pub returns : goal.returns
unfolding bytes_of
returns c =
    let s = c.args.s.now in
    let w = c.args.self in
    let v0 = copied w.x0 c.to_le_bytes.ensures c.copy_from_slice.ensures.after in
    let v1 = copied w.x1 c.to_le_bytes-2.ensures c.copy_from_slice-2.ensures.after in
    let v2 = copied w.x2 c.to_le_bytes-3.ensures c.copy_from_slice-3.ensures.after in
    let v3 = copied w.x3 c.to_le_bytes-4.ensures c.copy_from_slice-4.ensures.after in
    (λ i. put_mid 12 4 (put_mid 8 4 (put_mid 4 4 (v0 i ++ drop 4 s) (v1 i)) (v2 i)) (v3 i))
    ∙ all s _ _ _ _ (length-le_bytes 4 w.x0) (length-le_bytes 4 w.x1) (length-le_bytes 4 w.x2) (length-le_bytes 4 w.x3)
