-- `parcel::building::put_parcel` meets its contract: isap's call, which is not refused, and the pieces put together.
-- Assumes nothing.
use Rattle.std.proofs.Common.{List, ap, ap₂, arith, drop, length, refl, replicate, subst, take, ℕ, ◌++◌, ◌+◌, ◌-◌, ◌∙◌, ◌≡◌}
use Rattle.bits.specs.Part.{length_part}
use Rattle.instances.specs.Schemes.{scheme_of, lawful-scheme}
use Rattle.isap.specs.Statements.{Seals}
use Rattle.parcel.specs.Layout.{nonce_of, parcel_of}
use Rattle.parcel.specs.Lengths.{header_long}
use Rattle.parcel.specs.Fits.{cipher_long_lem, tag_long_lem, sealed-parts}
use Rattle.parcel.proofs.Pieces.{put_together}
use Rattle.parcel.proofs.building.put_parcel.Goals as goal

pub returns : goal.returns
unfolding parcel_of
returns c =
    let a = c.args in
    let can = c.requires in
    let f = a.fields in
    let key = a.key.now in
    let text = a.text.now in
    let o = a.out.now in
    let m = length text in
    let h = c.header-header.result in
    let x = c.seal-sealed.new.out in
    let t = c.seal-sealed.new.tag in
    let same : 15 + m - 15 ≡ m = omega arith in
    let room : length (take (15 + m - 15) (drop 15 o)) ≡ m = ap (λ (k : ℕ). length (take k (drop 15 o))) same ∙ length_part o 15 m (omega (arith, can.out_long)) in
    let parts =
    sealed-parts scheme_of lawful-scheme f key text (length o) can (take (15 + m - 15) (drop 15 o)) (replicate 16 0) room refl c.seal-sealed.result x t
    (subst (λ (w : List ℕ). Seals scheme_of f.instance key (nonce_of f.station f.counter) w text (take (15 + m - 15) (drop 15 o)) (replicate 16 0) c.seal-sealed.result x t) c.header-header.ensures
    (subst (λ (w : List ℕ). Seals scheme_of f.instance key w h text (take (15 + m - 15) (drop 15 o)) (replicate 16 0) c.seal-sealed.result x t) c.nonce-nonce.ensures c.seal-sealed.ensures)) in
    let behind : List ℕ = drop 15 (take 15 o ++ (x ++ drop (15 + m - 15) (drop 15 o))) in
    let whole =
    put_together o h x t m can.out_long (ap length c.header-header.ensures ∙ header_long f) (ap length parts.1 ∙ cipher_long_lem scheme_of lawful-scheme f key text (length o) can)
    (ap length parts.2 ∙ tag_long_lem scheme_of lawful-scheme f key text (length o) can) (c.copy_from_slice.new.self ++ behind) c.copy_from_slice-2.new.self
    (ap (λ (u : List ℕ). u ++ behind) c.copy_from_slice.ensures.after) c.copy_from_slice-2.ensures.after in
    (parts.0, whole ∙ ap₂ (λ (u v : List ℕ). u ++ v) (ap₂ (λ (u v : List ℕ). u ++ v) c.header-header.ensures parts.1) parts.2)
