-- `rows::go` meets its contract: each kind's row is its part's calls (`Gone`, by kind).
-- Assumes nothing.
use Rattle.std.proofs.Common.{Bool, List, ap, arith, false, length, length-take-le, refl, rules, true, ℕ, ◌*◌, ◌+◌, ◌≡◌, ◌≤◌}
use Rattle.bits.specs.Pick.{pick}
use Rattle.mode.specs.Instances.{params_of}
use Rattle.plan.specs.declared.kinds.Kind.{Kind}
use Rattle.plan.specs.declared.kinds.Kind.TheVariants.{KeyStart, KeyBits, KeyEnd, Texts, MacStart, Assocs, Ciphers, MacKeyStart, MacKeyBits, MacKeyEnd, MacEnd}
use Rattle.plan.specs.KindNumbers.{kind_number}
use Rattle.rows.specs.Gone.{many, CanGo, nonce_bits, session_bits, assoc_blocks, cipher-blocks, text_blocks_lem, nonce_room, session_room, assoc_room, cipher_room, text_room, gone_as}
use Rattle.rows.proofs.go.Goals as goal

-- the ciphertext, whichever it is, has the calls' blocks
cipher-fits : {instance kind call calls : ℕ} {assoc text out : List ℕ} → CanGo instance kind call calls assoc text out → kind ≡ 6 → (sealing : Bool)
    → (call + calls) * (params_of instance).b ≤ length (pick sealing out text)
cipher-fits can is true = omega (arith, cipher_room can is, can.out_long)
cipher-fits can is false = cipher_room can is

-- the kind that is left
text_kind : (k : Kind) → many (kind_number k) ≡ true → (k ≡ KeyBits → ⊥) → (k ≡ MacKeyBits → ⊥) → (k ≡ Assocs → ⊥) → (k ≡ Ciphers → ⊥) → kind_number k ≡ 3
unfolding many
text_kind KeyStart h a b c d = cc
text_kind KeyBits h a b c d = absurd (a refl)
text_kind KeyEnd h a b c d = cc
text_kind Texts h a b c d = refl
text_kind MacStart h a b c d = cc
text_kind Assocs h a b c d = absurd (c refl)
text_kind Ciphers h a b c d = absurd (d refl)
text_kind MacKeyStart h a b c d = cc
text_kind MacKeyBits h a b c d = absurd (b refl)
text_kind MacKeyEnd h a b c d = cc
text_kind MacEnd h a b c d = cc

pub bits-requires : goal.bits-requires
bits-requires c =
    let long : length c.args.nonce ≡ 16 = search rules in
    let room = nonce_room c.requires (ap kind_number c.in-KeyBits.is) in
    (omega (arith, room), room)

pub returns-in-KeyBits : goal.returns-in-KeyBits
returns-in-KeyBits c =
    let a = c.args in
    gone_as a.instance a.call a.calls a.sealing a.nonce a.assoc.now a.text.now a.state a.session a.out.now (ap kind_number c.in-KeyBits.is) c.bits.ensures refl (nonce_bits a.instance a.call a.calls a.sealing a.nonce a.assoc.now a.text.now a.state a.session a.out.now)

pub bits-requires-in-MacKeyBits : goal.bits-requires-in-MacKeyBits
bits-requires-in-MacKeyBits c =
    let long : length c.args.session ≡ 64 = search rules in
    let room = session_room c.requires (ap kind_number c.in-MacKeyBits.is) in
    (omega (arith, room, length-take-le 16 c.args.session (omega arith)), room)

pub returns-in-MacKeyBits : goal.returns-in-MacKeyBits
returns-in-MacKeyBits c =
    let a = c.args in
    gone_as a.instance a.call a.calls a.sealing a.nonce a.assoc.now a.text.now a.state a.session a.out.now (ap kind_number c.in-MacKeyBits.is) c.bits-in-MacKeyBits.ensures refl (session_bits a.instance a.call a.calls a.sealing a.nonce a.assoc.now a.text.now a.state a.session a.out.now)

pub blocks-requires : goal.blocks-requires
blocks-requires c =
    let can = c.requires in
    assoc_room can (ap kind_number c.in-Assocs.is)

pub returns-in-Assocs : goal.returns-in-Assocs
returns-in-Assocs c =
    let a = c.args in
    let is = ap kind_number c.in-Assocs.is in
    gone_as a.instance a.call a.calls a.sealing a.nonce a.assoc.now a.text.now a.state a.session a.out.now is c.blocks-in-Assocs.ensures refl (assoc_blocks a.instance a.call a.calls a.sealing a.nonce a.assoc.now a.text.now a.state a.session a.out.now (assoc_room c.requires is))

pub ciphers-requires : goal.ciphers-requires
ciphers-requires c =
    let can = c.requires in
    (cipher_room can (ap kind_number c.in-Ciphers.is), can.out_long)

pub returns-in-Ciphers : goal.returns-in-Ciphers
returns-in-Ciphers c =
    let a = c.args in
    let can = c.requires in
    let is = ap kind_number c.in-Ciphers.is in
    gone_as a.instance a.call a.calls a.sealing a.nonce a.assoc.now a.text.now a.state a.session a.out.now is c.ciphers.ensures refl
    (cipher-blocks a.instance a.call a.calls a.sealing a.nonce a.assoc.now a.text.now a.state a.session a.out.now can.not_first _ refl (cipher-fits can is a.sealing))

pub texts-requires : goal.texts-requires
texts-requires c =
    let a = c.args in
    let can = c.requires in
    let n = c.in_default in
    let is = text_kind a.kind can.is_many n.not-KeyBits n.not-MacKeyBits n.not-Assocs n.not-Ciphers in
    (text_room can is, can.out_long)

pub returns-in_default : goal.returns-in_default
returns-in_default c =
    let a = c.args in
    let can = c.requires in
    let n = c.in_default in
    let is = text_kind a.kind can.is_many n.not-KeyBits n.not-MacKeyBits n.not-Assocs n.not-Ciphers in
    gone_as a.instance a.call a.calls a.sealing a.nonce a.assoc.now a.text.now a.state a.session a.out.now is c.texts.ensures.0 c.texts.ensures.1 (text_blocks_lem a.instance a.call a.calls a.sealing a.nonce a.assoc.now a.text.now a.state a.session a.out.now can.not_first)
