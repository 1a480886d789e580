-- `sponge::enter_state` meets its contract: each kind has its case of the definition; a call that is there has its block or its bit.
-- Assumes nothing.
use Rattle.std.proofs.Common.{ap, arith, length, rules, take, ◌≡◌}
use Rattle.plan.specs.KindNumbers.{kind_number}
use Rattle.sponge.specs.Entering.{nonce_bits, assoc_blocks, cipher-blocks, session_bits}
use Rattle.sponge.proofs.enter_state.Goals as goal

pub absorb_bit-requires : goal.absorb_bit-requires
absorb_bit-requires c =
    let long : length c.args.nonce ≡ 16 = search rules in
    omega (arith, nonce_bits c.requires (ap kind_number c.in-KeyBits.is))

pub absorb_block-requires : goal.absorb_block-requires
absorb_block-requires c = assoc_blocks c.requires (ap kind_number c.in-Assocs.is)

pub absorb_cipher-requires : goal.absorb_cipher-requires
absorb_cipher-requires c =
    let can = c.requires in
    (cipher-blocks can (ap kind_number c.in-Ciphers.is), can.out_long)

pub absorb_bit-requires-in-MacKeyBits : goal.absorb_bit-requires-in-MacKeyBits
absorb_bit-requires-in-MacKeyBits c =
    let long : length (take 16 c.args.session) ≡ 16 = search rules in
    omega (arith, session_bits c.requires (ap kind_number c.in-MacKeyBits.is))
