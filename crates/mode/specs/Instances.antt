-- The four instances (document 001, Table 2.2; document 01, 'The four instances').
-- Assumes nothing.
use Rattle.std.specs.Prelude.{ℕ, eqb}
use Rattle.bits.specs.Pick.{pick}
use Rattle.ascon.specs.Permutation.{ascon_round}
use Rattle.keccak.specs.Fips202.{keccak_round}
use Rattle.mode.specs.Params.{Params}

-- n and b in bytes: Table 2.2 has n = 320 and rH = 64 bits, n = 400 and rH = 144 bits
unfoldable pub isap_a128a : Params
isap_a128a = record { n = 40; b = 8; s_h = 12; s_b = 1; s_e = 6; s_k = 12; most = 12; round = ascon_round }

unfoldable pub isap_a128 : Params
isap_a128 = record { n = 40; b = 8; s_h = 12; s_b = 12; s_e = 12; s_k = 12; most = 12; round = ascon_round }

unfoldable pub isap_k128a : Params
isap_k128a = record { n = 50; b = 18; s_h = 16; s_b = 1; s_e = 8; s_k = 8; most = 20; round = keccak_round }

unfoldable pub isap_k128 : Params
isap_k128 = record { n = 50; b = 18; s_h = 20; s_b = 12; s_e = 12; s_k = 12; most = 20; round = keccak_round }

-- by document 01's numbers
unfoldable pub params_of : ℕ → Params
params_of i = pick (eqb i 1) isap_a128a (pick (eqb i 2) isap_a128 (pick (eqb i 3) isap_k128a isap_k128))
