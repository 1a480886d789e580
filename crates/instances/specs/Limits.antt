-- The limits, each once: document 01's for associated data, document 02's, request (vi), for text; and the largest counts within them.
-- Assumes nothing.
use Rattle.std.specs.Prelude.{◌≡◌, refl, Bool, true, false, ℕ, zero, suc, ◌+◌, ◌/◌, ◌≤◌}
use Rattle.std.proofs.Common.{arith}
use Rattle.scheme.specs.Scheme.{all_count}
use Rattle.mode.specs.Paper.{blocks}
use Rattle.mode.specs.InstanceLaws.{by_instance}
use Rattle.mode.specs.Instances.{isap_a128a, isap_a128, isap_k128a, isap_k128, params_of}
use Rattle.mode.proofs.CountLaws.{all_count_lem}
use Rattle.mode.specs.Counts.{rekey_rounds, verify_rounds, encrypt_rounds, front_count, back_count}
use Rattle.mode.specs.Isap.{isap_scheme}
use Rattle.s1p.specs.Paper as paper
use Rattle.s1p.specs.Parts.{unless_empty}
use Rattle.s1p.specs.Counts as s1p
use Rattle.s1p.specs.Scheme.{s1p_scheme}
use Rattle.instances.specs.Schemes.{is_spook, scheme_of, by_scheme}

-- bytes of associated data and of text
abbrev pub most_assoc : ℕ
most_assoc = 256

abbrev pub most_text : ℕ
most_text = 1048576

-- the rounds of the longest verification, and of the longest job
abbrev pub most_verify : ℕ
most_verify = 1574844

abbrev pub most_rounds : ℕ
most_rounds = 3149256

-- the calls of the longest part: no block has fewer than 8 bytes
abbrev pub most_calls : ℕ
most_calls = most_text / 8 + 1

-- ---- they are the largest: within the limits no job takes more, and one takes as many

pub verify_most : (i a m : ℕ) → a ≤ most_assoc → m ≤ most_text → verify_rounds (params_of i) a m ≤ most_verify
unfolding verify_rounds rekey_rounds isap_a128a isap_a128 isap_k128a isap_k128
verify_most i a m ha hm =
    by_instance (λ p. verify_rounds p a m ≤ most_verify) (omega arith) (omega arith) (omega arith) (omega arith) i

pub both_most : (i a m : ℕ) → a ≤ most_assoc → m ≤ most_text → encrypt_rounds (params_of i) m + verify_rounds (params_of i) a m ≤ most_rounds
unfolding encrypt_rounds rekey_rounds blocks isap_a128a isap_a128 isap_k128a isap_k128
both_most i a m ha hm =
    let v = verify_most i a m ha hm in
    let e : encrypt_rounds (params_of i) m + most_verify ≤ most_rounds =
    by_instance (λ p. encrypt_rounds p m + most_verify ≤ most_rounds) (omega arith) (omega arith) (omega arith) (omega arith) i in
    omega (arith, v, e)

pub blocks_most : (i m : ℕ) → m ≤ most_text → blocks (params_of i) m ≤ most_text / 8
unfolding blocks isap_a128a isap_a128 isap_k128a isap_k128
blocks_most i m hm = by_instance (λ p. blocks p m ≤ most_text / 8) (omega arith) (omega arith) (omega arith) (omega arith) i

pub spook_most : (b : Bool) (a m : ℕ) → a ≤ most_assoc → m ≤ most_text → s1p.verify_rounds a m + s1p.back_count b a m ≤ most_verify
unfolding s1p.verify_rounds s1p.back_count s1p.second_rounds paper.blocks unless_empty
spook_most true a m ha hm = omega arith
spook_most false a zero ha hm = omega arith
spook_most false a (suc m) ha hm = omega arith

pub verification_most : (i a m : ℕ) → a ≤ most_assoc → m ≤ most_text → (scheme_of i).front_count false a m ≤ most_verify
unfolding s1p_scheme isap_scheme front_count
verification_most i a m ha hm =
    by_scheme (λ s. s.front_count false a m ≤ most_verify) (omega (arith, spook_most true a m ha hm)) (λ j. verify_most j a m ha hm) i

pub total_most : (i : ℕ) (b : Bool) (a m : ℕ) → a ≤ most_assoc → m ≤ most_text → all_count (scheme_of i) b a m ≤ most_rounds
unfolding all_count s1p_scheme isap_scheme
total_most i b a m ha hm =
    by_scheme (λ s. all_count s b a m ≤ most_rounds) (omega (arith, spook_most b a m ha hm))
    (λ j. omega (arith, all_count_lem (params_of j) b a m, both_most j a m ha hm)) i

pub largest : ((scheme_of 2).front_count false most_assoc most_text ≡ most_verify) × (all_count (scheme_of 2) true most_assoc most_text ≡ most_rounds)
unfolding all_count scheme_of is_spook isap_scheme front_count back_count verify_rounds encrypt_rounds rekey_rounds blocks params_of isap_a128
largest = (refl, refl)
