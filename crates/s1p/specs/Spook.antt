-- Spook[128,512,su], recommended parameters: S1P with Clyde-128 and Shadow-512, which make a lawful cipher. That it is a lawful scheme
-- is shown in proofs/ (`Spook`).
-- Assumes nothing.
use Rattle.std.specs.Prelude.{◌≡◌, List, ℕ}
use Rattle.scheme.specs.Machine.{Buffer}
use Rattle.scheme.specs.Scheme.{Scheme}
use Rattle.clyde.specs.Clyde.{clyde_bytes, clyde_bytes_inverse}
use Rattle.clyde.specs.OnBytes.{clyde_turn, clyde_turn_back}
use Rattle.clyde.proofs.OnBytes.{clyde-keeps, clyde-back-keeps}
use Rattle.clyde.proofs.Theorems.{clyde-turns, clyde-turns-back, either_order_turns}
use Rattle.shadow.specs.Shadow.{shadow}
use Rattle.shadow.specs.OnBytes.{bundles_of, bundle_bytes, shadow_turn, shadow-keeps, shadow-turns}
use Rattle.s1p.specs.Cipher.{Cipher, LawfulCipher, encrypt, decrypt, perm}
use Rattle.s1p.specs.Scheme.{s1p_scheme}

unfoldable pub spook : Cipher
spook = record { forward = clyde_turn; backward = clyde_turn_back; round = shadow_turn }

abbrev pub spook_scheme : Scheme
spook_scheme = s1p_scheme spook

-- ---- lawful

pub spook-lawful : LawfulCipher spook
unfolding spook encrypt decrypt
spook-lawful =
    record {
      forward = clyde-keeps;
      backward = clyde-back-keeps;
      round = shadow-keeps;
      undone = λ k t s hk ht hs. (either_order_turns k t s hk ht hs).0;
      undoes = λ k t s hk ht hs. (either_order_turns k t s hk ht hs).1;
    }

-- ---- E is Clyde-128 and E⁻¹ its inverse (Algorithm 1), π is Shadow-512 (Algorithm 2)

module _ (k t s : List ℕ) (hk : Buffer 16 k) (ht : Buffer 16 t) (hs : Buffer 16 s) where
  pub encrypt_is : encrypt spook k t s ≡ clyde_bytes k t s
  unfolding spook encrypt
  encrypt_is = clyde-turns k t s hk ht hs

  pub decrypt_is : decrypt spook k t s ≡ clyde_bytes_inverse k t s
  unfolding spook decrypt
  decrypt_is = clyde-turns-back k t s hk ht hs

pub perm_is : (s : List ℕ) → Buffer 64 s → perm spook s ≡ bundle_bytes (shadow (bundles_of s))
unfolding spook perm
perm_is s h = shadow-turns s h
