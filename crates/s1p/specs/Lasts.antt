-- The tag on which it hangs how many rounds an opening lasts. How many they are is shown in proofs/ (`Lasts`).
-- Assumes nothing.
use Rattle.std.specs.Prelude.{List, ℕ}
use Rattle.std.proofs.Math.Bool.{false}
use Rattle.scheme.specs.Machine.{Input}
use Rattle.s1p.specs.Cipher.{Cipher}
use Rattle.s1p.specs.Paper.{last_state, tag_of}

-- the tag to which a received one is compared, in effect
unfoldable pub right_tag : Cipher → Input → List ℕ
right_tag p x = tag_of p x.key (last_state p false x.key x.nonce x.assoc x.text)
