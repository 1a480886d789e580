-- What the last round of a call leaves in the output and as the tag, as the code finds it. A reader may skip these: `left` shows that it
-- is the parts'.
-- Assumes nothing.
use Rattle.std.specs.Prelude.{◌≡◌, Bool, List, ℕ, suc, ◌*◌, ◌%◌, ◌<◌, eqb, length, take}
use Rattle.std.proofs.Math.Path.{refl}
use Rattle.std.proofs.Common.{sym, ap, ap₂, ◌∙◌, mod-lt, lit<}
use Rattle.std.proofs.Math.Bool.{true, false}
use Rattle.bits.specs.Pick.{pick}
use Rattle.bits.specs.Every.{upto_at}
use Rattle.bits.specs.Put.{put_at}
use Rattle.bits.specs.Xors.{xors}
use Rattle.bits.specs.Strings.{block}
use Rattle.stopping.specs.Parts.{Part}
use Rattle.stopping.specs.Places.{part_at}
use Rattle.scheme.specs.Machine.{Machine, machine, given}
use Rattle.scheme.specs.Scheme.{all_shapes}
use Rattle.scheme.specs.Calls.{Leaves}
use Rattle.s1p.specs.Cipher.{Cipher}
use Rattle.s1p.specs.Paper.{blocks}
use Rattle.s1p.specs.Parts.{written, due, next, seed, begin, assocs, texts, tagged, tagging, verifying}
use Rattle.s1p.specs.Scheme.{s1p_scheme}
use Rattle.spook.specs.Kinds.{writes_in, part_of, part_is}

-- block i of the text, xored with the state, at its place; past the last block nothing
abbrev pub block_written : (i : ℕ) → (text state out : List ℕ) → List ℕ
block_written i text s o = put_at (i * 32) (xors s (block 32 i text)) o

-- after `done` blocks of a bytes of data the first text block is due if those are all
abbrev pub first_written : (done a : ℕ) → (text state out : List ℕ) → List ℕ
first_written done a text s o = pick (eqb done (blocks a)) (block_written 0 text s o) o

-- in a walk that writes
unfoldable pub out_written : (a kind call : ℕ) → (text state out : List ℕ) → List ℕ
out_written a kind call text s o =
    pick (eqb kind 1) (first_written 0 a text s o)
    (pick (eqb kind 2) (first_written (suc call) a text s o) (pick (eqb kind 3) (block_written (suc call) text s o) o))

unfoldable pub out_left : (writes : Bool) → (a kind call : ℕ) → (text state out : List ℕ) → List ℕ
out_left writes a kind call text s o = pick writes (out_written a kind call text s o) o

unfoldable pub tag_left : (sealing : Bool) → (kind : ℕ) → (state tag : List ℕ) → List ℕ
tag_left sealing kind s g = pick (eqb kind 4) (pick sealing (take 16 s) g) g

module _ (p : Cipher) (key nonce assoc text : List ℕ) (s ss o g : List ℕ) where
  -- a block, written or not
  pub written-or : (b yes : Bool) (i : ℕ) → pick yes (written p (given b key nonce assoc text) i (machine s ss o g)) (machine s ss o g)
      ≡ machine s ss (pick yes (block_written i text s o) o) g
  unfolding written
  written-or b true i = refl
  written-or b false i = refl

module _ (p : Cipher) (key nonce assoc text : List ℕ) (count call : ℕ) (s ss o g : List ℕ) where
  abbrev Left : (b writes : Bool) → ℕ → Type 0
  Left b writes kind =
      (part_of p (given b key nonce assoc text) writes count kind).leave call (machine s ss o g)
      ≡ machine s ss (out_left writes (length assoc) kind call text s o) (tag_left b kind s g)

  leave_of : (b writes : Bool) (kind : ℕ) → kind < 5 → Left b writes kind
  unfolding part_of part_at seed begin assocs texts tagging verifying due next written tagged out_left out_written tag_left
  leave_of true true kind h =
      upto_at (Left true true) 5
      (((((tt, refl), written-or p key nonce assoc text s ss o g true (eqb 0 (blocks (length assoc))) 0), written-or p key nonce assoc text s ss o g true (eqb (suc call) (blocks (length assoc))) 0), refl), refl) kind h
  leave_of true false kind h = upto_at (Left true false) 5 (((((tt, refl), refl), refl), refl), refl) kind h
  leave_of false true kind h =
      upto_at (Left false true) 5
      (((((tt, refl), written-or p key nonce assoc text s ss o g false (eqb 0 (blocks (length assoc))) 0), written-or p key nonce assoc text s ss o g false (eqb (suc call) (blocks (length assoc))) 0), refl), refl) kind h
  leave_of false false kind h = upto_at (Left false false) 5 (((((tt, refl), refl), refl), refl), refl) kind h

-- an output and a tag found so are those that the call leaves
pub left : (p : Cipher) (sealing : Bool) (part call : ℕ) (assoc text state out tag out' tag' : List ℕ)
    → part < length (all_shapes (s1p_scheme p) sealing (length assoc) (length text))
    → out' ≡ out_left (writes_in sealing part) (length assoc) (part % 5) call text state out → tag' ≡ tag_left sealing (part % 5) state tag
    → Leaves (s1p_scheme p) sealing part call assoc text state out tag out' tag'
unfolding Leaves
left p sealing part call assoc text s o g o' g' h e f key nonce ss =
    ap (λ (q : Part Machine). q.leave call (machine s ss o g)) (part_is p sealing key nonce assoc text part h)
    ∙ leave_of p key nonce assoc text _ call s ss o g sealing (writes_in sealing part) (part % 5) (mod-lt part (lit< tt))
    ∙ ap₂ (λ (u v : List ℕ). machine s ss u v) (sym e) (sym f)
