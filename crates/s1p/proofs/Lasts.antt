-- How many rounds a job lasts, in request (iv)'s words: a sealing 24 + 12 (1 + u + v); an opening as many if the received tag is wrong or the
-- text is empty, and 12 + 12 (u + v) more if the tag is the paper's and there is a text.
-- Assumes nothing.
use Rattle.std.specs.Prelude.{◌≡◌, refl, Bool, ◌↔◌, List, ℕ, ◌+◌, ◌*◌, ◌<◌, length}
use Rattle.std.proofs.Common.{sym, ap₂, ◌∙◌}
use Rattle.std.proofs.Math.Path.{ap}
use Rattle.std.proofs.Math.Bool.{true, false}
use Rattle.std.proofs.Math.Decide.{dec_lt}
use native.Mathlib.Omega.{arith}
use Rattle.bits.specs.Strings.{same}
use Rattle.bits.specs.StringLaws.{same_refl, same_true}
use Rattle.stopping.specs.Course.{accepted, lasts}
use Rattle.stopping.specs.Halts.{lasts-accepted, lasts_refused}
use Rattle.scheme.specs.Machine.{Machine, Input, Buffer}
use Rattle.scheme.specs.Lawful.{Given, Ready}
use Rattle.s1p.specs.Cipher.{Cipher, LawfulCipher, decrypt}
use Rattle.s1p.specs.Paper.{blocks, text_out, last_state, required, closing_tweak, tag_of, seal, agrees}
use Rattle.s1p.specs.Parts.{course}
use Rattle.s1p.specs.Counts.{verify_rounds, second_rounds, unless_none, unless_some, back_count}
use Rattle.s1p.proofs.Counts.{front-rounds, back-rounds, lawful}
use Rattle.s1p.specs.Scheme.{s1p_scheme}
use Rattle.s1p.proofs.Evenly.{last_state_kept, state_back}
use Rattle.s1p.proofs.Theorems.{agrees_if, agrees_only_if, sealing_accepted, opening_accepts}
use Rattle.s1p.specs.Lasts.{right_tag}

-- Algorithm 3 gives it to the text that Algorithm 4 reads
pub right_tag_is : (p : Cipher) → LawfulCipher p → (x : Input) → length x.nonce ≡ 16
    → right_tag p x ≡ (seal p x.key x.nonce x.assoc (text_out p false x.key x.nonce x.assoc x.text)).tag
unfolding right_tag seal
right_tag_is p l x hn = ap (tag_of p x.key) (sym (state_back p l x.key x.nonce x.assoc hn false x.text))

-- in request (iv)'s words: the inverse of a tag gives the required value exactly when the tag is that one
pub inverse_right : (p : Cipher) → LawfulCipher p → (x : Input) → Given (s1p_scheme p) x → (tag : List ℕ) → Buffer 16 tag
    → let s = last_state p false x.key x.nonce x.assoc x.text in
    (decrypt p x.key (closing_tweak s) tag ≡ required s) ↔ (tag ≡ right_tag p x)
unfolding right_tag agrees s1p_scheme
inverse_right p l x g tag hg =
    let s = last_state p false x.key x.nonce x.assoc x.text in
    let kept = last_state_kept p l x.key x.nonce x.assoc g.nonce.long g.nonce.bytes g.assoc false x.text g.text in
    let inverse = decrypt p x.key (closing_tweak s) tag in (
      λ e. agrees_only_if p l x.key s g.key kept tag hg (ap (λ (w : List ℕ). same w (required s)) e ∙ same_refl (required s)),
      λ e. same_true inverse (required s) (agrees_if p l x.key s g.key kept tag hg e),
    )

-- the second walk, in numbers
pub second_none : (a m : ℕ) → m ≡ 0 → second_rounds a m ≡ 0
unfolding second_rounds
second_none a m e = unless_none m _ e

pub second_some : (a m : ℕ) → 0 < m → second_rounds a m ≡ 12 + 12 * (blocks a + blocks m)
unfolding second_rounds
second_some a m h = unless_some m _ h

-- how long a job lasts that accepts
accepted-lasts : (p : Cipher) (x : Input) (m : Machine) → accepted (course p x) m ≡ true → (b : Bool) → x.sealing ≡ b
    → lasts (course p x) m ≡ verify_rounds (length x.assoc) (length x.text) + back_count b (length x.assoc) (length x.text)
accepted-lasts p x m e b d =
    lasts-accepted (course p x) (lawful p x) m e
    ∙ ap₂ (λ (i k : ℕ). i + k) (front-rounds p x) (back-rounds p x ∙ ap (λ (b : Bool). back_count b (length x.assoc) (length x.text)) d)

-- rounds behind the decision are an opening's that accepts, of a text
pub goes_on : (p : Cipher) (x : Input) (m : Machine) → verify_rounds (length x.assoc) (length x.text) < lasts (course p x) m
    → (x.sealing ≡ false) × (accepted (course p x) m ≡ true) × (0 < length x.text)
unfolding back_count
goes_on p x m h = go (accepted (course p x) m) refl x.sealing refl
  where
    go : (ok : Bool) → accepted (course p x) m ≡ ok → (b : Bool) → x.sealing ≡ b
        → (x.sealing ≡ false) × (accepted (course p x) m ≡ true) × (0 < length x.text)
    go false e b d = absurd (omega (arith, lasts_refused (course p x) (lawful p x) m e, front-rounds p x))
    go true e true d = absurd (omega (arith, accepted-lasts p x m e true d))
    go true e false d =
        elim (dec_lt 0 (length x.text)) [
          | yes some ↦ (d, e, some)
          | no none ↦ absurd (omega (arith, accepted-lasts p x m e false d, second_none (length x.assoc) (length x.text) (omega arith)))
        ]

module _ (p : Cipher) (l : LawfulCipher p) (x : Input) (g : Given (s1p_scheme p) x) (m : Machine) (ready : Ready (s1p_scheme p) x m) where
  abbrev a : ℕ
  a = length x.assoc

  abbrev t : ℕ
  t = length x.text

  pub sealing_lasts : x.sealing ≡ true → lasts (course p x) m ≡ 24 + 12 * (1 + blocks (length x.assoc) + blocks (length x.text))
  unfolding back_count verify_rounds
  sealing_lasts d = accepted-lasts p x m (sealing_accepted p l x g.nonce.long m ready d) true d ∙ omega arith

  module _ (d : x.sealing ≡ false) (hg : Buffer 16 m.tag) where
    abbrev last : List ℕ
    last = last_state p false x.key x.nonce x.assoc x.text

    last_kept : Buffer 64 last
    last_kept = last_state_kept p l x.key x.nonce x.assoc g.nonce.long g.nonce.bytes g.assoc false x.text g.text

    key : Buffer 16 x.key
    unfolding s1p_scheme
    key = g.key

    decision : accepted (course p x) m ≡ agrees p x.key last m.tag
    decision = opening_accepts p l x g.nonce.long m ready d hg.long

    -- it accepts exactly when the two tags are equal
    pub accepts_if : m.tag ≡ right_tag p x → accepted (course p x) m ≡ true
    unfolding right_tag
    accepts_if e = decision ∙ agrees_if p l x.key last key last_kept m.tag hg e

    pub accepts_only_if : accepted (course p x) m ≡ true → m.tag ≡ right_tag p x
    unfolding right_tag
    accepts_only_if e = agrees_only_if p l x.key last key last_kept m.tag hg (sym decision ∙ e)

    pub refuses_if : (m.tag ≡ right_tag p x → ⊥) → accepted (course p x) m ≡ false
    refuses_if wrong = go (accepted (course p x) m) refl
      where
        go : (b : Bool) → accepted (course p x) m ≡ b → b ≡ false
        go true e = absurd (wrong (accepts_only_if e))
        go false e = refl

    right_lasts : m.tag ≡ right_tag p x → lasts (course p x) m ≡ verify_rounds a t + second_rounds a t
    unfolding back_count
    right_lasts e = accepted-lasts p x m (accepts_if e) false d

    -- the right tag, of a text
    pub opening_lasts : m.tag ≡ right_tag p x → 0 < length x.text
        → lasts (course p x) m
        ≡ 24 + 12 * (1 + blocks (length x.assoc) + blocks (length x.text)) + (12 + 12 * (blocks (length x.assoc) + blocks (length x.text)))
    unfolding verify_rounds
    opening_lasts e some = right_lasts e ∙ ap (λ (k : ℕ). verify_rounds a t + k) (second_some a t some)

    -- of an empty text it ends at the decision
    pub opening_lasts_empty : m.tag ≡ right_tag p x → length x.text ≡ 0
        → lasts (course p x) m ≡ 24 + 12 * (1 + blocks (length x.assoc) + blocks (length x.text))
    unfolding verify_rounds
    opening_lasts_empty e none = omega (arith, right_lasts e, second_none a t none)

    -- another tag
    pub opening_lasts_wrong : (m.tag ≡ right_tag p x → ⊥)
        → lasts (course p x) m ≡ 24 + 12 * (1 + blocks (length x.assoc) + blocks (length x.text))
    unfolding verify_rounds
    opening_lasts_wrong wrong = lasts_refused (course p x) (lawful p x) m (refuses_if wrong) ∙ front-rounds p x
