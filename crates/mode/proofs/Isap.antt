-- ISAP as a scheme: what mode shows of it, law by law.
-- Assumes nothing.
use Rattle.std.proofs.Math.Path.{◌≡◌, refl, sym, ap, ap₂, subst}
use Rattle.std.proofs.Common.{◌∙◌, arith}
use Rattle.std.specs.Prelude.{Bool, length}
use Rattle.std.proofs.Math.Bool.{true, false}
use mathlib.Core.List.{List, []}
use Prim.Native.Nat.{ℕ, ◌+◌}
use Rattle.bits.specs.Pick.{pick}
use Rattle.stopping.specs.Course.{accepted, halted}
use Rattle.stopping.specs.Kept.{KeepsParts, keeps-parts}
use Rattle.stopping.specs.Halts.{halted-accepted}
use Rattle.scheme.specs.Machine.{Machine, Input, Sealed, Opened, Opened.plaintext, Opened.refused}
use Rattle.scheme.specs.Scheme.{all_shapes, parts_of}
use Rattle.scheme.specs.Lawful as schemes
use Rattle.scheme.specs.Lawful.{Keyed, finished, KeepsCourse, LawfulScheme}
use Rattle.bits.specs.Strings.{same}
use Rattle.bits.specs.StringLaws.{length_put_block, same_true}
use Rattle.mode.specs.Params.{Params, LawfulParams}
use Rattle.mode.specs.Paper.{isap_enc, isap_mac, seal, unseal}
use Rattle.mode.specs.PaperLaws.{enc_length, enc_twice, length_mac, open_sealed_lem}
use Rattle.mode.specs.Parts.{part, key_start, key_bits, key_end, written, texts, enc_parts, mac_parts, sealing_course, opening_course, course}
use Rattle.mode.proofs.Touches.{mac_keeps}
use Rattle.mode.proofs.CountLaws.{shapes-front, shapes-back, front-count, back_count_lem, front_some, back_some_lem, front_pos, front-rounds, back-rounds, lawful, all_count_lem}
use Rattle.mode.specs.Counts.{verify_rounds, encrypt_rounds, enc_shapes, mac_shapes, front_shapes, back_shapes}
use Rattle.mode.specs.Theorems.{Ready}
use Rattle.mode.proofs.Theorems.{sealing_accepted, sealing_out, sealing_tag, opening_out, opening_is_paper}
use Rattle.mode.proofs.Kept.{course_kept}
use Rattle.mode.proofs.Beyond.{course-blind}
use Rattle.mode.specs.Isap.{isap_scheme}

-- ---- the output keeps its length

module _ (p : Params) (x : Input) where
  abbrev Kept : List ℕ → Type 0
  Kept o = length o ≡ length x.text

  abbrev Long : Machine → Type 0
  Long k = Kept k.out

  enc_long : KeepsParts Long (enc_parts p x)
  unfolding KeepsParts key_start key_bits key_end texts part written
  enc_long = (
    record { enter = λ i k e. e; turn = λ i k e. e; leave = λ i k e. e },
    (
      record { enter = λ i k e. e; turn = λ i k e. e; leave = λ i k e. e },
      (
        record { enter = λ i k e. e; turn = λ i k e. e; leave = λ i k e. e },
        (record { enter = λ i k e. e; turn = λ i k e. e; leave = λ i k e. length_put_block p.b i k.state x.text k.out e }, tt),
      ),
    ),
  )

  course_long : KeepsCourse Long (course p x)
  unfolding course sealing_course opening_course KeepsParts
  course_long = go x.sealing
    where
      go : (b : Bool) → KeepsCourse Long (pick b (sealing_course p x) (opening_course p x))
      go true = record { front = keeps-parts Long (enc_parts p x) (mac_parts p x) enc_long (mac_keeps p x Kept); back = tt }
      go false = record { front = mac_keeps p x Kept; back = enc_long }

  opening_untouched : x.sealing ≡ false → (o : List ℕ) → KeepsParts (λ (k : Machine). k.out ≡ o) (course p x).front
  unfolding course opening_course
  opening_untouched d o =
      subst (λ (b : Bool). KeepsParts (λ (k : Machine). k.out ≡ o) (pick b (sealing_course p x) (opening_course p x)).front) (sym d) (mac_keeps p x (λ (u : List ℕ). u ≡ o))

  -- a sealing has nothing to decide
  pub sealing_accepts : x.sealing ≡ true → (m : Machine) → (course p x).accepts m ≡ true
  unfolding course sealing_course
  sealing_accepts d m = ap (λ (b : Bool). (pick b (sealing_course p x) (opening_course p x)).accepts m) d

-- ---- sealing undoes opening

module _ (p : Params) (l : LawfulParams p) (key nonce : List ℕ) (hk : length key ≡ 16) (hn : length nonce ≡ 16) where
  plain_inj : (a b : List ℕ) → plaintext a ≡ plaintext b → a ≡ b
  plain_inj a b e = ap (λ (o : Opened). text_of o) e
    where
      text_of : Opened → List ℕ
      text_of (plaintext t) = t
      text_of refused = []

  pub sealed-back : (a c tag m : List ℕ) → unseal p key nonce a c tag ≡ plaintext m → seal p key nonce a m ≡ record { cipher = c; tag = tag }
  unfolding seal unseal
  sealed-back a c tag m e = go (same tag (isap_mac p key nonce a c)) refl e
    where
      go : (b : Bool) → same tag (isap_mac p key nonce a c) ≡ b → pick b (plaintext (isap_enc p key nonce c)) refused ≡ plaintext m
          → ◌≡◌ {A = Sealed} (record { cipher = isap_enc p key nonce m; tag = isap_mac p key nonce a (isap_enc p key nonce m) }) (record { cipher = c; tag = tag })
      go true q f =
          let back : isap_enc p key nonce m ≡ c = sym (ap (isap_enc p key nonce) (plain_inj (isap_enc p key nonce c) m f)) ∙ enc_twice p l key nonce hk hn c in
          ap₂ (λ (u v : List ℕ). record { cipher = u; tag = v }) back
          (ap (isap_mac p key nonce a) back ∙ sym (same_true tag (isap_mac p key nonce a c) q))
      go false q f = absurd (no_text f)
        where
          kind : Opened → ℕ
          kind (plaintext t) = 1
          kind refused = 0

          no_text : refused ≡ plaintext m → ⊥
          no_text g = omega (arith, ap kind g)

-- ---- eleven parts

parts_fixed : (p : Params) (b : Bool) (a m : ℕ) → length (all_shapes (isap_scheme p) b a m) ≡ parts_of (isap_scheme p) b
unfolding isap_scheme all_shapes parts_of front_shapes back_shapes enc_shapes mac_shapes
parts_fixed p true a m = refl
parts_fixed p false a m = refl

-- ---- the laws

module _ (p : Params) (l : LawfulParams p) where
  ready_of : (x : Input) (m : Machine) → schemes.Ready (isap_scheme p) x m → Ready p x m
  unfolding isap_scheme
  ready_of x m r = record { state = r.state; session = r.session; out = r.out }

  module _ (x : Input) (h : Keyed (isap_scheme p) x) (m : Machine) (r : Ready p x m) where
    abbrev all : ℕ
    all = encrypt_rounds p (length x.text) + verify_rounds p (length x.assoc) (length x.text)

    -- the end of the course is where it is halted after all of its rounds
    at_last : accepted (course p x) m ≡ true → finished (course p x) m ≡ halted (course p x) all m
    at_last e =
        sym (halted-accepted (course p x) (lawful p l x) m e all
        (omega (arith, front-rounds p x, back-rounds p x, all_count_lem p x.sealing (length x.assoc) (length x.text))))

    sealed_is : x.sealing ≡ true → ((finished (course p x) m).out ≡ (seal p x.key x.nonce x.assoc x.text).cipher)
        × ((finished (course p x) m).tag ≡ (seal p x.key x.nonce x.assoc x.text).tag)
    unfolding isap_scheme
    sealed_is d =
        let e = at_last (sealing_accepted p l x h.key h.nonce m r d) in (
          ap Machine.out e ∙ sealing_out p l x h.key h.nonce m r d all (omega arith),
          ap Machine.tag e ∙ sealing_tag p l x h.key h.nonce m r d all (omega arith),
        )

    -- accepted, the algorithm's plaintext is what the end leaves
    opened_is : x.sealing ≡ false
        → unseal p x.key x.nonce x.assoc x.text m.tag ≡ pick (accepted (course p x) m) (plaintext (finished (course p x) m).out) refused
    unfolding isap_scheme
    opened_is d = opening_is_paper p l x h.key h.nonce m r d ∙ go (accepted (course p x) m) refl
      where
        go : (b : Bool) → accepted (course p x) m ≡ b
            → pick b (plaintext (isap_enc p x.key x.nonce x.text)) refused ≡ pick b (plaintext (finished (course p x) m).out) refused
        go true e = ap plaintext (sym (ap Machine.out (at_last e) ∙ opening_out p l x h.key h.nonce m r d e all (omega arith)))
        go false e = refl

  pub lawful_isap : LawfulScheme (isap_scheme p)
  unfolding isap_scheme
  lawful_isap =
      record {
        shapes_front = shapes-front p;
        shapes_back = shapes-back p;
        count_front = front-count p;
        count_back = back_count_lem p;
        some_front = front_some p l;
        some_back = back_some_lem p l;
        fixed = parts_fixed p;
        decides = front_pos p l;
        accepts = sealing_accepts p;
        long = course_long p;
        sound = λ x g ls lss hs hss. course_kept p l x (record { key = g.key; nonce = g.nonce; assoc = g.assoc; text = g.text }) ls lss hs hss;
        untouched = opening_untouched p;
        blind = λ x h. course-blind p l x h.key h.nonce;
        sealed = λ x h d m r. sealed_is x h m (ready_of x m r) d;
        opened = λ x h d m r g. opened_is x (record { key = h.key.long; nonce = h.nonce.long }) m (ready_of x m r) d;
        cipher_long = λ key nonce a m hk hn. unfold seal in enc_length p l key nonce hk hn m;
        tag_long = λ key nonce a m hk hn. unfold seal in length_mac p l key nonce a (isap_enc p key nonce m) hk hn;
        open_sealed = λ key nonce a m hk hn ha hm. open_sealed_lem p l key nonce hk.long hn.long a m;
        sealed_back = λ key nonce a c tag m hk hn ha hc ht e. sealed-back p l key nonce hk.long hn.long a c tag m e;
      }
