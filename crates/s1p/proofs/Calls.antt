-- What stands below the rows' ends: blocks put into an output, a call's rounds, text that is not due, and what is done with the first call alone.
-- Assumes nothing.
use Rattle.std.specs.Prelude.{◌≡◌, refl, Bool, true, false, List, [], ◌∷◌, ◌++◌, ℕ, zero, suc, ◌+◌, ◌-◌, ◌*◌, ◌≤◌, ◌<◌, min, length, take, drop}
use Rattle.std.proofs.Common.{sym, ap, ◌∙◌, append-nil, arith, ne_eqb, drop_of_length-le, length-take-le, take_at, drop_at, take_all}
use Rattle.std.proofs.Math.Decide.{dec_lt}
use Rattle.bits.specs.Pick.{pick}
use Rattle.bits.specs.Run.{turns}
use Rattle.bits.specs.Put.{put_at, put_at_then, put_at_none}
use Rattle.bits.specs.Xors.{xors}
use Rattle.stopping.specs.Stopped.{whole}
use Rattle.stopping.specs.Rows.{run, run-append}
use Rattle.stopping.specs.Parts.{Part, call_of, part_row, row}
use Rattle.bits.specs.Strings.{block}
use Rattle.scheme.specs.Machine.{Machine, Input, on_state, first}
use Rattle.scheme.specs.Blind.{first-exact}
use Rattle.s1p.specs.Cipher.{Cipher}
use Rattle.s1p.specs.Paper.{blocks, text_mark, marked}
use Rattle.s1p.specs.Parts.{part, written, due}
use Rattle.s1p.proofs.Layouts.{length-text_mark}
use Rattle.s1p.proofs.Laws.{xors-mark}

-- ---- strings

pub empty : (y : List ℕ) → length y ≡ 0 → y ≡ []
empty [] h = refl
empty (a ∷ y) h = absurd (omega arith)

-- what was put at block i of a buffer is its block i
pub block-put_at : (i : ℕ) (c o : List ℕ) → i * 32 ≤ length o → length c ≡ min 32 (length o - i * 32) → block 32 i (put_at (i * 32) c o) ≡ c
unfolding block put_at
block-put_at i c o h e =
    let r = drop (i * 32 + length c) o in
    ap (take 32) (drop_at (take (i * 32) o) (c ++ r) (i * 32) (length-take-le (i * 32) o h))
    ∙ elim (dec_lt (length c) 32) [
      | yes y ↦
          ap (λ (u : List ℕ). take 32 (c ++ u)) (drop_of_length-le o {i = i * 32 + length c} (omega arith))
          ∙ ap (take 32) (append-nil c) ∙ take_all 32 c (omega arith)
      | no f ↦ take_at c r 32 (omega arith)
    ]

-- block i of a text of m bytes, then those after it, of which there are none if it is short
pub put_both : (i m : ℕ) (c ys o : List ℕ) → length o ≡ m → i * 32 ≤ m → length c ≡ min 32 (m - i * 32) → (m < suc i * 32 → ys ≡ [])
    → put_at (suc i * 32) ys (put_at (i * 32) c o) ≡ put_at (i * 32) (c ++ ys) o
put_both i m c ys o e b h k =
    elim (dec_lt m (suc i * 32)) [
      | yes y ↦
          ap (λ (u : List ℕ). put_at (suc i * 32) u (put_at (i * 32) c o)) (k y) ∙ put_at_none (suc i * 32) (put_at (i * 32) c o)
          ∙ ap (λ (u : List ℕ). put_at (i * 32) u o) (sym (append-nil c)) ∙ ap (λ (u : List ℕ). put_at (i * 32) (c ++ u) o) (sym (k y))
      | no f ↦
          let j : suc i * 32 ≡ i * 32 + length c = omega arith in
          ap (λ (n : ℕ). put_at n ys (put_at (i * 32) c o)) j ∙ put_at_then (i * 32) c ys o (omega arith)
    ]

-- ---- a call's rounds

pub turns_on : (t : List ℕ → ℕ → List ℕ → List ℕ) (k : ℕ) (m : Machine)
    → turns (λ (i : ℕ) (m : Machine). on_state (t m.session i) m) k m ≡ on_state (turns (t m.session) k) m
unfolding turns
turns_on t zero m = refl
turns_on t (suc k) m = ap (λ (n : Machine). on_state (t n.session k) n) (turns_on t k m)

pub whole_is : (count : ℕ) (t : List ℕ → ℕ → List ℕ → List ℕ) (enter leave : ℕ → Machine → Machine) (i : ℕ) (m : Machine)
    → whole (call_of (part count t enter leave) i) m ≡ leave i (on_state (turns (t (enter i m).session) 12) (enter i m))
unfolding whole call_of
whole_is count t enter leave i m = ap (leave i) (turns_on t 12 (enter i m))

-- before the last block of the data no text is due
pub not_due : (p : Cipher) (x : Input) (w : Bool) (j : ℕ) (m : Machine) → j < blocks (length x.assoc) → due p x w j m ≡ m
unfolding due
not_due p x w j m h =
    let u = blocks (length x.assoc) in
    ap (λ (b : Bool). pick w (pick b (written p x 0 m) m) m) (ne_eqb j u (λ e. omega arith)) ∙ go w
  where
    go : (w : Bool) → pick w (pick false (written p x 0 m) m) m ≡ m
    go true = refl
    go false = refl

-- ---- rows

-- a part, and then the others
pub and_then : (c : Part Machine) (cs : List (Part Machine)) (m : Machine) {m' m'' : Machine}
    → run (part_row c) m ≡ m' → run (row cs) m' ≡ m'' → run (row (c ∷ cs)) m ≡ m''
unfolding row
and_then c cs m e f = run-append (part_row c) (row cs) m ∙ ap (run (row cs)) e ∙ f

pub done : (m : Machine) → run (row []) m ≡ m
unfolding run row
done m = refl

-- what is done before the first of the blocks, if there is one
pub first_none : (i : ℕ) (s : List ℕ) → first i (marked []) s ≡ s
unfolding marked
first_none zero s = refl
first_none (suc i) s = refl

pub first_some : (i : ℕ) (m : List ℕ) (ms : List (List ℕ)) (s : List ℕ) → first i (marked (m ∷ ms)) s ≡ first i text_mark s
unfolding marked
first_some zero m ms s = refl
first_some (suc i) m ms s = refl

pub length-first-mark : (i : ℕ) (s : List ℕ) → length (first i text_mark s) ≡ length s
length-first-mark i s = first-exact i text_mark s (length-text_mark s)

pub xors-first-mark : (i : ℕ) (s m : List ℕ) → length m ≤ 32 → xors (first i text_mark s) m ≡ xors s m
xors-first-mark zero s m h = xors-mark s m h
xors-first-mark (suc i) s m h = refl
