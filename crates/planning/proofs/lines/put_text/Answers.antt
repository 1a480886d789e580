-- A part of the buffer is replaced by the string.
use Rattle.std.proofs.Common.{◌≡◌, ℕ, ◌+◌, ◌-◌, List, ◌++◌, length, take, drop, ap, ap₂, ◌∙◌, refl, arith, drop-drop}
use Rattle.bits.specs.Put.{put_at}
use Rattle.planning.proofs.lines.put_text.Goals as goal

pub returns : goal.returns
unfolding put_at
returns c =
    let out = c.args.out.now in
    let at = c.args.at in
    let text = c.args.text.now in
    let long : at + length text - at ≡ length text = omega arith in
    record {
      is =
          ap₂ (λ (u : List ℕ) (k : ℕ). take at out ++ (u ++ drop k (drop at out))) c.copy_from_slice.ensures.after long
          ∙ ap (λ (u : List ℕ). take at out ++ (text ++ u)) (drop-drop (length text) at out);
      ends = refl;
      short = omega arith;
    }
