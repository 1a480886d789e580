-- `spook::in_words::write_words` meets its contract: a whole block from the words, a short one from their bytes.
-- Assumes nothing.
use Rattle.std.proofs.Common.{ap, arith, drop, length, rules, sym, take, ℕ, ◌*◌, ◌++◌, ◌+◌, ◌∙◌, ◌≡◌, ◌≤◌}
use Rattle.bits.specs.Part.{length_part}
use Rattle.bits.specs.Put.{put_at}
use Rattle.bits.specs.Xors.{xors, length-xors}
use Rattle.bits.specs.Strings.{block}
use Rattle.shadow.specs.OnBytes.{bundle_bytes, bundles_are}
use Rattle.spook.proofs.in_words.write_words.Goals as goal

pub returns-then-at-text : goal.returns-then-at-text
unfolding put_at block
returns-then-at-text c =
    let a = c.args in
    let at = a.i * 32 in
    let x = take 32 (drop at a.text.now) in
    let room : at + 32 ≤ length a.text.now = search rules in
    let long : length (xors (bundle_bytes a.bundles) x) ≡ 32 = length-xors (bundle_bytes a.bundles) x ∙ omega (arith, (bundles_are a.bundles).long, length_part a.text.now at 32 room) in
    c.write_xored.ensures
    ∙ ap (λ (n : ℕ). take at a.out.now ++ (xors (bundle_bytes a.bundles) x ++ drop (at + n) a.out.now)) (sym long)
