-- `spook::in_words::text_row` meets its contract: words and output are those after the calls before call i (`text_more-at`).
-- Assumes nothing.
use Rattle.std.proofs.Common.{length, ◌-◌, ◌≡◌}
use Rattle.shadow.specs.OnBytes.{bundle_bytes}
use Rattle.s1p.specs.Spook.{spook}
use Rattle.spook.specs.Going.{TextGone}
use Rattle.spook.proofs.in_words.text_row.Given as goal

abbrev pub invariant-loop-i : goal.invariant-loop-i
invariant-loop-i l =
    (length l.out ≡ length l.text)
    × TextGone spook l.sealing l.writes l.first (l.i - l.first) l.text l.state l.initial.out (bundle_bytes l.bundles) l.out
