use Rattle.std.proofs.Common.{rules, arith, ◌≡◌, ℕ, List, [], ◌∷◌, ◌++◌, ◌+◌, ◌%◌, ◌<◌, suc, length, ap, ap₂, ◌∙◌}
use Rattle.std.proofs.lemmas.List.{take_more_set}
use Rattle.case_file.specs.Filling.{stirred, steps, lowest_bytes}
use Rattle.case_file.proofs.filling.Sequence.fill.Goals as goal

next_step : (n x : ℕ) → stirred (steps n x) ≡ steps (n + 1) x
unfolding steps
next_step n x = let more : suc n ≡ n + 1 = omega arith in ap (λ m. steps m x) more

next_byte : (n x : ℕ) → lowest_bytes n x ++ steps (n + 1) x % 256 ∷ [] ≡ lowest_bytes (n + 1) x
unfolding lowest_bytes
next_byte n x =
    let more : suc n ≡ n + 1 = omega arith in
    ap (λ m. lowest_bytes n x ++ steps m x % 256 ∷ []) (omega arith) ∙ ap (λ m. lowest_bytes m x) more

pub loop-b-init : goal.loop-b-init
unfolding steps lowest_bytes
loop-b-init c = search rules

pub loop-b-preserved : goal.loop-b-preserved
loop-b-preserved c =
    let l = c.loop-b in
    let x = c.args.self.now.state in
    let stepped : c.stirred-self.result ≡ steps (l.b-index + 1) x = c.stirred-self.ensures ∙ ap stirred l.invariant.0 ∙ next_step l.b-index x in
    let inside : l.b-index < length l.s = omega arith in (
      stepped,
      search rules,
      take_more_set l.s l.b-index _ inside
          ∙ ap₂ (λ (s : List ℕ) (n : ℕ). s ++ n % 256 ∷ []) l.invariant.2 stepped ∙ next_byte l.b-index x,
    )
