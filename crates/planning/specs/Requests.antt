-- A request's text length has two bytes and is below the limit: every text length is planned, and refusal 5 cannot come.
-- Assumes nothing.
use Rattle.std.specs.Prelude.{◌≡◌, refl, Bool, true, false, List, ◌++◌, ℕ, ◌≤◌, ◌<◌, leb, get_or}
use Rattle.std.proofs.Common.{ap, arith, le-leb}
use Rattle.bits.specs.Pick.{pick}
use Rattle.scheme.specs.Scheme.{all_count}
use Rattle.instances.specs.Schemes.{known, scheme_of}
use Rattle.instances.specs.Limits.{most_assoc, most_text}
use Rattle.plan.specs.declared.Planned.{Planned}
use Rattle.plan.specs.Planned.{unplanned, plan_of}
use Rattle.planning.specs.Lines.{pair, ended, refused, rest, line, answer}

pub pair-within : (high low : ℕ) → high < 256 → low < 256 → pair high low ≤ most_text
pair-within high low h l = omega arith

-- what stands behind the request's numbers: V and the opening's total, or refusal 1 or 4
unfoldable pub rest_of : (i a m : ℕ) → List ℕ
rest_of i a m =
    pick (known i)
    (pick (leb a most_assoc)
    (ended ((scheme_of i).front_count false a m) 32 ++ ended (all_count (scheme_of i) false a m) 10)
    (refused ++ ended 4 10))
    (refused ++ ended 1 10)

planned_rest : (i a m : ℕ) → m ≤ most_text → rest (plan_of i a m) ≡ rest_of i a m
unfolding plan_of rest rest_of
planned_rest i a m h = rw (le-leb m most_text h) (go (known i) (leb a most_assoc))
  where
    plan : Planned
    plan =
        record {
          number = 0;
          verify = (scheme_of i).front_count false a m;
          sealing = all_count (scheme_of i) true a m;
          total = all_count (scheme_of i) false a m;
        }

    go : (b c : Bool)
        → rest (pick b (pick c plan (unplanned 4)) (unplanned 1))
        ≡ pick b (pick c (ended plan.verify 32 ++ ended plan.total 10) (refused ++ ended 4 10)) (refused ++ ended 1 10)
    go true true = refl
    go true false = refl
    go false c = refl

-- the line for a request's five bytes, whatever they are
pub every-length : (s : List ℕ) → get_or s 3 0 < 256 → get_or s 4 0 < 256
    → answer s
    ≡ ended (get_or s 0 0) 32
    ++ (ended (pair (get_or s 1 0) (get_or s 2 0)) 32
    ++ (ended (pair (get_or s 3 0) (get_or s 4 0)) 32 ++ rest_of (get_or s 0 0) (pair (get_or s 1 0) (get_or s 2 0)) (pair (get_or s 3 0) (get_or s 4 0))))
unfolding answer line
every-length s h l =
    let i = get_or s 0 0 in
    let a = pair (get_or s 1 0) (get_or s 2 0) in
    let m = pair (get_or s 3 0) (get_or s 4 0) in
    ap (λ (t : List ℕ). ended i 32 ++ (ended a 32 ++ (ended m 32 ++ t))) (planned_rest i a m (pair-within (get_or s 3 0) (get_or s 4 0) h l))
