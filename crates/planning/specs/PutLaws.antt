-- Strings put one behind the other are one string put; so a line grows at its end.
-- Assumes nothing.
use Rattle.std.specs.Prelude.{◌≡◌, List, ◌++◌, ℕ, ◌+◌, ◌≤◌, length, take, drop}
use Rattle.std.proofs.Common.{sym, ap, ◌∙◌, subst, arith, length-append, length-take, take_at}
use Rattle.bits.specs.Put.{put_at, put_at_then}
use Rattle.planning.specs.Lines.{Put}

pub put_then : {at j k n n' : ℕ} {v w s t u : List ℕ} → Put at v j s t n → Put n w k t u n' → at + j ≤ length s → Put at (v ++ w) (j + k) s u n'
put_then {at} {j} {k} {n} {n'} {v} {w} {s} {t} {u} p q h =
    record {
      is = q.is ∙ ap (put_at n w) p.is ∙ ap (λ (i : ℕ). put_at i w (put_at at v s)) p.ends ∙ put_at_then at v w s (omega (arith, p.short));
      ends = q.ends ∙ omega (arith, p.ends, length-append v w);
      short = omega (arith, p.short, q.short, length-append v w);
    }

-- the same string said otherwise, and more room
pub put_as : {at j k n : ℕ} {v w s t : List ℕ} → v ≡ w → Put at v j s t n → j ≤ k → Put at w k s t n
put_as {at} {j} {k} {n} {v} {w} {s} {t} e p h =
    subst (λ (u : List ℕ). Put at u k s t n) e (record { is = p.is; ends = p.ends; short = omega (arith, p.short) })

-- put at the start of a buffer that has room, a string is what the buffer then begins with
pub put-start : {k n : ℕ} {v s t : List ℕ} → Put 0 v k s t n → k ≤ length s → (n ≤ length t) × (n ≡ length (take n t)) × (take n t ≡ v)
unfolding put_at
put-start {k} {n} {v} {s} {t} p h =
    let size : length v ≡ n = omega (arith, p.ends) in
    let front : take n t ≡ v = ap (take n) p.is ∙ take_at v (drop (0 + length v) s) n size in
    let long : n ≡ length (take n t) = sym (ap length front ∙ size) in
    (omega (arith, long, length-take n t), long, front)
