-- ISAP as a scheme. Its laws are shown in proofs/ (`Isap`).
-- Assumes nothing.
use Rattle.scheme.specs.Scheme.{Scheme}
use Rattle.mode.specs.Params.{Params}
use Rattle.mode.specs.Paper.{seal, unseal}
use Rattle.mode.specs.Parts.{course}
use Rattle.mode.specs.Counts.{front_shapes, back_shapes, front_count, back_count}

unfoldable pub isap_scheme : Params → Scheme
isap_scheme p =
    record {
      n = p.n;
      key_bytes = 16;
      course = course p;
      front_shapes = front_shapes p;
      back_shapes = back_shapes p;
      front_count = front_count p;
      back_count = λ b a m. back_count p b m;
      seal = seal p;
      unseal = unseal p;
    }
