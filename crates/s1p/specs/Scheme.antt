-- S1P as a scheme.
-- Assumes nothing.
use Rattle.scheme.specs.Scheme.{Scheme}
use Rattle.s1p.specs.Cipher.{Cipher}
use Rattle.s1p.specs.Paper.{seal, unseal}
use Rattle.s1p.specs.Parts.{course}
use Rattle.s1p.specs.Counts.{front_shapes, back_shapes, verify_rounds, back_count}

unfoldable pub s1p_scheme : Cipher → Scheme
s1p_scheme p =
    record {
      n = 64;
      key_bytes = 16;
      course = course p;
      front_shapes = λ b. front_shapes;
      back_shapes = back_shapes;
      front_count = λ b. verify_rounds;
      back_count = back_count;
      seal = seal p;
      unseal = unseal p;
    }
