-- The family of the tests' own system: of three members, the sets that number 1 is in.
use Rattle.std.specs.Prelude.{ℕ, ◌^◌, Bool, ◌&&◌, nat_lt, refl}
use Rattle.std.proofs.Common.{arith}
use Rattle.std.proofs.lemmas.Bool.{and_parts, and_from}
use Rattle.std.proofs.lemmas.Bool.Decides.{nat_tests}
use Rattle.quorum.specs.Sets.{has}
use Rattle.quorum.specs.Systems.{Family}

abbrev pub with_one : ℕ → Bool
with_one s = nat_lt s (2 ^ 3) && has s 1

pub family : Family 3 with_one
family = record {
  all = refl;
  inside = λ s e. let low = (and_parts (nat_lt s (2 ^ 3)) (has s 1) e).0 in grind (arith, nat_tests);
  upward = λ s t e w b.
      and_from (nat_lt t (2 ^ 3)) (has t 1) (grind (arith, nat_tests)) (w 1 (and_parts (nat_lt s (2 ^ 3)) (has s 1) e).1);
}
