-- A number reads back.
use Rattle.std.proofs.Common.{arith}
use Rattle.std.proofs.lemmas.Bool.Decides.{nat_tests}
use Rattle.write.specs.Bytes.{be}
use Rattle.format.specs.Laws.{NumbersReadBack}

pub numbers : NumbersReadBack
unfolding be
numbers n h end after = record {
  shortest = grind (arith, nat_tests);
  in_two = λ l. grind (arith, nat_tests);
  in_three = λ l. grind (arith, nat_tests);
  in_four = λ l. grind (arith, nat_tests);
  in_five = grind (arith, nat_tests);
}
