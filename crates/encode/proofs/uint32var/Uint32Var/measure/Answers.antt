use Rattle.std.proofs.Common.{arith}
use Rattle.std.proofs.lemmas.Bool.Decides.{nat_tests}
use Rattle.encode.proofs.Numbers.{length_number}
use Rattle.encode.proofs.uint32var.Uint32Var.measure.Goals as goal

pub returns-in-268435456-to-4294967295 : goal.returns-in-268435456-to-4294967295
returns-in-268435456-to-4294967295 c = grind (arith, nat_tests, length_number)
