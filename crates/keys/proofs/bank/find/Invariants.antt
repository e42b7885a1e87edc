use Rattle.keys.proofs.Places.{NotBelow}
use Rattle.keys.proofs.bank.find.Given as goal

abbrev pub invariant-loop-i : goal.invariant-loop-i
invariant-loop-i g l = NotBelow g.B.Key.Key.meaning (g.B.Bank.keys l.bank) (g.B.Key.Key.meaning (g.S.Sought.stands l.sought)) l.i
