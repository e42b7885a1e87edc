use Rattle.std.proofs.Common.{drop}
use Rattle.sink.proofs.Feeding.{Leaves}
use Rattle.write.proofs.write.put_all.Given as goal

abbrev pub invariant-loop-b : goal.invariant-loop-b
invariant-loop-b g l = Leaves g.S.Sink.meaning l.initial.sink l.all (drop l.b-index l.all) l.sink
