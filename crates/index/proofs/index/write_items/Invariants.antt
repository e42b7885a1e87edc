use Rattle.std.proofs.Common.{drop}
use Rattle.sink.proofs.Feeding.{Leaves}
use Rattle.format.specs.Index.{concat}
use Rattle.index.proofs.index.write_items.Given as goal

abbrev pub invariant-loop-i : goal.invariant-loop-i
invariant-loop-i g l = let items = g.B.Items.items l.bank in Leaves g.S.Sink.meaning l.initial.sink (concat items) (concat (drop l.i items)) l.sink
