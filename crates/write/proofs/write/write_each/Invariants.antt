use Rattle.std.proofs.Common.{drop}
use Rattle.std.specs.List.{flat_map}
use Rattle.sink.proofs.Feeding.{Leaves}
use Rattle.write.proofs.write.write_each.Given as goal

abbrev pub invariant-loop-v : goal.invariant-loop-v
invariant-loop-v g l =
    let f = g.T.FontWrite.bytes in Leaves g.S.Sink.meaning l.initial.sink (flat_map f l.values) (flat_map f (drop l.v-index l.values)) l.sink
