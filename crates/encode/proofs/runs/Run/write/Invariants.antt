use Rattle.std.proofs.Common.{◌+◌, ◌-◌, take, drop}
use Rattle.std.specs.List.{flat_map}
use Rattle.sink.proofs.Feeding.{Leaves}
use Rattle.format.specs.Packed.{bytes}
use Rattle.encode.proofs.runs.Run.write.Given as goal

abbrev pub invariant-loop-i : goal.invariant-loop-i
invariant-loop-i g l =
    let f = bytes l.self.width in
    let vs = g.V.Deltas.deltas l.values in
    let end = l.self.place + l.self.count in
    Leaves g.S.Sink.meaning l.initial.sink (flat_map f (take (end - l.self.place) (drop l.self.place vs))) (flat_map f (take (end - l.i) (drop l.i vs))) l.sink
