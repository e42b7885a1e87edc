use Rattle.std.proofs.Common.{◌≡◌, drop}
use Rattle.sink.proofs.Feeding.{Leaves}
use Rattle.format.specs.Packed.{packed}
use Rattle.encode.proofs.packed.PackedDeltasFontWrite.write_while_room.Given as goal

abbrev pub invariant-loop-run : goal.invariant-loop-run
invariant-loop-run g l =
    let vs = g.V.Deltas.deltas l.self.0 in
    (l.run-iterator.values.now ≡ l.self.0) × Leaves g.S.Sink.meaning l.initial.sink (packed vs) (packed (drop l.run-iterator.place vs)) l.sink
