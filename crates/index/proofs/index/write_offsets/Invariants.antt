use Rattle.std.proofs.Common.{◌≡◌, ◌+◌, length, take, drop}
use Rattle.std.specs.List.{flat_map}
use Rattle.sink.proofs.Feeding.{Leaves}
use Rattle.write.specs.Bytes.{be}
use Rattle.format.specs.Index.{concat, offsets}
use Rattle.index.proofs.index.write_offsets.Given as goal

abbrev pub invariant-loop-i : goal.invariant-loop-i
invariant-loop-i g l =
    let items = g.B.Items.items l.bank in
    (l.offset ≡ 1 + length (concat (take l.i items))) ×
    Leaves g.S.Sink.meaning l.initial.sink (flat_map (be l.size) (offsets 1 items)) (flat_map (be l.size) (offsets l.offset (drop l.i items))) l.sink
