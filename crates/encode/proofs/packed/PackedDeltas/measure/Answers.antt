use Rattle.std.proofs.Common.{rules}
use Rattle.encode.proofs.Packing.{step_few, total_is}
use Rattle.encode.proofs.packed.PackedDeltas.measure.Goals as goal

pub fold-requires-clause-callable : goal.fold-requires-clause-callable
fold-requires-clause-callable g c =
    record { at = λ xs t q x u y k s. λ κs p n e r o. step_few (g.V.Deltas.deltas t.values.now) t.place x u.place s.1 }

pub returns : goal.returns
returns g c =
    let total = total_is g.V.Deltas.deltas c.fold.result c.fold.ensures.ran (λ a x b q k. search rules) in
    rw (c.new.ensures.place, c.new.ensures.values) at total
