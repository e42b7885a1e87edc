use Rattle.std.proofs.Common.{◌≡◌, ◌+◌, drop}
use Rattle.deltas.specs.Parts.{axes_total, values_total}
use Rattle.deltas.proofs.parts.add_up.Given as goal

abbrev pub invariant-loop-p : goal.invariant-loop-p
invariant-loop-p l =
    (axes_total l.parts + l.a ≡ l.axes + axes_total (drop l.p-index l.parts))
    × (values_total l.parts + l.v ≡ l.values + values_total (drop l.p-index l.parts))
