use Rattle.std.proofs.Common.{◌≡◌, length, drop}
use Rattle.std.specs.List.{AllByRecursion}
use Rattle.deltas.specs.Parts.{axes_total, cuts, Ascends}
use Rattle.deltas.proofs.parts.parts_ascend.Given as goal

abbrev pub invariant-loop-p : goal.invariant-loop-p
invariant-loop-p l =
    (axes_total (drop l.p-index l.parts) ≡ length l.rest)
    × (AllByRecursion Ascends (cuts (drop l.p-index l.parts) l.rest) → AllByRecursion Ascends (cuts l.parts l.coordinates))
    × (AllByRecursion Ascends (cuts l.parts l.coordinates) → AllByRecursion Ascends (cuts (drop l.p-index l.parts) l.rest))
