use Rattle.std.proofs.Common.{drop}
use Rattle.deltas.proofs.Coordinates.{Agree}
use Rattle.deltas.proofs.regions.same_held.Given as goal

abbrev pub invariant-loop-c : goal.invariant-loop-c
invariant-loop-c l = Agree l.rest (drop l.c-index l.other) l.known l.other
