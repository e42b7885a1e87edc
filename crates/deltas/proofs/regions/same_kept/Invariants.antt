use Rattle.std.proofs.Common.{drop}
use Rattle.deltas.specs.Regions.{kept}
use Rattle.deltas.proofs.Coordinates.{Agree}
use Rattle.deltas.proofs.regions.same_kept.Given as goal

abbrev pub invariant-loop-c : goal.invariant-loop-c
invariant-loop-c l = Agree l.rest (kept (drop l.c-index l.given)) l.known (kept l.given)
