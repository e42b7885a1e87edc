use Rattle.std.proofs.Common.{length, sym, arith}
use Rattle.std.proofs.lemmas.Bool.{eqb-false}
use Rattle.deltas.proofs.Coordinates.{begins}
use Rattle.deltas.proofs.regions.after_first.Goals as goal

pub returns : goal.returns
returns c =
    begins c.args.region.now _ c.args.c.now _ (omega (arith, eqb-false (length c.args.region.now) 0 (sym c.if-is_empty.ensures))) c.same_coordinate.ensures c.if-not-same_coordinate.false
