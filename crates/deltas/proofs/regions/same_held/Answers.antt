use Rattle.std.proofs.lemmas.List.{drop_more, drop_all}
use Rattle.deltas.proofs.Coordinates.{agree_stops, agree_goes, agree_ends}
use Rattle.deltas.proofs.regions.same_held.Goals as goal

pub returns-in_default : goal.returns-in_default
returns-in_default c = agree_stops _ _ _ _ c.loop-c.invariant _ _ (drop_more c.args.other.now c.loop-c.c-index _ c.loop-c-test.true) c.in_default.ensures

pub loop-c-preserved : goal.loop-c-preserved
loop-c-preserved c = agree_goes _ _ _ _ c.loop-c.invariant _ _ (drop_more c.args.other.now c.loop-c.c-index _ c.loop-c-test.true) _ c.in-Some.ensures

pub returns : goal.returns
returns c = agree_ends _ _ _ _ c.loop-c.invariant _ c.is_empty.ensures (drop_all c.loop-c.c-index c.args.other.now c.loop-c-test.false)
