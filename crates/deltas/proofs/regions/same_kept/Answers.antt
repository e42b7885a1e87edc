use Rattle.std.proofs.lemmas.List.{at_drop_all}
use Rattle.deltas.specs.Regions.{kept}
use Rattle.deltas.proofs.Coordinates.{kept_next, kept_skip, agree_skips, agree_stops, agree_goes, agree_ends}
use Rattle.deltas.proofs.regions.same_kept.Goals as goal

pub loop-c-preserved-then-not-peaks : goal.loop-c-preserved-then-not-peaks
loop-c-preserved-then-not-peaks c =
    agree_skips _ _ _ _ c.loop-c.invariant _ (kept_skip c.args.given.now c.loop-c.c-index _ _ c.loop-c-test.true c.peaks.ensures c.if-not-peaks.true)

pub returns-in_default : goal.returns-in_default
returns-in_default c =
    agree_stops _ _ _ _ c.loop-c.invariant _ _ (kept_next c.args.given.now c.loop-c.c-index _ _ c.loop-c-test.true c.peaks.ensures c.if-not-peaks.false) c.in_default.ensures

pub loop-c-preserved : goal.loop-c-preserved
loop-c-preserved c =
    agree_goes _ _ _ _ c.loop-c.invariant _ _ (kept_next c.args.given.now c.loop-c.c-index _ _ c.loop-c-test.true c.peaks.ensures c.if-not-peaks.false) _ c.in-Some.ensures

pub returns : goal.returns
returns c = agree_ends _ _ _ _ c.loop-c.invariant _ c.is_empty.ensures (at_drop_all kept c.args.given.now c.loop-c.c-index c.loop-c-test.false)
