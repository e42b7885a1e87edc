use Rattle.std.proofs.lemmas.List.{drop_more}
use Rattle.sink.proofs.Feeding.{leaves_step}
use Rattle.write.proofs.write.put_all.Goals as goal

pub loop-b-preserved : goal.loop-b-preserved
loop-b-preserved g c = leaves_step _ c.loop-b.invariant c.in_ok-put.ensures (drop_more c.args.all.now c.loop-b.b-index 0 c.loop-b-test.true)
