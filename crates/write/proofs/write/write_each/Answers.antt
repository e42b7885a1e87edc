use Rattle.sink.proofs.Feeding.{leaves_step, leaves_stop, while_room_err}
use Rattle.write.proofs.Joins.{joined-next}
use Rattle.write.proofs.write.write_each.Goals as goal

pub loop-v-preserved : goal.loop-v-preserved
loop-v-preserved g c =
    leaves_step _ c.loop-v.invariant c.in_ok-write_while_room.ensures
    (joined-next g.T.FontWrite.bytes c.args.values.now c.loop-v.v-index c.v-item.result c.loop-v-test.true c.v-item.is)

pub returns-in_err-write_while_room : goal.returns-in_err-write_while_room
returns-in_err-write_while_room g c =
    while_room_err c.from_residual.result c.from_residual.ensures.0
    (leaves_stop _ c.loop-v.invariant c.in_err-write_while_room.ensures
    (joined-next g.T.FontWrite.bytes c.args.values.now c.loop-v.v-index c.v-item.result c.loop-v-test.true c.v-item.is))
