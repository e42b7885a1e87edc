use Rattle.std.proofs.Common.{arith}
use Rattle.sink.proofs.Feeding.{leaves_step, leaves_stop, while_room_err}
use Rattle.index.proofs.Laying.{items-next}
use Rattle.index.proofs.index.write_items.Goals as goal

pub loop-i-preserved : goal.loop-i-preserved
loop-i-preserved g c =
    leaves_step _ c.loop-i.invariant c.in_ok-write_item.ensures (items-next (g.B.Items.items c.args.bank.now) c.loop-i.i (omega arith))

pub returns-in_err-write_item : goal.returns-in_err-write_item
returns-in_err-write_item g c =
    while_room_err c.from_residual.result c.from_residual.ensures.0
    (leaves_stop _ c.loop-i.invariant c.in_err-write_item.ensures (items-next (g.B.Items.items c.args.bank.now) c.loop-i.i (omega arith)))
