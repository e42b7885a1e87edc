use Rattle.std.proofs.Common.{◌+◌, subst, arith, rules}
use Rattle.sink.specs.Meaning.{Takes, Stops}
use Rattle.sink.proofs.Feeding.{leaves_step, leaves_stop, leaves_end, stops_then, takes_then, while_room_err}
use Rattle.format.specs.Packed.{bytes}
use Rattle.encode.proofs.Packing.{run_ends, run_holds, run_more, run_written, part_none}
use Rattle.encode.proofs.runs.Run.write.Goals as goal

pub control_byte-requires : goal.control_byte-requires
control_byte-requires g c = let e = run_ends (g.V.Deltas.deltas c.args.values.now) c.args.self c.requires in (e.0, e.1)

pub delta_at-requires : goal.delta_at-requires
delta_at-requires g c = let e = run_ends (g.V.Deltas.deltas c.args.values.now) c.args.self c.requires in omega (arith, e.2)

pub write_value-requires : goal.write_value-requires
write_value-requires g c =
    run_holds (g.V.Deltas.deltas c.args.values.now) c.args.self c.requires c.loop-i.i c.delta_at.result (omega arith) (omega arith) (search rules) c.delta_at.ensures

pub returns-in_err-write_value : goal.returns-in_err-write_value
returns-in_err-write_value g c =
    let vs = g.V.Deltas.deltas c.args.values.now in
    let whole = run_written vs c.args.self c.requires c.control_byte.result c.control_byte.ensures in
    let rest = run_more vs c.args.self c.requires c.loop-i.i c.delta_at.result (omega arith) (omega arith) (search rules) c.delta_at.ensures in
    while_room_err c.from_residual-in_err-write_value.result c.from_residual-in_err-write_value.ensures.0
    (subst (λ xs. Stops g.S.Sink.meaning c.args.sink.now xs c.write_value.new.sink) whole
    (stops_then c.in_ok-write_while_room.ensures (leaves_stop _ c.loop-i.invariant c.in_err-write_value.ensures rest)))

pub loop-i-preserved : goal.loop-i-preserved
loop-i-preserved g c =
    leaves_step _ c.loop-i.invariant c.in_ok-write_value.ensures
    (run_more (g.V.Deltas.deltas c.args.values.now) c.args.self c.requires c.loop-i.i c.delta_at.result (omega arith) (omega arith) (search rules) c.delta_at.ensures)

pub returns : goal.returns
returns g c =
    let vs = g.V.Deltas.deltas c.args.values.now in
    let whole = run_written vs c.args.self c.requires c.control_byte.result c.control_byte.ensures in
    subst (λ xs. Takes g.S.Sink.meaning c.args.sink.now xs c.loop-i.sink) whole
    (takes_then c.in_ok-write_while_room.ensures (leaves_end c.loop-i.invariant (part_none (bytes c.args.self.width) vs c.loop-i.i (c.args.self.place + c.args.self.count) c.loop-i-test.false)))
