use Rattle.std.proofs.Common.{◌+◌, sym, subst, arith}
use Rattle.sink.specs.Meaning.{Stops, WhileRoom}
use Rattle.sink.proofs.Feeding.{takes_then, stops_then, stops-before, while_room_err}
use Rattle.index.proofs.Laying.{measured_parts, measured_none, measured_few, size_few, last_part}
use Rattle.index.proofs.index.Measured.write.Goals as goal

pub returns-then-count-eq0 : goal.returns-then-count-eq0
returns-then-count-eq0 g c =
    let x = c.args.self.now in
    let none = measured_none (g.B.Items.items x.bank.now) x.measure x.is c.if-count-eq0.true in
    subst (λ xs. WhileRoom g.S.Sink.meaning c.args.sink.now xs c.write_while_room.result c.write_while_room.new.sink) (sym none) c.write_while_room.ensures

pub returns-in_err-write_while_room : goal.returns-in_err-write_while_room
returns-in_err-write_while_room g c =
    let x = c.args.self.now in
    let whole = measured_parts (g.B.Items.items x.bank.now) x.measure x.is c.offset_bytes-size.result c.if-count-eq0.false c.offset_bytes-size.ensures in
    while_room_err c.from_residual.result c.from_residual.ensures.0
    (subst (λ xs. Stops g.S.Sink.meaning c.args.sink.now xs c.write_while_room-2.new.sink) (sym whole)
    (stops-before _ c.in_err-write_while_room.ensures))

pub write_offsets-requires : goal.write_offsets-requires
write_offsets-requires g c =
    let x = c.args.self.now in
    let few = size_few (1 + x.measure.data_len) in
    (omega (arith, c.offset_bytes-size.ensures, few), measured_few (g.B.Items.items x.bank.now) x.measure x.is)

pub returns-in_err-write_offsets : goal.returns-in_err-write_offsets
returns-in_err-write_offsets g c =
    let x = c.args.self.now in
    let whole = measured_parts (g.B.Items.items x.bank.now) x.measure x.is c.offset_bytes-size.result c.if-count-eq0.false c.offset_bytes-size.ensures in
    while_room_err c.from_residual-in_err-write_offsets.result c.from_residual-in_err-write_offsets.ensures.0
    (subst (λ xs. Stops g.S.Sink.meaning c.args.sink.now xs c.write_offsets.new.sink) (sym whole)
    (stops_then c.in_ok-write_while_room.ensures (stops-before _ c.in_err-write_offsets.ensures)))

pub returns : goal.returns
returns g c =
    let x = c.args.self.now in
    let whole = measured_parts (g.B.Items.items x.bank.now) x.measure x.is c.offset_bytes-size.result c.if-count-eq0.false c.offset_bytes-size.ensures in
    subst (λ xs. WhileRoom g.S.Sink.meaning c.args.sink.now xs c.write_items.result c.write_items.new.sink) (sym whole)
    (last_part c.write_items.new.sink _ _ _ c.write_items.result (takes_then c.in_ok-write_while_room.ensures c.in_ok-write_offsets.ensures) c.write_items.ensures)
