use Rattle.std.proofs.Common.{◌≡◌, ◌+◌, [], length, get_or, drop, refl, ap, ◌∙◌, arith}
use Rattle.std.proofs.lemmas.List.{append-nil, at_drop_all}
use Rattle.std.specs.List.{flat_map}
use Rattle.sink.proofs.Feeding.{leaves_step, leaves_stop, while_room_err}
use Rattle.write.specs.Bytes.{be}
use Rattle.format.specs.Index.{offsets}
use Rattle.index.proofs.Laying.{leaves_last, offsets-next, concat-more, concat_within}
use Rattle.index.proofs.index.write_offsets.Goals as goal

pub returns-in_err-write_offset : goal.returns-in_err-write_offset
returns-in_err-write_offset g c =
    let items = g.B.Items.items c.args.bank.now in
    while_room_err c.from_residual.result c.from_residual.ensures.0
    (leaves_stop _ c.loop-i.invariant.1 c.in_err-write_offset.ensures (offsets-next items c.loop-i.i (omega arith) c.args.size c.loop-i.offset _ refl))

pub overflow_cast-offset : goal.overflow_cast-offset
overflow_cast-offset g c =
    let within = concat_within (g.B.Items.items c.args.bank.now) c.loop-i.i (omega arith) in
    record { fits = omega (arith, c.item_len.ensures, within, c.requires.1) }

pub overflow_add-offset : goal.overflow_add-offset
overflow_add-offset g c =
    let within = concat_within (g.B.Items.items c.args.bank.now) c.loop-i.i (omega arith) in
    record { fits = omega (arith, c.item_len.ensures, within, c.requires.1, c.loop-i.invariant.0) }

pub loop-i-preserved : goal.loop-i-preserved
loop-i-preserved g c =
    let items = g.B.Items.items c.args.bank.now in
    let within = concat_within items c.loop-i.i (omega arith) in
    let more = concat-more items c.loop-i.i (omega arith) in
    let len : c.item_len.result ≡ length (get_or items c.loop-i.i []) = omega (arith, c.item_len.ensures, within, c.requires.1) in (
      omega (arith, len, more, c.loop-i.invariant.0),
      leaves_step _ c.loop-i.invariant.1 c.in_ok-write_offset.ensures (offsets-next items c.loop-i.i (omega arith) c.args.size c.loop-i.offset (c.loop-i.offset + c.item_len.result) (ap (λ n. c.loop-i.offset + n) len)),
    )

pub returns : goal.returns
returns g c =
    let items = g.B.Items.items c.args.bank.now in
    let rest : flat_map (be c.args.size) (offsets c.loop-i.offset (drop c.loop-i.i items)) ≡ be c.args.size c.loop-i.offset = at_drop_all (λ xs. flat_map (be c.args.size) (offsets c.loop-i.offset xs)) items c.loop-i.i (omega arith) ∙ append-nil (be c.args.size c.loop-i.offset) in
    leaves_last c.write_offset-2.new.sink c.write_offset-2.result c.loop-i.invariant.1 rest c.write_offset-2.ensures
