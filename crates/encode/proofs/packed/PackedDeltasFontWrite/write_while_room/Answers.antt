use Rattle.std.proofs.Common.{Some, None, ◌∙◌, subst}
use Rattle.sink.proofs.Feeding.{leaves_step, leaves_stop, leaves_end, while_room_err}
use Rattle.encode.specs.Runs.{Steps}
use Rattle.encode.proofs.Packing.{step_none, step_next}
use Rattle.encode.proofs.packed.PackedDeltasFontWrite.write_while_room.Goals as goal

pub loop-run-preserved : goal.loop-run-preserved
loop-run-preserved g c =
    let s = subst (λ v. Steps (g.V.Deltas.deltas v) c.loop-run.run-iterator.place (Some c.in-Some.run') c.next.new.self.place) c.loop-run.invariant.0 c.in-Some.ensures.steps.1 in (
      c.in-Some.ensures.steps.0 ∙ c.loop-run.invariant.0,
      leaves_step _ c.loop-run.invariant.1 c.in_ok-write.ensures (step_next (g.V.Deltas.deltas c.args.self.now.0) c.loop-run.run-iterator.place c.in-Some.run' c.next.new.self.place s),
    )

pub returns-in_err-write : goal.returns-in_err-write
returns-in_err-write g c =
    let s = subst (λ v. Steps (g.V.Deltas.deltas v) c.loop-run.run-iterator.place (Some c.in-Some.run') c.next.new.self.place) c.loop-run.invariant.0 c.in-Some.ensures.steps.1 in
    while_room_err c.from_residual.result c.from_residual.ensures.0
    (leaves_stop _ c.loop-run.invariant.1 c.in_err-write.ensures (step_next (g.V.Deltas.deltas c.args.self.now.0) c.loop-run.run-iterator.place c.in-Some.run' c.next.new.self.place s))

pub returns : goal.returns
returns g c =
    let s = subst (λ v. Steps (g.V.Deltas.deltas v) c.loop-run.run-iterator.place None c.next.new.self.place) c.loop-run.invariant.0 c.in-None.ensures.steps.1 in
    leaves_end c.loop-run.invariant.1 (step_none (g.V.Deltas.deltas c.args.self.now.0) c.loop-run.run-iterator.place c.next.new.self.place s)
