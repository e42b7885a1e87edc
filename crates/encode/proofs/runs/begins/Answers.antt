use Rattle.std.proofs.Common.{◌<◌, length, arith, ⊎_elim}
use Rattle.format.specs.declared.Width.TheVariants.{Zero, One, Two, Four}
use Rattle.encode.proofs.Choosing.{next_at}
use Rattle.encode.proofs.runs.begins.Goals as goal

pub returns-in-Zero : goal.returns-in-Zero
returns-in-Zero g c = next_at c.args.narrow (g.V.Deltas.deltas c.args.values.now) c.args.i c.width_at.result Zero (omega arith) c.width_at.ensures c.in-Zero.is

pub returns-in-One : goal.returns-in-One
returns-in-One g c = next_at c.args.narrow (g.V.Deltas.deltas c.args.values.now) c.args.i c.width_at.result One (omega arith) c.width_at.ensures c.in-One.is

pub returns-in-Two : goal.returns-in-Two
returns-in-Two g c =
    let lt : c.args.i < length (g.V.Deltas.deltas c.args.values.now) = omega arith in
    let at = next_at c.args.narrow (g.V.Deltas.deltas c.args.values.now) c.args.i c.width_at.result in
    ⊎_elim (at Two lt c.width_at.ensures) (at Four lt c.width_at.ensures) c.in-Two.is
