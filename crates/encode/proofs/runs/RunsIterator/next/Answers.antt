use Rattle.std.proofs.Common.{refl, arith, rules}
use Rattle.encode.proofs.Choosing.{run_fits, run_some}
use Rattle.encode.proofs.runs.RunsIterator.next.Goals as goal

pub overflow_add-self : goal.overflow_add-self
overflow_add-self g c =
    let vs = g.V.Deltas.deltas c.args.self.now.values.now in
    record { fits = run_fits vs c.args.self.now.place c.next_run_len-count.result.0 c.next_run_len-count.result.1 (omega arith) (omega arith) c.next_run_len-count.ensures }

pub returns-clause-steps : goal.returns-clause-steps
returns-clause-steps g c =
    let vs = g.V.Deltas.deltas c.args.self.now.values.now in
    let at = c.args.self.now.place in
    let run = c.next_run_len-count in
    (refl, (refl, record { within = omega arith; is = run.ensures; fits = run_fits vs at run.result.0 run.result.1 (omega arith) (omega arith) run.ensures }, refl))

pub returns-clause-goes : goal.returns-clause-goes
returns-clause-goes g c =
    let vs = g.V.Deltas.deltas c.args.self.now.values.now in
    let run = c.next_run_len-count in
    let some = run_some vs c.args.self.now.place run.result.0 run.result.1 (omega arith) run.ensures in
    search rules
