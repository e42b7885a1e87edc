use Rattle.job.proofs.Cancelled.{cancel_fits}
use Rattle.job.proofs.state.Job.cancel.Goals as goal

pub returns-clause-keeps : goal.returns-clause-keeps
returns-clause-keeps c = record { fits = λ fits. cancel_fits c.args.self.now _ fits _ c.in_ok-begun.ensures.1; below = λ _. tt }
