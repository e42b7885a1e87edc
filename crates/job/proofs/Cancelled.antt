-- A job whose open composite is cancelled still fits its memory, where what is closed lies below the mark.
use Rattle.std.proofs.Common.{◌≡◌, ◌-◌, IfSome, Some, None, refl, ap, ◌∙◌, subst, arith}
use Rattle.memory.specs.Fit.{Fits}
use Rattle.memory.specs.Lists.{Lists, held}
use Rattle.memory.specs.declared.memory.Mark.{Mark}
use Rattle.job.specs.Composites.{with_counts, cancelled_at, BelowMark, Below}
use Rattle.job.specs.Outcome.{JobFits, state}
use Rattle.job.specs.declared.state.Job.{Job}
use Rattle.job.proofs.Moves.{cancel_leaves}
use Rattle.job.proofs.Stays.{mark_fits, long_pairs, long_components, cancelled_sound}
use Rattle.job.proofs.Still.{still_fits}

pub cancel_fits : (j : Job) (l : Lists) → JobFits j l → (m : Mark) → j.mark ≡ Some m → Below (state j l) →
    Fits (with_counts m.pairs m.components (j.counts.composites - 1) j.counts) None l
cancel_fits j l fits m is below =
    let f = mark_fits j l fits m is in
    let n = fits.counted in
    still_fits j.counts _ j.mark None l l.pairs l.components l.composites _ fits refl
    (omega (arith, f.pairs, long_pairs j l fits, n.pairs)) (omega (arith, f.components, long_components j l fits, n.components)) (omega (arith, n.composites))
    (ap (λ s. s.held) (cancel_leaves j l fits m is ∙ ap (λ o. cancelled_at o (state j l)) is))
    (cancelled_sound j l fits m is (subst (λ o. IfSome o (BelowMark (held j.counts l))) is below))
