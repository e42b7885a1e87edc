use Rattle.std.proofs.Common.{sym, refl, subst}
use Rattle.std.proofs.lemmas.List.{length-set}
use Rattle.job.proofs.Stays.{SoundState, closed_sound}
use Rattle.job.proofs.Moves.{close_leaves}
use Rattle.job.proofs.Still.{still_fits}
use Rattle.job.proofs.state.Job.put_closed.Goals as goal

pub returns-clause-keeps : goal.returns-clause-keeps
returns-clause-keeps c =
    let j = c.args.self.now in
    let fits = c.requires.fits in
    let leaves = close_leaves j _ fits _ c.requires.mark in
    record {
      fits = λ _. still_fits _ _ _ _ _ _ _ _ _ fits refl fits.counted.pairs fits.counted.components (simp length-set fits.counted.composites) refl (subst SoundState (sym leaves) (closed_sound j _ fits _ c.requires.mark));
      below = λ _. tt;
    }
