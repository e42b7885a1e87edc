use Rattle.std.proofs.Common.{sym, refl, ap, subst}
use Rattle.std.proofs.lemmas.List.{length-set}
use Rattle.job.proofs.Stays.{begun_sound, begun_below}
use Rattle.job.specs.Composites.{Below}
use Rattle.job.proofs.Moves.{begin_leaves}
use Rattle.job.proofs.Still.{still_fits}
use Rattle.job.proofs.state.Job.put_begun.Goals as goal

pub returns-clause-below : goal.returns-clause-below
returns-clause-below c =
    let fits = c.requires.fits in
    subst Below (sym (begin_leaves c.args.self.now _ fits c.requires.room)) (begun_below c.args.self.now _ fits)

pub returns-clause-keeps : goal.returns-clause-keeps
returns-clause-keeps c =
    let j = c.args.self.now in
    let fits = c.requires.fits in
    let leaves = begin_leaves j _ fits c.requires.room in
    record {
      fits = λ _. still_fits _ _ _ _ _ _ _ _ _ fits refl fits.counted.pairs fits.counted.components (simp length-set c.requires.room.within) (ap (λ s. s.held) leaves) (begun_sound j _ fits);
      below = λ _. subst Below (sym leaves) (begun_below j _ fits);
    }
