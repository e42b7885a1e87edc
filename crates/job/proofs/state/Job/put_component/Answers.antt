use Rattle.std.proofs.Common.{length, sym, refl, ap, subst, arith}
use Rattle.std.proofs.lemmas.List.{length-set}
use Rattle.job.specs.Composites.{given, Below}
use Rattle.job.proofs.Stays.{added_sound, added_below}
use Rattle.job.proofs.Moves.{component_leaves}
use Rattle.job.proofs.Still.{still_fits}
use Rattle.job.proofs.state.Job.put_component.Goals as goal

pub returns-clause-keeps : goal.returns-clause-keeps
returns-clause-keeps c =
    let g = given c.args.component in
    let j = c.args.self.now in
    let fits = c.requires.fits in
    let room = c.requires.room in
    let leaves =
    component_leaves j _ fits g c.pairs_of-new.result.now _ c.spanning-axes.result
    c.pairs_of-new.ensures c.spanning-axes.ensures room.component.within c.append.ensures in
    record {
      fits = λ _.
          still_fits _ _ _ _ _ _ _ _ _ fits refl (omega (arith, c.append.auto.list, room.pairs.within, ap length c.pairs_of-new.ensures))
          (simp length-set room.component.within) fits.counted.composites (ap (λ s. s.held) leaves)
          (added_sound j _ fits g c.requires.order c.requires.gid c.requires.ids);
      below = λ h. subst Below (sym leaves) (added_below j _ fits g h);
    }
