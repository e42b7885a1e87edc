use Rattle.std.proofs.lemmas.List.{length-map}
use Rattle.deltas.proofs.Coordinates.{held_at}
use Rattle.deltas.proofs.regions.HeldRegionsBank.key_at.Goals as goal

pub returns : goal.returns
returns c =
    held_at c.args.self.now.coordinates.now c.args.self.now.regions.now c.args.i _ _ (simp length-map at c.requires) c.of.ensures
