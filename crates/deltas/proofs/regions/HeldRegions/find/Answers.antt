use Rattle.std.proofs.Common.{ap, ◌∙◌}
use Rattle.keys.specs.Places.{place}
use Rattle.deltas.specs.Regions.{region_sameness, regions_of, kept}
use Rattle.deltas.proofs.Coordinates.{held-means}
use Rattle.deltas.proofs.regions.HeldRegions.find.Goals as goal

pub returns : goal.returns
returns c =
    c.find.ensures.is ∙ ap (λ rs. place region_sameness rs (kept c.args.given.now)) (held-means (regions_of c.args.self.now.coordinates.now c.args.self.now.regions.now))
