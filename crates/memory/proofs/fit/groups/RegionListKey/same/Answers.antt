use Rattle.std.proofs.Common.{rules}
use Rattle.std.proofs.lemmas.Iterator.{YieldsList-from_slice, YieldsList-from_map}
use Rattle.std.proofs.lemmas.Bool.Decides.{Decides-eqb}
use Rattle.memory.specs.declared.records.Entry.{Entry}
use Rattle.memory.proofs.Equal.{eq_decides}
use Rattle.memory.proofs.fit.groups.RegionListKey.same.Goals as goal

pub returns : goal.returns
returns c =
    eq_decides _ c.eq.ensures.ran
    (YieldsList-from_map _ (λ (e : Entry). e.region) (YieldsList-from_slice c.args.self.now.entries.now cc) c.map-regions.ensures.closure (λ x r q k. search rules))
    (YieldsList-from_map _ (λ (e : Entry). e.region) (YieldsList-from_slice c.args.other.now.entries.now cc) c.map.ensures.closure (λ x r q k. search rules)) Decides-eqb
