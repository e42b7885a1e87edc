use Rattle.std.proofs.Common.{◌≡◌, map, Decides, ap, ◌∙◌, rules}
use Rattle.std.proofs.lemmas.Bool.Decides.{same_from_decides}
use Rattle.std.proofs.lemmas.Iterator.{YieldsList-from_slice, YieldsList-from_map_by}
use Rattle.std.proofs.lemmas.Iterator.Consumers.{YieldsList-from_filter, count_from_yields_List}
use Rattle.keys.specs.Sameness.{lists, numbers}
use Rattle.memory.specs.Groups.{set_regions}
use Rattle.memory.specs.declared.fit.groups.RegionList.{RegionList}
use Rattle.memory.proofs.fit.groups.SetRegions.like.Goals as goal

pub returns : goal.returns
returns c =
    let key = map (λ e. e.region) c.args.key.now.entries.now in
    count_from_yields_List c.filter.result c.count.result c.count.ensures.ran
    (YieldsList-from_filter _ (λ ns. (lists numbers).test ns key)
    (YieldsList-from_map_by _ (λ (k : RegionList). map (λ e. e.region) k.entries.now) (set_regions c.args.self.now.entries.now) (YieldsList-from_slice c.args.self.now.sets.now cc) (ap (λ m. m.f) c.filter.ensures.source ∙ c.map-keys.ensures.closure) (λ x r q k. search rules))
    c.filter.ensures.closure (λ x b q k. let d : Decides b (map (λ e. e.region) x.entries.now ≡ key) = search rules in (search rules, same_from_decides _ _ d ((lists numbers).exact _ _))))
