-- Whether what a delta set adds stays within the limits.
use Rattle.std.specs.Prelude.{◌+◌, ◌≤◌, length}
use Rattle.std.specs.List.{AllByRecursion}
use Rattle.memory.specs.Groups.{GroupsFit}
use Rattle.memory.specs.Lists.{Lists}
use Rattle.memory.specs.declared.memory.Counts.{Counts}
use Rattle.deltas.specs.Deltas.{Handed, Added, added, with_added, new_regions}

-- No 65,536th region, axis of a region, group, or set of a group arises.
pub record DeltaLimits (h : Lists) (d : Handed) : Type 0 where
  pub regions : length h.regions + length (new_regions h d) ≤ 65535
  pub axes : AllByRecursion (λ r. length r ≤ 65535) (new_regions h d)
  pub groups : GroupsFit (with_added h (added h d)).entries (with_added h (added h d)).sets

-- The counts with what is added.
abbrev pub counts_with : Added → Counts → Counts
counts_with a n =
    record {
      coordinates = n.coordinates + length a.coordinates;
      regions = n.regions + length a.regions;
      values = n.values + length a.values;
      entries = n.entries + length a.entries;
      sets = n.sets + length a.sets;
      pairs = n.pairs;
      components = n.components;
      composites = n.composites;
      axis_lists = n.axis_lists;
    }
