-- Groups of delta sets: sets with equal lists of region numbers form a group.
use Rattle.std.specs.Prelude.{ℕ, ◌≤◌, List, map, length, filter}
use Rattle.std.specs.List.{AllByRecursion}
use Rattle.keys.specs.Places.{firsts}
use Rattle.keys.specs.Sameness.{lists, numbers}
use Rattle.memory.specs.Lists.{part}
use Rattle.memory.specs.declared.records.DeltaSet.{DeltaSet}
use Rattle.memory.specs.declared.records.Entry.{Entry}

-- the region numbers of a set, in turn
abbrev pub set_regions : List Entry → DeltaSet → List ℕ
set_regions entries s = map (λ e. e.region) (part s.entries entries)

-- those of each set
abbrev pub region_lists : List Entry → List DeltaSet → List (List ℕ)
region_lists entries sets = map (set_regions entries) sets

-- the groups: the different lists of region numbers, each where it first came
abbrev pub groups : List Entry → List DeltaSet → List (List ℕ)
groups entries sets = firsts (lists numbers) (region_lists entries sets)

-- how many lists of region numbers are this one
abbrev pub like : List ℕ → List (List ℕ) → ℕ
like key regions = length (filter (λ other. (lists numbers).test other key) regions)

-- no more groups than 65,535, and no more sets in any of them
pub record GroupsFit (entries : List Entry) (sets : List DeltaSet) : Type 0 where
  pub few_groups : length (groups entries sets) ≤ 65535
  pub few_sets : AllByRecursion (λ key. like key (region_lists entries sets) ≤ 65535) (region_lists entries sets)
