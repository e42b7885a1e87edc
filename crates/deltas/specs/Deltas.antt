-- What adding a delta set does, over what a job holds.
use Rattle.std.specs.Prelude.{ℕ, ◌+◌, ◌≤◌, Bool, true, false, cond, not, ◌&&◌, List, [], ◌∷◌, ◌++◌, map, length, take, drop, ℤ, pos, is_some, filter, refl}
use Rattle.std.specs.List.{flat_map, list_all, AllByRecursion}
use Rattle.std.specs.Ordering.{int_eq}
use Rattle.format.specs.declared.Coordinate.{Coordinate}
use Rattle.keys.specs.Numbers.{AscendingNumbers}
use Rattle.keys.specs.Places.{number, place, placed, with_key, grown}
use Rattle.keys.specs.Sameness.{Sameness, numbers, integers, pairs, lists, by_parts}
use Rattle.memory.specs.Lists.{Lists, part}
use Rattle.memory.specs.declared.records.DeltaSet.{DeltaSet}
use Rattle.memory.specs.declared.records.Entry.{Entry}
use Rattle.memory.specs.declared.records.Span.{Span}
use Rattle.deltas.specs.Parts.{tuple_len}
use Rattle.deltas.specs.Regions.{kept, region_sameness, regions_of}
use Rattle.deltas.specs.declared.parts.Part.{Part}

-- What is handed in: parts over coordinates and values, the values widened.
pub record Handed : Type 0 where
  pub parts : List Part
  pub coordinates : List Coordinate
  pub values : List ℤ

-- A region and its tuple.
pub record RegionTuple : Type 0 where
  pub region : List Coordinate
  pub tuple : List ℤ

-- A region's number and its tuple.
pub record NumberedTuple : Type 0 where
  pub region : ℕ
  pub tuple : List ℤ

abbrev pub is_empty : {X : Type 0} → List X → Bool
is_empty [] = true
is_empty (x ∷ xs) = false

-- Each part's region, zero peaks dropped, and its tuple.
abbrev pub tuples : List Part → List Coordinate → List ℤ → List RegionTuple
tuples [] cs vs = []
tuples (p ∷ ps) cs vs = record { region = kept (take p.axes cs); tuple = take p.values vs } ∷ tuples ps (drop p.axes cs) (drop p.values vs)

-- A part whose region is empty is skipped.
abbrev pub used : Handed → List RegionTuple
used d = filter (λ t. not (is_empty t.region)) (tuples d.parts d.coordinates d.values)

-- The regions that the call uses, in part order.
abbrev pub used_regions : Handed → List (List Coordinate)
used_regions d = map (λ t. t.region) (used d)

-- The regions that are held, each at its number.
abbrev pub held_regions : Lists → List (List Coordinate)
held_regions h = regions_of h.coordinates h.regions

-- The numbers that regions get in turn: a known one has the place where it first stands, a new one takes the next.
abbrev pub numbers_of : List (List Coordinate) → List (List Coordinate) → List ℕ
numbers_of known [] = []
numbers_of known (r ∷ rs) = number (placed region_sameness known r) ∷ numbers_of (with_key region_sameness known r) rs

abbrev pub region_numbers : Lists → Handed → List ℕ
region_numbers h d = numbers_of (held_regions h) (used_regions d)

-- The regions of the call get strictly ascending numbers.
abbrev pub RegionsAscend : Lists → Handed → Type 0
RegionsAscend h d = AscendingNumbers (region_numbers h d)

-- The regions that the call adds.
abbrev pub new_regions : Lists → Handed → List (List Coordinate)
new_regions h d = drop (length h.regions) (grown region_sameness (held_regions h) (used_regions d))

-- Tuples under their regions' numbers.
abbrev pub under : List ℕ → List RegionTuple → List NumberedTuple
under [] ts = []
under (n ∷ ns) [] = []
under (n ∷ ns) (t ∷ ts) = record { region = n; tuple = t.tuple } ∷ under ns ts

abbrev pub all_zero : List ℤ → Bool
all_zero = list_all (λ v. int_eq v (pos 0))

-- The delta set that is handed in: all-zero tuples are dropped.
abbrev pub delta_set : Lists → Handed → List NumberedTuple
delta_set h d = filter (λ t. not (all_zero t.tuple)) (under (region_numbers h d) (used d))

-- A delta set that is held.
abbrev pub set_of : Lists → DeltaSet → List NumberedTuple
set_of h s = map (λ e. record { region = e.region; tuple = take s.tuple_len (drop e.place h.values) }) (part s.entries h.entries)

abbrev pub held_sets : Lists → List (List NumberedTuple)
held_sets h = map (set_of h) h.sets

-- Delta sets are the same where their region numbers and their tuples are, in turn.
abbrev pub set_sameness : Sameness (List NumberedTuple)
set_sameness = lists (by_parts (λ t. (t.region, t.tuple)) (λ p. record { region = p.0; tuple = p.1 }) (λ t. refl) (pairs numbers (lists integers)))

-- The answer: the sentinel where the set has no entries, else the first place of a set that is held, else the next.
abbrev pub id_of : Lists → Handed → ℕ
id_of h d = cond (is_empty (delta_set h d)) 0xFFFFFFFF (number (placed set_sameness (held_sets h) (delta_set h d)))

-- The set has entries, and is not held.
abbrev pub is_new : Lists → Handed → Bool
is_new h d = not (is_empty (delta_set h d)) && not (is_some (place set_sameness (held_sets h) (delta_set h d)))

-- The entries of a new set; none where it is held.
abbrev pub new_tuples : Lists → Handed → List NumberedTuple
new_tuples h d = cond (is_new h d) (delta_set h d) []

-- Where lists of records stand that are written one after the other.
abbrev pub spans_from : {X : Type 0} → ℕ → List (List X) → List Span
spans_from at [] = []
spans_from at (xs ∷ rest) = record { place = at; count = length xs } ∷ spans_from (at + length xs) rest

-- The entries of tuples whose values are written one tuple after the other.
abbrev pub entries_from : ℕ → List NumberedTuple → List Entry
entries_from at [] = []
entries_from at (t ∷ ts) = record { region = t.region; place = at } ∷ entries_from (at + length t.tuple) ts

-- The records that the call adds to each list, behind those that are held.
pub record Added : Type 0 where
  pub coordinates : List Coordinate
  pub regions : List Span
  pub values : List ℤ
  pub entries : List Entry
  pub sets : List DeltaSet

abbrev pub set_record : Lists → Handed → DeltaSet
set_record h d =
    record {
      entries = record { place = length h.entries; count = length (delta_set h d) };
      tuple_len = tuple_len d.parts;
      slot = record { 0 = 0 };
    }

-- New regions stay listed also where no set is added.
abbrev pub added : Lists → Handed → Added
added h d =
    record {
      coordinates = flat_map (λ r. r) (new_regions h d);
      regions = spans_from (length h.coordinates) (new_regions h d);
      values = flat_map (λ t. t.tuple) (new_tuples h d);
      entries = entries_from (length h.values) (new_tuples h d);
      sets = cond (is_new h d) (set_record h d ∷ []) [];
    }

-- What is held after the call.
abbrev pub with_added : Lists → Added → Lists
with_added h a =
    record {
      coordinates = h.coordinates ++ a.coordinates;
      regions = h.regions ++ a.regions;
      values = h.values ++ a.values;
      entries = h.entries ++ a.entries;
      sets = h.sets ++ a.sets;
      pairs = h.pairs;
      components = h.components;
      composites = h.composites;
      axis_lists = h.axis_lists;
    }

-- No 65,536th region, and no 65,536th axis of a region, arises.
pub record RegionLimits (h : Lists) (d : Handed) : Type 0 where
  pub regions : length h.regions + length (new_regions h d) ≤ 65535
  pub axes : AllByRecursion (λ r. length r ≤ 65535) (new_regions h d)
