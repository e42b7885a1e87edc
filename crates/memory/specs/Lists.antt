-- The nine lists of a job's memory, and the part of them that is filled.
use Rattle.std.specs.Prelude.{List, take, drop, ℤ}
use Rattle.memory.specs.declared.records.Component.{Component}
use Rattle.format.specs.declared.Coordinate.{Coordinate}
use Rattle.memory.specs.declared.records.DeltaSet.{DeltaSet}
use Rattle.memory.specs.declared.records.Entry.{Entry}
use Rattle.memory.specs.declared.records.Pair.{Pair}
use Rattle.memory.specs.declared.records.Span.{Span}
use Rattle.memory.specs.declared.records.TemporaryDeltaSetId.{TemporaryDeltaSetId}
use Rattle.memory.specs.declared.memory.Memory.{Memory}
use Rattle.memory.specs.declared.memory.Counts.{Counts}
use Rattle.memory.specs.declared.memory.Filled.{Filled}

-- a component as a job holds it: its axis values are a part of the list of pairs, its variations go by temporary ids
abbrev pub Stored : Type 0
Stored = Component Span TemporaryDeltaSetId

pub record Lists : Type 0 where
  pub coordinates : List Coordinate
  pub regions : List Span
  pub values : List ℤ
  pub entries : List Entry
  pub sets : List DeltaSet
  pub pairs : List Pair
  pub components : List Stored
  pub composites : List Span
  pub axis_lists : List Span

-- what the memory holds, free parts included
abbrev pub lists : Memory → Lists
lists m =
    record {
      coordinates = m.coordinates.now;
      regions = m.regions.now;
      values = m.values.now;
      entries = m.entries.now;
      sets = m.sets.now;
      pairs = m.pairs.now;
      components = m.components.now;
      composites = m.composites.now;
      axis_lists = m.axis_lists.now;
    }

-- the filled part
abbrev pub held : Counts → Lists → Lists
held n l =
    record {
      coordinates = take n.coordinates l.coordinates;
      regions = take n.regions l.regions;
      values = take n.values l.values;
      entries = take n.entries l.entries;
      sets = take n.sets l.sets;
      pairs = take n.pairs l.pairs;
      components = take n.components l.components;
      composites = take n.composites l.composites;
      axis_lists = take n.axis_lists l.axis_lists;
    }

-- the part of a list that a span stands for
abbrev pub part : {X : Type 0} → Span → List X → List X
part s xs = take s.count (drop s.place xs)

-- what a view of nine slices shows
abbrev pub seen : Filled → Lists
seen f =
    record {
      coordinates = f.coordinates.now;
      regions = f.regions.now;
      values = f.values.now;
      entries = f.entries.now;
      sets = f.sets.now;
      pairs = f.pairs.now;
      components = f.components.now;
      composites = f.composites.now;
      axis_lists = f.axis_lists.now;
    }
