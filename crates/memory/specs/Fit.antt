-- When a job fits its memory.
use Rattle.std.specs.Prelude.{◌≡◌, ℕ, ◌+◌, ◌<◌, ◌≤◌, ◌⊎◌, List, map, length, IfSome, Option}
use Rattle.std.specs.List.{AllByRecursion}
use Rattle.keys.specs.Numbers.{AscendingNumbers}
use Rattle.memory.specs.Groups.{GroupsFit}
use Rattle.memory.specs.Lists.{Lists, Stored, held, part}
use Rattle.memory.specs.declared.memory.Counts.{Counts}
use Rattle.memory.specs.declared.memory.Mark.{Mark}
use Rattle.format.specs.declared.Coordinate.{Coordinate}
use Rattle.memory.specs.declared.records.Component.{Component}
use Rattle.memory.specs.declared.records.DeltaSet.{DeltaSet}
use Rattle.memory.specs.declared.records.Entry.{Entry}
use Rattle.memory.specs.declared.records.Pair.{Pair}
use Rattle.memory.specs.declared.records.Span.{Span}
use Rattle.memory.specs.declared.records.TemporaryDeltaSetId.{TemporaryDeltaSetId}

abbrev pub Within : ℕ → Span → Type 0
Within n s = s.place + s.count ≤ n

pub record RegionFits (coordinates : List Coordinate) (r : Span) : Type 0 where
  pub within : Within (length coordinates) r
  pub few : r.count ≤ 65535
  pub ascends : AscendingNumbers (map (λ c. c.axis) (part r coordinates))

pub record EntryFits (regions values : ℕ) (e : Entry) : Type 0 where
  pub region : e.region < regions
  pub place : e.place ≤ values

-- the values of an entry, so many
abbrev pub Tuple : ℕ → ℕ → Entry → Type 0
Tuple width values e = e.place + width ≤ values

pub record SetFits (entries : List Entry) (values : ℕ) (s : DeltaSet) : Type 0 where
  pub within : Within (length entries) s.entries
  pub ascends : AscendingNumbers (map (λ e. e.region) (part s.entries entries))
  pub tuples : AllByRecursion (Tuple s.tuple_len values) (part s.entries entries)

-- the axis values of a component
pub record AxesFit (pairs : List Pair) (s : Span) : Type 0 where
  pub within : Within (length pairs) s
  pub ascends : AscendingNumbers (map (λ p. p.axis) (part s pairs))

-- a temporary id: the sentinel, or the place of a set
abbrev pub Known : ℕ → TemporaryDeltaSetId → Type 0
Known sets id = (id.0 ≡ 0xFFFFFFFF) ⊎ (id.0 < sets)

-- the ids of a component's two variations, where they are present
pub record IdsKnown {A : Type 0} (sets : ℕ) (c : Component A TemporaryDeltaSetId) : Type 0 where
  pub axis_values_var : IfSome c.axis_values_var (Known sets)
  pub transform_var : IfSome c.transform_var (Known sets)

pub record ComponentFits (pairs : List Pair) (sets : ℕ) (c : Stored) : Type 0 where
  pub gid : c.gid ≤ 0xFFFFFF
  pub axes : IfSome c.axes (AxesFit pairs)
  pub axis_values_var : IfSome c.axis_values_var (Known sets)
  pub transform_var : IfSome c.transform_var (Known sets)

-- an open composite
pub record MarkFits (h : Lists) (m : Mark) : Type 0 where
  pub begun : 0 < length h.composites
  pub components : m.components ≤ length h.components
  pub pairs : m.pairs ≤ length h.pairs

-- the filled part is as it should be
pub record Sound (mark : Option Mark) (h : Lists) : Type 0 where
  pub few : length h.regions ≤ 65535
  pub regions : AllByRecursion (RegionFits h.coordinates) h.regions
  pub entries : AllByRecursion (EntryFits (length h.regions) (length h.values)) h.entries
  pub sets : AllByRecursion (SetFits h.entries (length h.values)) h.sets
  pub components : AllByRecursion (ComponentFits h.pairs (length h.sets)) h.components
  pub composites : AllByRecursion (Within (length h.components)) h.composites
  pub axis_lists : AllByRecursion (Within (length h.pairs)) h.axis_lists
  pub groups : GroupsFit h.entries h.sets
  pub begun : IfSome mark (MarkFits h)

-- no filled count exceeds its list
pub record Counted (n : Counts) (l : Lists) : Type 0 where
  pub coordinates : n.coordinates ≤ length l.coordinates
  pub regions : n.regions ≤ length l.regions
  pub values : n.values ≤ length l.values
  pub entries : n.entries ≤ length l.entries
  pub sets : n.sets ≤ length l.sets
  pub pairs : n.pairs ≤ length l.pairs
  pub components : n.components ≤ length l.components
  pub composites : n.composites ≤ length l.composites
  pub axis_lists : n.axis_lists ≤ length l.axis_lists

-- the test of number 1: the counts and the mark of a job fit the lists that it is handed
pub record Fits (n : Counts) (mark : Option Mark) (l : Lists) : Type 0 where
  pub counted : Counted n l
  pub sound : Sound mark (held n l)
