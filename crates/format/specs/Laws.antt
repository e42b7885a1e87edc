-- The laws: what is written reads back.
use Rattle.std.specs.Prelude.{◌≡◌, ℕ, suc, ◌+◌, ◌*◌, ◌^◌, ◌<◌, ◌≤◌, List, [], ◌∷◌, ◌++◌, map, length, get_or, drop, ℤ, pos, Ok, Err, slice_index, slice_index_or}
use Rattle.std.specs.List.{flat_map, AllByRecursion}
use Rattle.write.specs.Bytes.{be}
use Rattle.format.specs.declared.FaultKind.TheVariants.{Missing}
use Rattle.format.specs.declared.Layer.TheVariants.{Table, Store, Index, Record}
use Rattle.format.specs.Reads.{Read, got, bad, between, fault, outcome}
use Rattle.format.specs.Number.{raised, number, read_number}
use Rattle.format.specs.Packed.{packed, unpacked, unpacked_due}
use Rattle.format.specs.Index.{concat, index, item_at, item_end}
use Rattle.format.specs.Component.{Component, component, settled, read_component}
use Rattle.format.specs.Store.{Subtable, region_list, subtable, list_start, subtable_starts}
use Rattle.format.specs.Table.{Content, Root, table, places, root}
use Rattle.format.specs.Fits.{Fits32, AxesFit, ComponentFits, Sound}
use Rattle.format.specs.Questions.{composites_of, records_of, component_of, settled_of, axis_list_of, tuples_of, region_of}

-- ---- numbers

-- a number reads back from its shortest form, and from each longer one
pub record NumberReads (n end : ℕ) (after : List ℕ) : Type 0 where
  pub shortest : read_number end (number n ++ after) ≡ got n after
  pub in_two : n < 0x4000 → read_number end (raised 0x80 (be 2 n) ++ after) ≡ got n after
  pub in_three : n < 0x200000 → read_number end (raised 0xC0 (be 3 n) ++ after) ≡ got n after
  pub in_four : n < 0x10000000 → read_number end (raised 0xE0 (be 4 n) ++ after) ≡ got n after
  pub in_five : read_number end (0xF0 ∷ (be 4 n ++ after)) ≡ got n after

-- whatever follows the number, wherever the bytes end
abbrev pub NumbersReadBack : Type 0
NumbersReadBack = (n : ℕ) → n < 2 ^ 32 → (end : ℕ) (after : List ℕ) → NumberReads n end after

-- ---- packed values

-- values read back to the end of their bytes; and, whatever follows them, where their count is due
abbrev pub PackedReadsBack : Type 0
PackedReadsBack =
    (vs : List ℤ) → AllByRecursion Fits32 vs → (end : ℕ) →
    (unpacked end (packed vs) ≡ got vs []) × ((after : List ℕ) → unpacked_due end (length vs) (packed vs ++ after) ≡ got vs after)

-- ---- INDEX

-- the items of an INDEX that stands after some bytes and before others; an item past the last is fault Missing at the INDEX's start
pub record ItemsRead (items : List (List ℕ)) (before after : List ℕ) : Type 0 where
  pub each_item : (i : ℕ) → i < length items →
      item_at (before ++ (index items ++ after)) (length before) i ≡
      got (slice_index_or items i []) (concat (drop (suc i) items) ++ after)
  pub no_item : (i : ℕ) → length items ≤ i →
      item_at (before ++ (index items ++ after)) (length before) i ≡
      bad Missing (length before) Index

-- its count and its offsets fit 32 bits
abbrev pub IndexReadsBack : Type 0
IndexReadsBack = (items : List (List ℕ)) → length (index items) < 2 ^ 32 → (before after : List ℕ) → ItemsRead items before after

-- ---- components

-- a component reads back with all its fields, whatever follows its record
abbrev pub ComponentsReadBack : Type 0
ComponentsReadBack =
    (axis-list : ℕ → Read (List ℤ)) (c : Component) → ComponentFits (AxesFit axis-list) c → (end : ℕ) (after : List ℕ) →
    read_component axis-list end (component c ++ after) ≡ got c after

-- ---- tables

-- g is the subtable at a place
pub record SubtableAt (k : Content) (outer : ℕ) (g : Subtable) : Type 0 where
  pub there : outer < length k.subtables
  pub is : g ≡ slice_index_or k.subtables outer g

-- each region's number with its tuple
abbrev pub paired : List ℕ → List (List ℤ) → List (ℕ × List ℤ)
paired [] ts = []
paired (r ∷ rs) [] = []
paired (r ∷ rs) (t ∷ ts) = (r, t) ∷ paired rs ts

-- the delta set at place `inner` of a subtable, as its tuples by region
abbrev pub set_of : Subtable → ℕ → List (ℕ × List ℤ)
set_of g inner = paired g.over (slice_index_or g.sets inner [])

-- where the INDEX of a subtable's delta sets stands, in a store at `at`: after the subtable's format, region count and region numbers
abbrev pub sets_place : Content → ℕ → ℕ → Subtable → ℕ
sets_place k at outer g =
    at + slice_index (subtable_starts (region_list k.regions) (map subtable k.subtables)) outer + (3 + 2 * length g.over)

-- What the questions answer about the bytes of a table whose parts stand at `r`. A missing component is at the end of its composite's
-- records; a missing composite, axis list or delta set at the start of its INDEX; a missing subtable or region at the count that it
-- passes; where the table has no store, a missing slot or region is at the store's offset in the root.
pub record ReadBack (k : Content) (r : Root) (bs : List ℕ) : Type 0 where
  pub how_many : outcome (composites_of bs) ≡ Ok (length k.composites)
  pub each_component : (i j : ℕ) (d : Component) → i < length k.composites → j < length (slice_index_or k.composites i []) →
      outcome (component_of bs i j) ≡ Ok (slice_index_or (slice_index_or k.composites i []) j d)
  pub each_transform : (i j : ℕ) (d : Component) → i < length k.composites → j < length (slice_index_or k.composites i []) →
      outcome (settled_of bs i j) ≡ Ok (settled (get_or (slice_index_or k.composites i []) j d).transform)
  pub each_composite : (i : ℕ) → i < length k.composites → outcome (records_of bs i) ≡ Ok (flat_map component (slice_index_or k.composites i []))
  pub no_component : (i j : ℕ) → i < length k.composites → length (slice_index_or k.composites i []) ≤ j →
      outcome (component_of bs i j) ≡ Err (fault Missing (r.composites + item_end (map (flat_map component) k.composites) i) Record)
  pub no_composite : (i j : ℕ) → length k.composites ≤ i → outcome (component_of bs i j) ≡ Err (fault Missing r.composites Index)
  pub each_axis_list : (n : ℕ) → n < length k.axis_lists → outcome (axis_list_of bs n) ≡ Ok (map pos (slice_index_or k.axis_lists n []))
  pub no_axis_list : (n : ℕ) → length k.axis_lists ≤ n → outcome (axis_list_of bs n) ≡ Err (fault Missing r.axis_lists Index)
  pub sentinel : outcome (tuples_of bs 0xFFFFFFFF) ≡ Ok []
  pub each_set : (outer inner : ℕ) (g : Subtable) → SubtableAt k outer g → inner < length g.sets →
      outcome (tuples_of bs (outer * 65536 + inner)) ≡ Ok (set_of g inner)
  pub no_set : (outer inner : ℕ) (g : Subtable) → SubtableAt k outer g → length g.sets ≤ inner → inner < 2 ^ 16 →
      outcome (tuples_of bs (outer * 65536 + inner)) ≡ Err (fault Missing (sets_place k r.store outer g) Index)
  pub no_subtable : (outer inner : ℕ) → 0 < length k.subtables → length k.subtables ≤ outer → inner < 2 ^ 16 → outer * 65536 + inner < 0xFFFFFFFF →
      outcome (tuples_of bs (outer * 65536 + inner)) ≡ Err (fault Missing (r.store + 6) Store)
  pub each_region : (n : ℕ) → 0 < length k.subtables → n < length k.regions → outcome (region_of bs n) ≡ Ok (slice_index_or k.regions n [])
  pub no_region : (n : ℕ) → 0 < length k.subtables → length k.regions ≤ n →
      outcome (region_of bs n) ≡ Err (fault Missing (r.store + list_start (length k.subtables)) Store)
  pub no_store : length k.subtables ≡ 0 →
      ((slot : ℕ) → slot < 0xFFFFFFFF → outcome (tuples_of bs slot) ≡ Err (fault Missing 8 Table)) ×
      ((n : ℕ) → outcome (region_of bs n) ≡ Err (fault Missing 8 Table))

-- the root reads back, and coverage and condition list stand where it says; the condition list's offset is 0 where that has no bytes
pub record PartsStand (coverage conditions : List ℕ) (r : Root) (bs : List ℕ) : Type 0 where
  pub root_reads : outcome (root bs) ≡ Ok r
  pub coverage_stands : between bs r.coverage (r.coverage + length coverage) ≡ coverage
  pub conditions_stand : between bs r.conditions (r.conditions + length conditions) ≡ conditions

-- a table of at most 268,435,455 bytes reads back
abbrev pub TableReadsBack : Type 0
TableReadsBack =
    (k : Content) (coverage conditions : List ℕ) → Sound k → length (table k coverage conditions) ≤ 268435455 →
    ReadBack k (places k coverage conditions) (table k coverage conditions) ×
    PartsStand coverage conditions (places k coverage conditions) (table k coverage conditions)

-- Tables of equal bytes were written from the same composites, and the same delta set at each slot, whatever coverage and conditions
-- each had.
abbrev pub TablesTellApart : Type 0
TablesTellApart =
    (k k' : Content) (coverage conditions coverage' conditions' : List ℕ) → Sound k → Sound k' →
    length (table k coverage conditions) ≤ 268435455 → length (table k' coverage' conditions') ≤ 268435455 →
    table k coverage conditions ≡ table k' coverage' conditions' →
    (k.composites ≡ k'.composites) ×
    ((outer inner : ℕ) (g : Subtable) → SubtableAt k outer g → inner < length g.sets →
    (g' : Subtable) × SubtableAt k' outer g' × (inner < length g'.sets) × (set_of g inner ≡ set_of g' inner))
