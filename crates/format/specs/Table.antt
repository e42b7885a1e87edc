-- The table: its root, then coverage, variation store, condition list, axis list INDEX and composite INDEX, without padding.
use Rattle.std.specs.Prelude.{ℕ, ◌+◌, true, false, cond, List, [], ◌∷◌, map, length, pos, ◌==◌}
use Rattle.std.specs.List.{flat_map}
use Rattle.write.specs.Bytes.{be}
use Rattle.format.specs.declared.FaultKind.TheVariants.{Wrong}
use Rattle.format.specs.declared.Coordinate.{Coordinate}
use Rattle.format.specs.declared.Layer.TheVariants.{Table}
use Rattle.format.specs.Reads.{Read, got, bad, then, fixed, part_offset}
use Rattle.format.specs.Packed.{packed}
use Rattle.format.specs.Index.{concat, index}
use Rattle.format.specs.Component.{Component, component}
use Rattle.format.specs.Store.{Subtable, store_of}

-- What a table holds besides its coverage and condition bytes. A delta set stands at a slot: outer * 65536 + inner, outer the place of its
-- subtable, inner its place in it. An axis list has axis numbers. A composite has its components in order.
pub record Content : Type 0 where
  pub regions : List (List Coordinate)
  pub subtables : List Subtable
  pub axis_lists : List (List ℕ)
  pub composites : List (List Component)

-- ---- writing

-- the variation store
unfoldable pub store : Content → List ℕ
store k = store_of k.regions k.subtables

-- each axis list is one packing
unfoldable pub axis_index : Content → List ℕ
axis_index k = index (map (λ axes. packed (map pos axes)) k.axis_lists)

-- each composite is its records, end to end
unfoldable pub composite_index : Content → List ℕ
composite_index k = index (map (flat_map component) k.composites)

-- the five offsets of the root, from the table's start
pub record Root : Type 0 where
  pub coverage : ℕ
  pub store : ℕ
  pub conditions : ℕ
  pub axis_lists : ℕ
  pub composites : ℕ

-- the place of a part, or 0 where it has no bytes
abbrev pub place_of : ℕ → List ℕ → ℕ
place_of at [] = 0
place_of at (b ∷ bs) = at

-- the offsets of parts that follow the root's 24 bytes
abbrev pub root_of : List ℕ → List ℕ → List ℕ → List ℕ → Root
root_of coverage stores conditions axes =
    let p₁ = 24 + length coverage in
    let p₂ = p₁ + length stores in
    let p₃ = p₂ + length conditions in
    record {
      coverage = 24;
      store = place_of p₁ stores;
      conditions = place_of p₂ conditions;
      axis_lists = p₃;
      composites = p₃ + length axes;
    }

-- version 1.0 and the root's offsets, 32 bits each, then the parts
abbrev pub laid_out : List ℕ → List ℕ → List ℕ → List ℕ → List ℕ → List (List ℕ)
laid_out coverage stores conditions axes composites =
    let r = root_of coverage stores conditions axes in
    be 4 0x10000 ∷ be 4 r.coverage ∷ be 4 r.store ∷ be 4 r.conditions ∷ be 4 r.axis_lists ∷ be 4 r.composites ∷
    coverage ∷ stores ∷ conditions ∷ axes ∷ composites ∷ []

-- the table's bytes, from its content, coverage and condition list
unfoldable pub table : Content → List ℕ → List ℕ → List ℕ
table k coverage conditions = concat (laid_out coverage (store k) conditions (axis_index k) (composite_index k))

-- where that table's parts stand
abbrev pub places : Content → List ℕ → List ℕ → Root
places k coverage conditions = root_of coverage (store k) conditions (axis_index k)

-- ---- reading

-- The root, whole: coverage and composites are needed, the other parts may be absent.
unfoldable pub root : List ℕ → Read Root
root bs =
    let end = length bs in
    then (fixed Table end 4 bs) (λ version r₁.
    cond (version == 0x10000)
    (then (part_offset Table end true bs r₁) (λ coverage r₂.
    then (part_offset Table end false bs r₂) (λ store r₃.
    then (part_offset Table end false bs r₃) (λ conditions r₄.
    then (part_offset Table end false bs r₄) (λ axis_lists r₅.
    then (part_offset Table end true bs r₅) (λ composites rest.
    got (record {
      coverage = coverage;
      store = store;
      conditions = conditions;
      axis_lists = axis_lists;
      composites = composites;
    }) rest))))))
    (bad Wrong 0 Table))
