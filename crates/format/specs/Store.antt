-- The variation store (MultiItemVariationStore): regions, and subtables of delta sets.
use Rattle.std.specs.Prelude.{ℕ, suc, ◌+◌, ◌-◌, ◌*◌, ◌/◌, ◌%◌, true, cond, List, [], ◌∷◌, ◌++◌, map, length, take, drop, ℤ, ◌==◌, nat_le}
use Rattle.std.specs.Int.{w16}
use Rattle.std.proofs.Common.{to_z}
use Rattle.std.specs.List.{flat_map}
use Rattle.write.specs.Bytes.{be, signed16}
use Rattle.format.specs.declared.FaultKind.TheVariants.{Missing, Wrong}
use Rattle.format.specs.declared.Coordinate.{Coordinate}
use Rattle.format.specs.declared.Layer.TheVariants.{Store}
use Rattle.format.specs.Reads.{Read, got, bad, then, put_at, fixed, many, part_offset}
use Rattle.format.specs.Packed.{packed, unpacked}
use Rattle.format.specs.Index.{concat, index, item}

-- A subtable (MultiItemVariationData): delta sets over one list of regions, which go by their numbers. A delta set has a tuple for each
-- of these regions, all of one length.
pub record Subtable : Type 0 where
  pub over : List ℕ
  pub sets : List (List (List ℤ))

-- ---- writing

-- the places where parts begin that lie end to end from `at` on
abbrev pub starts : ℕ → List (List ℕ) → List ℕ
starts at [] = []
starts at (x ∷ xs) = at ∷ starts (at + length x) xs

-- one axis of a region: the axis number, start, peak and end, 16 bits each
abbrev pub coordinate : Coordinate → List ℕ
coordinate c = concat (be 2 c.axis ∷ signed16 c.start ∷ signed16 c.peak ∷ signed16 c.end ∷ [])

-- a region: how many axes in 16 bits, and the axes
unfoldable pub region : List Coordinate → List ℕ
region cs = be 2 (length cs) ++ flat_map coordinate cs

-- the region list: a count in 16 bits, a 32-bit offset for each region from the list's start, and the regions
abbrev pub list_parts : List (List ℕ) → List (List ℕ)
list_parts regions = be 2 (length regions) ∷ flat_map (be 4) (starts (2 + 4 * length regions) regions) ∷ regions

-- the region list of these regions
unfoldable pub region_list : List (List Coordinate) → List ℕ
region_list rs = concat (list_parts (map region rs))

-- a delta set is one packing of its tuples, end to end
abbrev pub set_bytes : List (List ℤ) → List ℕ
set_bytes tuples = packed (concat tuples)

-- a subtable: format 1 in 8 bits, the count of its regions and their numbers in 16, the INDEX of its delta sets
unfoldable pub subtable : Subtable → List ℕ
subtable g = concat (be 1 1 ∷ be 2 (length g.over) ∷ flat_map (be 2) g.over ∷ index (map set_bytes g.sets) ∷ [])

-- where the region list stands, counted from the store's start: after format, offset, count and n offsets
abbrev pub list_start : ℕ → ℕ
list_start n = 8 + 4 * n

-- where the subtables stand, counted from the store's start: after the region list
abbrev pub subtable_starts : List ℕ → List (List ℕ) → List ℕ
subtable_starts list subtables = starts (list_start (length subtables) + length list) subtables

-- the store: format 1 in 16 bits, the region list's offset in 32, the count of subtables in 16, a 32-bit offset for each, from the
-- store's start; then the region list and the subtables
abbrev pub store_parts : List ℕ → List (List ℕ) → List (List ℕ)
store_parts list subtables =
    be 2 1 ∷ be 4 (list_start (length subtables)) ∷ be 2 (length subtables) ∷
    flat_map (be 4) (subtable_starts list subtables) ∷ list ∷ subtables

-- no bytes where there are no delta sets, even where there are regions
abbrev pub store_of : List (List Coordinate) → List Subtable → List ℕ
store_of rs [] = []
store_of rs (g ∷ gs) = concat (store_parts (region_list rs) (map subtable (g ∷ gs)))

-- ---- reading; `end` is the table's end

-- the values by region, as many for each
abbrev pub by_region : ℕ → List ℕ → List ℤ → List (ℕ × List ℤ)
by_region size [] vs = []
by_region size (r ∷ rs) vs = (r, take size vs) ∷ by_region size rs (drop size vs)

-- The tuples of a delta set: the numbers of its regions, its packing, and the place where that ends. The regions divide the values.
-- Over no regions there are no tuples, and the packing is not decoded.
abbrev pub tuples_in : List ℕ → List ℕ → ℕ → Read (List (ℕ × List ℤ))
tuples_in [] packing end = got [] []
tuples_in (r ∷ rs) packing end =
    let n = suc (length rs) in
    then (unpacked end packing) (λ vs rest.
    cond (length vs % n == 0) (got (by_region (length vs / n) (r ∷ rs) vs) rest) (bad Wrong (end - length packing) Store))

-- delta set `inner` of the subtable that the bytes begin with
unfoldable pub set_in : ℕ → ℕ → List ℕ → Read (List (ℕ × List ℤ))
set_in end inner bs =
    then (fixed Store end 1 bs) (λ format r₁.
    cond (format == 1)
    (then (fixed Store end 2 r₁) (λ n r₂.
    then (many (fixed Store end 2) n r₂) (λ regions r₃.
    then (item end inner r₃) (λ packing after. tuples_in regions packing (end - length after)))))
    (bad Wrong (end - length bs) Store))

-- the head of a store, up to its count of subtables: the region list's offset
abbrev pub store_head : ℕ → List ℕ → Read ℕ
store_head end bs =
    then (fixed Store end 2 bs) (λ format rest.
    cond (format == 1) (part_offset Store end true bs rest) (bad Wrong (end - length bs) Store))

-- the offset at place k of an array of 32-bit offsets, counted from the start of the bytes `from`
abbrev pub part_offset_at : ℕ → ℕ → List ℕ → List ℕ → Read ℕ
part_offset_at end k from bs = put_at (end - length bs + 4 * k) (part_offset Store end true from (drop (4 * k) bs))

-- the tuples of a slot of the store that the bytes begin with: of its subtables' offsets only the one at `outer` is read
unfoldable pub slot_in : ℕ → ℕ → ℕ → List ℕ → Read (List (ℕ × List ℤ))
slot_in end outer inner bs =
    then (store_head end bs) (λ _ r₁.
    then (fixed Store end 2 r₁) (λ n r₂.
    cond (nat_le n outer) (bad Missing (end - length r₁) Store)
    (then (part_offset_at end outer bs r₂) (λ o _. set_in end inner (drop o bs)))))

-- a signed number of 16 bits
abbrev pub read_signed : ℕ → List ℕ → Read ℤ
read_signed end bs = then (fixed Store end 2 bs) (λ n rest. got (to_z w16 n) rest)

-- one axis of a region
abbrev pub read_coordinate : ℕ → List ℕ → Read Coordinate
read_coordinate end bs =
    then (fixed Store end 2 bs) (λ axis r₁.
    then (read_signed end r₁) (λ start r₂.
    then (read_signed end r₂) (λ peak r₃.
    then (read_signed end r₃) (λ stop rest. got (record { axis = axis; start = start; peak = peak; end = stop }) rest))))

-- region k of the region list that the bytes begin with
unfoldable pub region_in : ℕ → ℕ → List ℕ → Read (List Coordinate)
region_in end k bs =
    then (fixed Store end 2 bs) (λ n r₁.
    cond (nat_le n k) (bad Missing (end - length bs) Store)
    (then (part_offset_at end k bs r₁) (λ o _.
    then (fixed Store end 2 (drop o bs)) (λ axes r₂. many (read_coordinate end) axes r₂))))
