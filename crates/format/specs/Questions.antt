-- The reader's questions about a whole table's bytes. Each reads the root whole, then the parts that it needs, the fields of a part in
-- byte order, and stops at the first fault.
use Rattle.std.specs.Prelude.{ℕ, zero, suc, ◌-◌, ◌/◌, ◌%◌, cond, List, [], ◌∷◌, length, drop, ℤ, ◌==◌}
use Rattle.format.specs.declared.FaultKind.TheVariants.{Missing}
use Rattle.format.specs.declared.Coordinate.{Coordinate}
use Rattle.format.specs.declared.Transform.{Transform}
use Rattle.format.specs.declared.Layer.TheVariants.{Table, Record}
use Rattle.format.specs.Reads.{Read, got, bad, then}
use Rattle.format.specs.Packed.{unpacked}
use Rattle.format.specs.Index.{item_at, count}
use Rattle.format.specs.Component.{Component, read_component, settled}
use Rattle.format.specs.Store.{store_head, slot_in, region_in}
use Rattle.format.specs.Table.{Root, root}

-- how many composites: no more of their INDEX is read than its count
abbrev pub composites_of : List ℕ → Read ℕ
composites_of bs = then (root bs) (λ r _. count (length bs) (drop r.composites bs))

-- the records of composite i, and the bytes after them
abbrev pub records_of : List ℕ → ℕ → Read (List ℕ)
records_of bs i = then (root bs) (λ r _. item_at bs r.composites i)

-- axis list k, where the root is read
unfoldable pub axis_list_in : List ℕ → Root → ℕ → Read (List ℤ)
axis_list_in bs r k =
    cond (r.axis_lists == 0) (bad Missing 16 Table)
    (then (item_at bs r.axis_lists k) (λ packing after. unpacked (length bs - length after) packing))

-- axis list k
abbrev pub axis_list_of : List ℕ → ℕ → Read (List ℤ)
axis_list_of bs k = then (root bs) (λ r _. axis_list_in bs r k)

-- component j of a composite's records, which end at `end`: the records before it are read in full
abbrev pub component_at : (ℕ → Read (List ℤ)) → ℕ → ℕ → List ℕ → Read Component
component_at axis-list end zero [] = bad Missing end Record
component_at axis-list end (suc j) [] = bad Missing end Record
component_at axis-list end zero (b ∷ bs) = read_component axis-list end (b ∷ bs)
component_at axis-list end (suc j) (b ∷ bs) =
    then (read_component axis-list end (b ∷ bs)) (λ _ rest. component_at axis-list end j rest)

-- component j of composite i
abbrev pub component_of : List ℕ → ℕ → ℕ → Read Component
component_of bs i j =
    then (root bs) (λ r _.
    then (item_at bs r.composites i) (λ records after.
    component_at (axis_list_in bs r) (length bs - length after) j records))

-- its settled transform
abbrev pub settled_of : List ℕ → ℕ → ℕ → Read (Transform ℤ)
settled_of bs i j = then (component_of bs i j) (λ c rest. got (settled c.transform) rest)

-- the tuples of a slot, each with its region's number; the slot 0xFFFFFFFF stands for no variation and has none
abbrev pub tuples_of : List ℕ → ℕ → Read (List (ℕ × List ℤ))
tuples_of bs slot =
    then (root bs) (λ r _.
    cond (slot == 0xFFFFFFFF) (got [] [])
    (cond (r.store == 0) (bad Missing 8 Table)
    (slot_in (length bs) (slot / 65536) (slot % 65536) (drop r.store bs))))

-- region k; the count of subtables is not read
abbrev pub region_of : List ℕ → ℕ → Read (List Coordinate)
region_of bs k =
    then (root bs) (λ r _.
    cond (r.store == 0) (bad Missing 8 Table)
    (then (store_head (length bs) (drop r.store bs)) (λ o _. region_in (length bs) k (drop o (drop r.store bs)))))
