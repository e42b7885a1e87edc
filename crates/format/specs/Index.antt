-- An INDEX (CFF2): a count, an offset size, offsets from 1, and the items' bytes end to end.
use Rattle.std.specs.Prelude.{ℕ, zero, suc, ◌+◌, ◌-◌, ◌*◌, Bool, cond, ◌||◌, List, [], ◌∷◌, ◌++◌, length, take, drop, nat_eq, nat_le, nat_lt, slice_index_or}
use Rattle.std.specs.List.{flat_map}
use Rattle.write.specs.Bytes.{be}
use Rattle.format.specs.declared.FaultKind.TheVariants.{Missing, Past, Wrong}
use Rattle.format.specs.declared.Layer.TheVariants.{Index}
use Rattle.format.specs.Reads.{Read, got, bad, then, fixed}

-- lists end to end
abbrev pub concat : {X : Type 0} → List (List X) → List X
concat items = flat_map (λ x. x) items

-- the places where the items begin, and where the last one ends, counted from `at`
abbrev pub offsets : ℕ → List (List ℕ) → List ℕ
offsets at [] = at ∷ []
offsets at (x ∷ xs) = at ∷ offsets (at + length x) xs

-- the least size of 1 to 4 bytes that holds the last offset
abbrev pub offset_size : ℕ → ℕ
offset_size last = cond (nat_lt last 0x100) 1 (cond (nat_lt last 0x10000) 2 (cond (nat_lt last 0x1000000) 3 4))

-- the offset size of these items
abbrev pub size_of : List (List ℕ) → ℕ
size_of items = offset_size (1 + length (concat items))

-- the count in 32 bits, the offset size in 8, the offsets, the items; an empty one is its count alone
unfoldable pub index : List (List ℕ) → List ℕ
index [] = be 4 0
index (x ∷ xs) =
    let items = x ∷ xs in
    be 4 (length items) ++ (be 1 (size_of items) ++ (flat_map (be (size_of items)) (offsets 1 items) ++ concat items))

-- where item i ends, counted from the INDEX's start
abbrev pub item_end : List (List ℕ) → ℕ → ℕ
item_end items i = 5 + (length items + 1) * size_of items + length (concat (take (suc i) items))

-- ---- reading

-- an offset: not past the bytes, and passing a test
abbrev pub read_offset : ℕ → ℕ → (ℕ → Bool) → (ℕ → Bool) → List ℕ → Read ℕ
read_offset end size past test bs =
    then (fixed Index end size bs) (λ o rest.
    cond (past o) (bad Past (end - length bs) Index) (cond (test o) (got o rest) (bad Wrong (end - length bs) Index)))

-- n offsets, the first passing a test, each other not below the one before
unfoldable pub read_offsets : ℕ → ℕ → (ℕ → Bool) → (ℕ → Bool) → ℕ → List ℕ → Read (List ℕ)
read_offsets end size past test zero bs = got [] bs
read_offsets end size past test (suc n) bs =
    then (read_offset end size past test bs) (λ o rest.
    then (read_offsets end size past (nat_le o) n rest) (λ os rest'. got (o ∷ os) rest'))

-- is the offset size wrong?
abbrev pub wrong_size : ℕ → Bool
wrong_size size = nat_le size 0 || nat_lt 4 size

-- how many items the INDEX has that the bytes begin with
abbrev pub count : ℕ → List ℕ → Read ℕ
count end bs = fixed Index end 4 bs

-- Item i of that INDEX: its bytes, and the bytes after it; `end` is the table's end.
-- There is no item i where i is not below the count. Else all count + 1 offsets are read and tested: the first is 1, none falls, and
-- none is past. The data begin after 5 + (count + 1) * size bytes, and offset o leads to o - 1 bytes further.
unfoldable pub item : ℕ → ℕ → List ℕ → Read (List ℕ)
item end i bs =
    then (count end bs) (λ n rest.
    cond (nat_le n i) (bad Missing (end - length bs) Index)
    (then (fixed Index end 1 rest) (λ size rest'.
    cond (wrong_size size) (bad Wrong (end - length rest) Index)
    (then (read_offsets end size (λ o. nat_lt (length bs) (4 + (n + 1) * size + o)) (nat_eq 1) (suc n) rest') (λ os items.
    let a = slice_index_or os i 0 in
    let b = slice_index_or os (suc i) 0 in
    got (take (b - a) (drop (a - 1) items)) (drop (b - 1) items))))))

-- item i of the INDEX at a place in a table
abbrev pub item_at : List ℕ → ℕ → ℕ → Read (List ℕ)
item_at bs place i = item (length bs) i (drop place bs)
