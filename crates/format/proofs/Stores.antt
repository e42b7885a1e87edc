-- The tuples of a set and the coordinates of a region read back from a store.
use Rattle.std.proofs.Common.{◌≡◌, ℕ, zero, suc, ◌+◌, ◌-◌, ◌*◌, ◌/◌, ◌%◌, ◌^◌, ◌<◌, ◌≤◌, true, List, [], ◌∷◌, ◌++◌, map, length, get_or, take, drop, ℤ, refl, ap, ◌∙◌, append_assoc, arith, length-append, length-drop, w16}
use native.Mathlib.Nat.{mul-mod_right, mul-div_right}
use Rattle.std.proofs.lemmas.List.{get_or-map, length-map, drop_at, take_at, drop-drop}
use Rattle.std.proofs.ByRecursion.{All-get_or, All-append}
use Rattle.std.proofs.lemmas.Bool.{ne_eqb, eq-eqb, lt-leb, le-leb}
use Rattle.std.specs.List.{flat_map, AllByRecursion}
use Rattle.format.specs.declared.FaultKind.TheVariants.{Missing}
use Rattle.format.specs.declared.Coordinate.{Coordinate}
use Rattle.write.specs.Bytes.{be, signed16}
use Rattle.format.specs.declared.Layer.TheVariants.{Store, Index}
use Rattle.format.specs.Reads.{got, bad, then, fixed, many}
use Rattle.format.specs.Index.{concat, index}
use Rattle.format.specs.Store.{Subtable, starts, coordinate, region, list_parts, region_list, set_bytes, subtable, subtable_starts, store_parts, by_region, tuples_in, set_in, store_head, part_offset_at, slot_in, read_coordinate, region_in}
use Rattle.format.specs.Fits.{Fits32, SetFits, SubtableFits, CoordinateFits}
use Rattle.format.specs.Laws.{paired}
use Rattle.format.proofs.Fixed.{fixed_reads, signed_reads, length-be, many_read}
use Rattle.format.proofs.Packs.{packs}
use Rattle.format.proofs.Indexes.{index_some, items_read}
use Rattle.format.proofs.Roots.{drop-part, part_reads}
use Rattle.format.proofs.Composites.{mapped_item}

-- ---- the tuples of a packing

concat_all : {X : Type 0} (P : X → Type 0) (size : ℕ) (ts : List (List X)) → AllByRecursion (λ t. (length t ≡ size) × AllByRecursion P t) ts → AllByRecursion P (concat ts)
concat_all P size [] h = tt
concat_all P size (t ∷ ts) h = All-append P t (concat ts) h.0.1 (concat_all P size ts h.1)

concat-length : {X : Type 0} (P : X → Type 0) (size : ℕ) (ts : List (List X)) → AllByRecursion (λ t. (length t ≡ size) × AllByRecursion P t) ts → length (concat ts) ≡ length ts * size
concat-length P size [] h = omega arith
concat-length P size (t ∷ ts) h = omega (arith, length-append t (concat ts), h.0.0, concat-length P size ts h.1)

by_region_is : (P : ℤ → Type 0) (size : ℕ) (rs : List ℕ) (ts : List (List ℤ)) → length ts ≡ length rs → AllByRecursion (λ t. (length t ≡ size) × AllByRecursion P t) ts → by_region size rs (concat ts) ≡ paired rs ts
by_region_is P size [] ts e h = refl
by_region_is P size (r ∷ rs) [] e h = absurd (omega arith)
by_region_is P size (r ∷ rs) (t ∷ ts) e h =
    rw (take_at t (concat ts) size h.0.0, drop_at t (concat ts) size h.0.0, by_region_is P size rs ts (omega arith) h.1)

tuples_read : (over : List ℕ) (ts : List (List ℤ)) → SetFits (length over) ts → (end : ℕ) → tuples_in over (set_bytes ts) end ≡ got (paired over ts) []
tuples_read [] ts f end = refl
tuples_read (r ∷ rs) ts f end =
    let e : length (concat ts) ≡ suc (length rs) * f.size = concat-length Fits32 f.size ts f.same_size ∙ ap (λ (m : ℕ). m * f.size) f.each_region in
    let m : length (concat ts) % suc (length rs) ≡ 0 = ap (λ (m : ℕ). m % suc (length rs)) e ∙ mul-mod_right (suc (length rs)) f.size in
    let d : length (concat ts) / suc (length rs) ≡ f.size = ap (λ (m : ℕ). m / suc (length rs)) e ∙ mul-div_right f.size (omega arith) in
    rw ((packs (concat ts) (concat_all Fits32 f.size ts f.same_size) end).0, eq-eqb (length (concat ts) % suc (length rs)) 0 m)
    (ap (λ (m : ℕ). got (by_region m (r ∷ rs) (concat ts)) []) d ∙ ap (λ (x : List (ℕ × List ℤ)). got x []) (by_region_is Fits32 f.size (r ∷ rs) ts f.each_region f.same_size))

-- ---- a subtable

subtable_is : (g : Subtable) (after : List ℕ) → subtable g ++ after ≡ be 1 1 ++ (be 2 (length g.over) ++ (flat_map (be 2) g.over ++ (index (map set_bytes g.sets) ++ after)))
unfolding subtable
subtable_is g after = simp append_assoc

pub set_reads : (end : ℕ) (g : Subtable) → SubtableFits g → (inner : ℕ) → inner < length g.sets → length (index (map set_bytes g.sets)) < 2 ^ 32 → (after : List ℕ) →
    set_in end inner (subtable g ++ after) ≡ got (paired g.over (get_or g.sets inner [])) []
unfolding set_in
set_reads end g f inner lt short after =
    rw (
      subtable_is g after,
      fixed_reads Store end 1 1 (omega arith) _,
      fixed_reads Store end 2 (length g.over) f.few_regions _,
      many_read (λ r. r < 2 ^ 16) (be 2) (fixed Store end 2) (λ x h r. fixed_reads Store end 2 x h r) g.over f.regions_fit _,
      mapped_item set_bytes g.sets end inner [] after short lt,
    )
    (tuples_read g.over (get_or g.sets inner []) (All-get_or (SetFits (length g.over)) g.sets inner [] lt f.sets_fit) _)

pub set_none : (end : ℕ) (g : Subtable) → SubtableFits g → (inner : ℕ) → length g.sets ≤ inner → length (index (map set_bytes g.sets)) < 2 ^ 32 → (after : List ℕ) →
    set_in end inner (subtable g ++ after) ≡ bad Missing (end - length (index (map set_bytes g.sets) ++ after)) Index
unfolding set_in
set_none end g f inner le short after =
    rw (
      subtable_is g after,
      fixed_reads Store end 1 1 (omega arith) _,
      fixed_reads Store end 2 (length g.over) f.few_regions _,
      many_read (λ r. r < 2 ^ 16) (be 2) (fixed Store end 2) (λ x h r. fixed_reads Store end 2 x h r) g.over f.regions_fit _,
      (items_read (map set_bytes g.sets) short end after inner).1 (rw (length-map g.sets set_bytes) le),
    )

length-numbers : (k : ℕ) (ns : List ℕ) → length (flat_map (be k) ns) ≡ k * length ns
length-numbers k [] = omega arith
length-numbers k (n ∷ ns) = simp (length-append, length-be, length-numbers k ns) (omega arith)

pub subtable-bytes : (g : Subtable) → (0 < length (index (map set_bytes g.sets))) × (length (subtable g) ≡ 3 + 2 * length g.over + length (index (map set_bytes g.sets)))
unfolding subtable
subtable-bytes g = (index_some (map set_bytes g.sets), simp (length-append, length-be, length-numbers) (omega arith))

-- ---- arrays of offsets

pub within : (p : ℕ) (bs x y : List ℕ) → drop p bs ≡ x ++ y → 0 < length x → p < length bs
within p bs x y e h = omega (arith, simp (length-drop, length-append) at (ap length e))

pub part_le : (p : ℕ) (bs x y : List ℕ) → drop p bs ≡ x ++ y → length x ≤ length bs
part_le p bs x y e = omega (arith, simp (length-drop, length-append) at (ap length e))

start_is : (at : ℕ) (xs : List (List ℕ)) (i : ℕ) → i < length xs → get_or (starts at xs) i 0 ≡ at + length (concat (take i xs))
start_is at [] i h = absurd (omega arith)
start_is at (x ∷ xs) zero h = omega arith
start_is at (x ∷ xs) (suc i) h = rw (start_is (at + length x) xs i (omega arith), length-append) (omega arith)

length-starts : (at : ℕ) (xs : List (List ℕ)) → length (starts at xs) ≡ length xs
length-starts at [] = refl
length-starts at (x ∷ xs) = ap suc (length-starts (at + length x) xs)

drop_field : (os : List ℕ) (i : ℕ) (rest : List ℕ) → i < length os → drop (4 * i) (flat_map (be 4) os ++ rest) ≡ be 4 (get_or os i 0) ++ (flat_map (be 4) (drop (suc i) os) ++ rest)
drop_field [] i rest h = absurd (omega arith)
drop_field (o ∷ os) zero rest h = append_assoc (be 4 o) (flat_map (be 4) os) rest
drop_field (o ∷ os) (suc i) rest h =
    let e : 4 * suc i ≡ 4 + 4 * i = omega arith in
    rw (e, append_assoc (be 4 o) (flat_map (be 4) os) rest, ← (drop-drop (4 * i) 4 (be 4 o ++ (flat_map (be 4) os ++ rest))), drop_at (be 4 o) (flat_map (be 4) os ++ rest) 4 (length-be 4 o)) (drop_field os i rest (omega arith))

part_offset_at_reads : (end i : ℕ) (from os rest : List ℕ) → i < length os → 0 < get_or os i 0 → get_or os i 0 < length from → length from < 2 ^ 32 →
    part_offset_at end i from (flat_map (be 4) os ++ rest) ≡ got (get_or os i 0) (flat_map (be 4) (drop (suc i) os) ++ rest)
part_offset_at_reads end i from os rest lt p h small =
    rw (drop_field os i rest lt, part_reads Store end true from (get_or os i 0) _ (omega arith) h (ne_eqb (get_or os i 0) 0 (omega arith)))

-- ---- the store

store_head_reads : (end : ℕ) (bs : List ℕ) (o : ℕ) (rest : List ℕ) → bs ≡ be 2 1 ++ (be 4 o ++ rest) → 0 < o → o < length bs → length bs < 2 ^ 32 → store_head end bs ≡ got o rest
store_head_reads end bs o rest e p h small =
    let e₀ : fixed Store end 2 bs ≡ got 1 (be 4 o ++ rest) = ap (fixed Store end 2) e ∙ fixed_reads Store end 2 1 (omega arith) _ in
    rw (e₀, part_reads Store end true bs o rest (omega arith) h (ne_eqb o 0 (omega arith)))

-- bytes that begin with a store, of this region list and these subtables
pub record Laid (list : List ℕ) (subtables : List (List ℕ)) (after bs : List ℕ) : Type 0 where
  pub is : bs ≡ concat (store_parts list subtables) ++ after
  pub some : 0 < length list
  pub few : length subtables < 2 ^ 16
  pub short : length bs < 2 ^ 32

module _ (list : List ℕ) (subtables : List (List ℕ)) (after bs : List ℕ) (laid : Laid list subtables after bs) where
  abbrev head : ℕ
  head = 8 + 4 * length subtables

  abbrev places : List ℕ
  places = subtable_starts list subtables

  fours : length (flat_map (be 4) (subtable_starts list subtables)) ≡ 4 * length subtables
  fours = length-numbers 4 places ∙ ap (λ (n : ℕ). 4 * n) (length-starts (head + length list) subtables)

  pub list_at : drop head bs ≡ list ++ (concat subtables ++ after)
  list_at = rw laid.is (drop-part (store_parts list subtables) after 4 head (omega arith) (simp (length-append, length-be, fours) (omega arith)))

  pub subtable_at : (i : ℕ) → i < length subtables → drop (get_or places i 0) bs ≡ get_or subtables i [] ++ (concat (drop (suc i) subtables) ++ after)
  subtable_at i lt =
      rw laid.is (drop-part (store_parts list subtables) after (suc (suc (suc (suc (suc i))))) (get_or places i 0) (omega arith)
      (simp (length-append, length-be, fours, start_is (head + length list) subtables i lt) (omega arith)))

  pub head_is : (end : ℕ) → store_head end bs ≡ got head (be 2 (length subtables) ++ (flat_map (be 4) places ++ (list ++ (concat subtables ++ after))))
  head_is end = store_head_reads end bs head _ (laid.is ∙ simp append_assoc) (omega arith) (within head bs list _ list_at laid.some) laid.short

  pub slot_none : (end outer inner : ℕ) → length subtables ≤ outer → slot_in end outer inner bs ≡ bad Missing (end - (length bs - 6)) Store
  unfolding slot_in
  slot_none end outer inner le =
      let rest = be 2 (length subtables) ++ (flat_map (be 4) places ++ (list ++ (concat subtables ++ after))) in
      let n : length bs - 6 ≡ length rest = rw laid.is (simp (length-append, length-be) (omega arith)) in
      rw (head_is end, fixed_reads Store end 2 (length subtables) laid.few _, le-leb (length subtables) outer le, n)

  pub slot_reads : (end outer inner : ℕ) → outer < length subtables → 0 < length (get_or subtables outer []) → slot_in end outer inner bs ≡ set_in end inner (get_or subtables outer [] ++ (concat (drop (suc outer) subtables) ++ after))
  unfolding slot_in
  slot_reads end outer inner lt p =
      let q : 0 < get_or places outer 0 = omega (arith, start_is (head + length list) subtables outer lt) in
      rw (
        head_is end,
        fixed_reads Store end 2 (length subtables) laid.few _,
        lt-leb (length subtables) outer lt,
        part_offset_at_reads end outer bs places (list ++ (concat subtables ++ after)) (rw (length-starts (head + length list) subtables) lt) q (within _ bs (get_or subtables outer []) _ (subtable_at outer lt) p) laid.short,
        subtable_at outer lt,
      )

-- ---- regions

coordinate_reads : (end : ℕ) (c : Coordinate) → CoordinateFits c → (rest : List ℕ) → read_coordinate end (coordinate c ++ rest) ≡ got c rest
coordinate_reads end c f rest =
    let e : coordinate c ++ rest ≡ be 2 c.axis ++ (signed16 c.start ++ (signed16 c.peak ++ (signed16 c.end ++ rest))) = simp append_assoc in
    rw (
      e,
      fixed_reads Store end 2 c.axis f.axis_fits _,
      signed_reads Store end w16 c.start 2 refl f.start_fits _,
      signed_reads Store end w16 c.peak 2 refl f.peak_fits _,
      signed_reads Store end w16 c.end 2 refl f.end_fits rest,
    )

pub region-bytes : (cs : List Coordinate) → 0 < length (region cs)
unfolding region
region-bytes cs = simp (length-append, length-be) (omega arith)

region_is : (cs : List Coordinate) (rest : List ℕ) → region cs ++ rest ≡ be 2 (length cs) ++ (flat_map coordinate cs ++ rest)
unfolding region
region_is cs rest = append_assoc (be 2 (length cs)) (flat_map coordinate cs) rest

module _ (rs : List (List ℕ)) (after bs : List ℕ) (is : bs ≡ concat (list_parts rs) ++ after) (few : length rs < 2 ^ 16) (short : length bs < 2 ^ 32) where
  abbrev spots : List ℕ
  spots = starts (2 + 4 * length rs) rs

  spots-length : length (flat_map (be 4) (starts (2 + 4 * length rs) rs)) ≡ 4 * length rs
  spots-length = length-numbers 4 spots ∙ ap (λ (n : ℕ). 4 * n) (length-starts (2 + 4 * length rs) rs)

  region_at : (i : ℕ) → i < length rs → drop (get_or spots i 0) bs ≡ get_or rs i [] ++ (concat (drop (suc i) rs) ++ after)
  region_at i lt =
      rw is (drop-part (list_parts rs) after (suc (suc i)) (get_or spots i 0) (omega arith)
      (simp (length-append, length-be, spots-length, start_is (2 + 4 * length rs) rs i lt) (omega arith)))

  list-head : (end : ℕ) → fixed Store end 2 bs ≡ got (length rs) (flat_map (be 4) spots ++ (concat rs ++ after))
  list-head end = ap (fixed Store end 2) (is ∙ simp append_assoc) ∙ fixed_reads Store end 2 (length rs) few _

  region_found : (end i : ℕ) → i < length rs → 0 < length (get_or rs i []) →
      region_in end i bs ≡ then (fixed Store end 2 (get_or rs i [] ++ (concat (drop (suc i) rs) ++ after))) (λ axes rest. many (read_coordinate end) axes rest)
  unfolding region_in
  region_found end i lt p =
      let q : 0 < get_or spots i 0 = omega (arith, start_is (2 + 4 * length rs) rs i lt) in
      rw (
        list-head end,
        lt-leb (length rs) i lt,
        part_offset_at_reads end i bs spots (concat rs ++ after) (rw (length-starts (2 + 4 * length rs) rs) lt) q (within _ bs (get_or rs i []) _ (region_at i lt) p) short,
        region_at i lt,
      )

  region_lacks : (end i : ℕ) → length rs ≤ i → region_in end i bs ≡ bad Missing (end - length bs) Store
  unfolding region_in
  region_lacks end i le = rw (list-head end, le-leb (length rs) i le)

pub region_none : (regions : List (List Coordinate)) (after bs : List ℕ) → bs ≡ region_list regions ++ after → length regions < 2 ^ 16 → length bs < 2 ^ 32 →
    (end i : ℕ) → length regions ≤ i → region_in end i bs ≡ bad Missing (end - length bs) Store
unfolding region_list
region_none regions after bs is few short end i le =
    let n : length (map region regions) ≡ length regions = length-map regions region in
    region_lacks (map region regions) after bs is (omega arith) short end i (omega arith)

pub region_reads : (regions : List (List Coordinate)) (after bs : List ℕ) → bs ≡ region_list regions ++ after → length regions < 2 ^ 16 → length bs < 2 ^ 32 →
    AllByRecursion (λ cs. (length cs < 2 ^ 16) × AllByRecursion CoordinateFits cs) regions → (end i : ℕ) → i < length regions →
    region_in end i bs ≡ got (get_or regions i []) (concat (drop (suc i) (map region regions)) ++ after)
unfolding region_list
region_reads regions after bs is few short fits end i lt =
    let n : length (map region regions) ≡ length regions = length-map regions region in
    let it : get_or (map region regions) i [] ≡ region (get_or regions i []) = get_or-map region regions i [] [] lt in
    let f = All-get_or (λ cs. (length cs < 2 ^ 16) × AllByRecursion CoordinateFits cs) regions i [] lt fits in
    region_found (map region regions) after bs is (omega arith) short end i (omega arith) (rw it (region-bytes (get_or regions i []))) ∙
    rw (it, region_is, fixed_reads Store end 2 (length (get_or regions i [])) f.0 _) (many_read CoordinateFits coordinate (read_coordinate end) (coordinate_reads end) (get_or regions i []) f.1 _)
