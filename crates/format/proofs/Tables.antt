-- The whole table reads back.
use Rattle.std.proofs.Common.{◌≡◌, ℕ, suc, ◌+◌, ◌-◌, ◌*◌, ◌/◌, ◌%◌, ◌^◌, ◌<◌, ◌≤◌, true, false, eqb, List, [], ◌∷◌, ◌++◌, map, length, get_or, drop, Ok, Err, sym, refl, ap, ◌∙◌, subst, ⊎_elim, arith, length-append, length-drop}
use Rattle.std.proofs.lemmas.List.{get_or-map, length-map}
use Rattle.std.proofs.ByRecursion.{All-get_or}
use Rattle.std.proofs.lemmas.Bool.{ne_eqb, cases_lt}
use Rattle.format.specs.declared.FaultKind.TheVariants.{Missing}
use Rattle.format.specs.declared.Coordinate.{Coordinate}
use Rattle.format.specs.declared.Layer.TheVariants.{Table, Store, Index}
use Rattle.format.specs.Reads.{got, between, fault, outcome}
use Rattle.format.specs.Index.{concat, index}
use Rattle.format.specs.Store.{Subtable, set_bytes, region_list, subtable, list_start, subtable_starts, store_parts, store_of, set_in}
use Rattle.format.specs.Table.{Content, Root, root, table, places, store, axis_index, composite_index}
use Rattle.format.specs.Questions.{tuples_of, region_of}
use Rattle.format.specs.Fits.{Sound, SubtableFits}
use Rattle.format.specs.Laws.{SubtableAt, set_of, sets_place, ReadBack, PartsStand, TableReadsBack}
use Rattle.format.proofs.Fixed.{length-be}
use Rattle.format.proofs.Roots.{at_store, at_coverage, at_conditions, between_is, between_none, place_is}
use Rattle.format.proofs.Composites as Composites
use Rattle.format.proofs.Stores.{Laid, set_none, slot_none, set_reads, subtable-bytes, list_at, subtable_at, head_is, slot_reads, region_reads, region_none, part_le, within}

store_is : (rs : List (List Coordinate)) (gs : List Subtable) → 0 < length gs → store_of rs gs ≡ concat (store_parts (region_list rs) (map subtable gs))
store_is rs [] h = absurd (omega arith)
store_is rs (g ∷ gs) h = refl

store_none : (rs : List (List Coordinate)) (gs : List Subtable) → length gs ≡ 0 → store_of rs gs ≡ []
store_none rs [] h = refl
store_none rs (g ∷ gs) h = absurd (omega arith)

list_some : (rs : List (List Coordinate)) → 0 < length (region_list rs)
unfolding region_list
list_some rs = simp (length-append, length-be) (omega arith)

module _ (k : Content) (coverage conditions : List ℕ) (sound : Sound k) (short : length (table k coverage conditions) ≤ 268435455) where
  abbrev bs : List ℕ
  bs = table k coverage conditions

  abbrev r : Root
  r = places k coverage conditions

  abbrev after : List ℕ
  after = conditions ++ (axis_index k ++ (composite_index k ++ []))

  root_is : root bs ≡ got r (concat (coverage ∷ store k ∷ conditions ∷ axis_index k ∷ composite_index k ∷ []))
  root_is = Composites.root_is k coverage conditions sound short

  module _ (some : 0 < length k.subtables) where
    store_some : 0 < length (store k)
    unfolding store
    store_some = rw (store_is k.regions k.subtables some) (simp (length-append, length-be) (omega arith))

    store_at : drop r.store bs ≡ concat (store_parts (region_list k.regions) (map subtable k.subtables)) ++ after
    unfolding store table
    store_at = at_store coverage (store k) conditions (axis_index k) (composite_index k) store_some ∙ ap (λ x. x ++ after) (store_is k.regions k.subtables some)

    laid : Laid (region_list k.regions) (map subtable k.subtables) after (drop r.store bs)
    laid = record {
      is = store_at;
      some = list_some k.regions;
      few = rw (length-map k.subtables subtable) sound.few_subtables;
      short = simp length-drop (omega arith);
    }

    -- the count of subtables stands six bytes into the store
    store_place : length bs - (length (drop r.store bs) - 6) ≡ r.store + 6
    store_place =
        let l = simp (length-append, length-be) at (ap length store_at) in
        simp length-drop (omega (arith, simp length-drop at l))

    not_zero : eqb r.store 0 ≡ false
    not_zero = rw (place_is (24 + length coverage) (store k) store_some) (ne_eqb _ 0 (omega arith))

  sentinel : outcome (tuples_of bs 0xFFFFFFFF) ≡ Ok []
  sentinel = rw root_is

  module _ (none : length k.subtables ≡ 0) where
    absent : eqb r.store 0 ≡ true
    unfolding store
    absent = rw (store_none k.regions k.subtables none)

    no_slots : (slot : ℕ) → slot < 0xFFFFFFFF → outcome (tuples_of bs slot) ≡ Err (fault Missing 8 Table)
    no_slots slot lt = rw (root_is, ne_eqb slot 0xFFFFFFFF (omega arith), absent)

    no_regions : (n : ℕ) → outcome (region_of bs n) ≡ Err (fault Missing 8 Table)
    no_regions n = rw (root_is, absent)

  abbrev behind : ℕ → List ℕ
  behind outer = concat (drop (suc outer) (map subtable k.subtables)) ++ after

  abbrev list : List ℕ
  list = region_list k.regions

  abbrev written : List (List ℕ)
  written = map subtable k.subtables

  -- the subtable that a slot leads to
  module _ (outer inner : ℕ) (g : Subtable) (at : SubtableAt k outer g) where
    lt : outer < length k.subtables
    lt = at.there

    e : g ≡ get_or k.subtables outer g
    e = at.is

    subtable_fits : SubtableFits g
    subtable_fits = subst SubtableFits (sym e) (All-get_or SubtableFits k.subtables outer g lt sound.subtables_fit)

    some : 0 < length k.subtables
    some = omega (arith, lt)

    in_range : outer < length (map subtable k.subtables)
    in_range = rw (length-map k.subtables subtable) lt

    it : get_or (map subtable k.subtables) outer [] ≡ subtable g
    it = get_or-map subtable k.subtables outer g [] lt ∙ ap subtable (sym e)

    stands : drop (get_or (subtable_starts list written) outer 0) (drop r.store bs) ≡ subtable g ++ behind outer
    stands = rw it at (subtable_at list written after (drop r.store bs) (laid some) outer in_range)

    sets_short : length (index (map set_bytes g.sets)) < 2 ^ 32
    sets_short =
        let le = part_le _ (drop r.store bs) (subtable g) (behind outer) stands in
        omega (arith, (laid some).short, (subtable-bytes g).1)

    leads : inner < 2 ^ 16 → tuples_of bs (outer * 65536 + inner) ≡ set_in (length bs) inner (subtable g ++ behind outer)
    leads few_sets =
        let few_subtables : outer < 65535 = omega (arith, sound.few_subtables, lt) in
        let not-sentinel : eqb (outer * 65536 + inner) 0xFFFFFFFF ≡ false = ne_eqb _ _ (omega arith) in
        let out : (outer * 65536 + inner) / 65536 ≡ outer = omega arith in
        let inn : (outer * 65536 + inner) % 65536 ≡ inner = omega arith in
        let some_bytes : 0 < length (subtable g) = omega (arith, (subtable-bytes g).1) in
        rw (
          root_is,
          not-sentinel,
          not_zero some,
          out,
          inn,
          slot_reads list written after (drop r.store bs) (laid some) (length bs) outer inner in_range (rw it some_bytes),
          it,
        )

    each_set : inner < length g.sets → outcome (tuples_of bs (outer * 65536 + inner)) ≡ Ok (set_of g inner)
    each_set lt' = rw (leads (omega (arith, subtable_fits.few_sets)), set_reads (length bs) g subtable_fits inner lt' sets_short (behind outer))

    place : length bs - length (index (map set_bytes g.sets) ++ behind outer) ≡ sets_place k r.store outer g
    place =
        let n = simp (length-drop, length-append) at (ap length stands) in
        let m = subtable-bytes g in
        simp length-append (omega (arith, n, m.0, m.1))

    no_set : length g.sets ≤ inner → inner < 2 ^ 16 → outcome (tuples_of bs (outer * 65536 + inner)) ≡ Err (fault Missing (sets_place k r.store outer g) Index)
    no_set le small = rw (leads small, set_none (length bs) g subtable_fits inner le sets_short (behind outer)) (ap (λ (p : ℕ). Err (fault Missing p Index)) place)

  no_subtable : (outer inner : ℕ) → 0 < length k.subtables → length k.subtables ≤ outer → inner < 2 ^ 16 → outer * 65536 + inner < 0xFFFFFFFF →
      outcome (tuples_of bs (outer * 65536 + inner)) ≡ Err (fault Missing (r.store + 6) Store)
  no_subtable outer inner some le small slot =
      let from = drop r.store bs in
      let not-sentinel : eqb (outer * 65536 + inner) 0xFFFFFFFF ≡ false = ne_eqb _ _ (omega arith) in
      let out : (outer * 65536 + inner) / 65536 ≡ outer = omega arith in
      let place : length bs - (length (drop r.store bs) - 6) ≡ r.store + 6 = store_place some in
      rw (
        root_is,
        not-sentinel,
        not_zero some,
        out,
        slot_none list written after from (laid some) (length bs) outer _ (rw (length-map k.subtables subtable) le),
      )
      (ap (λ (p : ℕ). Err (fault Missing p Store)) place)

  module _ (n : ℕ) (some : 0 < length k.subtables) where
    abbrev from : List ℕ
    from = drop r.store bs

    listed : drop (list_start (length written)) from ≡ region_list k.regions ++ (concat written ++ after)
    listed = list_at list written after from (laid some)

    each_region : n < length k.regions → outcome (region_of bs n) ≡ Ok (get_or k.regions n [])
    each_region lt =
        rw (
          root_is,
          not_zero some,
          head_is list written after from (laid some) (length bs),
          region_reads k.regions (concat written ++ after) (drop (list_start (length written)) from) listed sound.few_regions (simp length-drop (omega arith)) sound.regions_fit (length bs) n lt,
        )

    list_place : length bs - length (drop (list_start (length written)) from) ≡ r.store + list_start (length k.subtables)
    list_place =
        let l = within (list_start (length written)) from (region_list k.regions) _ listed (list_some k.regions) in
        let m = length-map k.subtables subtable in
        simp length-drop (omega (arith, simp length-drop at l, m))

    no_region : length k.regions ≤ n → outcome (region_of bs n) ≡ Err (fault Missing (r.store + list_start (length k.subtables)) Store)
    no_region le =
        rw (
          root_is,
          not_zero some,
          head_is list written after from (laid some) (length bs),
          region_none k.regions (concat written ++ after) (drop (list_start (length written)) from) listed sound.few_regions (simp length-drop (omega arith)) (length bs) n le,
        )
        (ap (λ (p : ℕ). Err (fault Missing p Store)) list_place)

  conditions_stand : between bs r.conditions (r.conditions + length conditions) ≡ conditions
  unfolding table
  conditions_stand =
      ⊎_elim
      (λ (p : 0 < length conditions). between_is bs conditions _ r.conditions (at_conditions coverage (store k) conditions (axis_index k) (composite_index k) p))
      (λ (p : length conditions ≤ 0). between_none bs conditions r.conditions (omega arith))
      (cases_lt 0 (length conditions))

  pub stand : PartsStand coverage conditions (places k coverage conditions) (table k coverage conditions)
  unfolding table
  stand = record {
    root_reads = rw root_is;
    coverage_stands = between_is bs coverage _ 24 (at_coverage coverage (store k) conditions (axis_index k) (composite_index k));
    conditions_stand = conditions_stand;
  }

pub read_back : (k : Content) (coverage conditions : List ℕ) → Sound k → length (table k coverage conditions) ≤ 268435455 →
    ReadBack k (places k coverage conditions) (table k coverage conditions)
read_back k coverage conditions sound short = record {
  how_many = Composites.how_many k coverage conditions sound short;
  each_component = Composites.each_component k coverage conditions sound short;
  each_transform = Composites.each_transform k coverage conditions sound short;
  each_composite = Composites.each_composite k coverage conditions sound short;
  no_component = Composites.no_component k coverage conditions sound short;
  no_composite = Composites.no_composite k coverage conditions sound short;
  each_axis_list = Composites.each_axis_list k coverage conditions sound short;
  no_axis_list = Composites.no_axis_list k coverage conditions sound short;
  sentinel = sentinel k coverage conditions sound short;
  each_set = λ outer inner g at lt. each_set k coverage conditions sound short outer inner g at lt;
  no_set = λ outer inner g at le small. no_set k coverage conditions sound short outer inner g at le small;
  no_subtable = no_subtable k coverage conditions sound short;
  each_region = λ n some lt. each_region k coverage conditions sound short n some lt;
  no_region = λ n some le. no_region k coverage conditions sound short n some le;
  no_store = λ none. (no_slots k coverage conditions sound short none, no_regions k coverage conditions sound short none);
}

pub tables : TableReadsBack
tables k coverage conditions sound short = (read_back k coverage conditions sound short, stand k coverage conditions sound short)
