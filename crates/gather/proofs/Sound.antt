-- What a job holds is sound with a delta set added, where it was before.
use Rattle.std.proofs.Common.{◌≡◌, ℕ, suc, ◌+◌, ◌<◌, ◌≤◌, Bool, true, false, cond, not, List, [], ◌∷◌, ◌++◌, map, length, drop, ℤ, Option, sym, refl, ap, ◌∙◌, subst, inl, inr, ⊎_elim, arith}
use Rattle.std.proofs.lemmas.Bool.{cond_both}
use Rattle.std.proofs.lemmas.Option.{IfSome_then}
use Rattle.std.proofs.ByRecursion.{All-append, All-weaker, all_kept_by}
use Rattle.std.proofs.lemmas.List.{append_assoc, length-append, length-take-le, length-drop}
use Rattle.std.proofs.lemmas.List.Sums.{sum_by-cons}
use Rattle.std.specs.List.{flat_map, AllByRecursion}
use Rattle.format.specs.declared.Coordinate.{Coordinate}
use Rattle.keys.specs.Numbers.{AscendingNumbers}
use Rattle.memory.specs.Fit.{Sound, RegionFits, EntryFits, SetFits, ComponentFits, Known, Tuple}
use Rattle.memory.specs.Lists.{Stored, Lists, part}
use Rattle.memory.specs.declared.memory.Mark.{Mark}
use Rattle.memory.specs.declared.records.DeltaSet.{DeltaSet}
use Rattle.memory.specs.declared.records.Entry.{Entry}
use Rattle.memory.specs.declared.records.Span.{Span}
use Rattle.memory.specs.declared.records.TemporaryDeltaSetId.{TemporaryDeltaSetId}
use Rattle.memory.proofs.Parts.{part-more, part_new}
use Rattle.deltas.specs.Deltas.{Handed, RegionTuple, NumberedTuple, tuples, used, region_numbers, RegionsAscend, new_regions, under, delta_set, is_empty, all_zero, is_new, spans_from, entries_from, set_record, added, with_added}
use Rattle.deltas.specs.Limits.{DeltaLimits}
use Rattle.deltas.specs.Parts.{Ascends, AddUp, Level, tuple_len, values_total}
use Rattle.deltas.specs.declared.parts.Part.{Part}
use Rattle.gather.proofs.Sorted.{Sorted, sorted, ascending, all_kept, ascending_kept}

-- regions

region-more : (cs new : List Coordinate) (r : Span) → RegionFits cs r → RegionFits (cs ++ new) r
region-more cs new r h =
    record {
      within = omega (arith, h.within, length-append cs new);
      few = h.few;
      ascends = subst (λ xs. AscendingNumbers (map (λ c. c.axis) xs)) (sym (part-more r cs new h.within)) h.ascends;
    }

regions_new : (cs : List Coordinate) (new : List (List Coordinate)) → AllByRecursion Ascends new → AllByRecursion (λ r. length r ≤ 65535) new →
    AllByRecursion (RegionFits (cs ++ flat_map (λ r. r) new)) (spans_from (length cs) new)
regions_new cs [] a f = tt
regions_new cs (r ∷ rs) a f =
    let more = flat_map (λ r. r) rs in
    let s : Span = record { place = length cs; count = length r } in
    let e : (cs ++ r) ++ more ≡ cs ++ (r ++ more) = append_assoc cs r more in
    let first : RegionFits (cs ++ r) s = record {
      within = omega (arith, length-append cs r);
      few = f.0;
      ascends = subst (λ xs. AscendingNumbers (map (λ c. c.axis) xs)) (sym (part_new (length cs) cs r refl)) a.0;
    } in (
      subst (λ xs. RegionFits xs s) e (region-more (cs ++ r) more s first),
      subst (λ xs. AllByRecursion (RegionFits xs) (spans_from (length cs + length r) rs)) e
          (subst (λ n. AllByRecursion (RegionFits ((cs ++ r) ++ more)) (spans_from n rs)) (length-append cs r) (regions_new (cs ++ r) rs a.1 f.1)),
    )

spans_count : {X : Type 0} (at : ℕ) (xs : List (List X)) → length (spans_from at xs) ≡ length xs
spans_count at [] = refl
spans_count at (x ∷ xs) = ap suc (spans_count (at + length x) xs)

-- entries

entries_new : (regions values at : ℕ) (ts : List NumberedTuple) → AllByRecursion (λ n. n < regions) (map (λ t. t.region) ts) → at + length (flat_map (λ t. t.tuple) ts) ≤ values →
    AllByRecursion (EntryFits regions values) (entries_from at ts)
entries_new regions values at [] r l = tt
entries_new regions values at (t ∷ ts) r l =
    let n = length-append t.tuple (flat_map (λ t. t.tuple) ts) in
    (record { region = r.0; place = omega arith }, entries_new regions values (at + length t.tuple) ts r.1 (omega (arith, n)))

entries_count : (at : ℕ) (ts : List NumberedTuple) → length (entries_from at ts) ≡ length ts
entries_count at [] = refl
entries_count at (t ∷ ts) = ap suc (entries_count (at + length t.tuple) ts)

entries_regions : (at : ℕ) (ts : List NumberedTuple) → map (λ e. e.region) (entries_from at ts) ≡ map (λ t. t.region) ts
entries_regions at [] = refl
entries_regions at (t ∷ ts) = ap (λ ns. t.region ∷ ns) (entries_regions (at + length t.tuple) ts)

entries_tuples : (width values at : ℕ) (ts : List NumberedTuple) → AllByRecursion (λ t. length t.tuple ≡ width) ts → at + length (flat_map (λ t. t.tuple) ts) ≤ values →
    AllByRecursion (Tuple width values) (entries_from at ts)
entries_tuples width values at [] w l = tt
entries_tuples width values at (t ∷ ts) w l =
    let n = length-append t.tuple (flat_map (λ t. t.tuple) ts) in
    (omega (arith, n, w.0), entries_tuples width values (at + length t.tuple) ts w.1 (omega (arith, n)))

-- sets

set_more : (es new : List Entry) (v w : ℕ) → v ≤ w → (s : DeltaSet) → SetFits es v s → SetFits (es ++ new) w s
set_more es new v w le s h =
    let e = sym (part-more s.entries es new h.within) in
    record {
      within = omega (arith, h.within, length-append es new);
      ascends = subst (λ xs. AscendingNumbers (map (λ e. e.region) xs)) e h.ascends;
      tuples = subst (AllByRecursion (Tuple s.tuple_len w)) e (All-weaker (Tuple s.tuple_len v) (Tuple s.tuple_len w) (λ x t. omega arith) (part s.entries es) h.tuples);
    }

set_new : (es : List Entry) (values width at : ℕ) (ts : List NumberedTuple) (s : DeltaSet) →
    s.entries ≡ record { place = length es; count = length ts } → s.tuple_len ≡ width →
    AscendingNumbers (map (λ t. t.region) ts) → AllByRecursion (λ t. length t.tuple ≡ width) ts → at + length (flat_map (λ t. t.tuple) ts) ≤ values →
    SetFits (es ++ entries_from at ts) values s
set_new es values width at ts s at-end long order widths l =
    let new = entries_from at ts in
    let n = entries_count at ts in
    let e : part s.entries (es ++ new) ≡ new =
    ap (λ x. part x (es ++ new)) (at-end ∙ ap (λ k. record { place = length es; count = k }) (sym n)) ∙ part_new (length es) es new refl in
    let p : s.entries.place ≡ length es = ap (λ x. x.place) at-end in
    let k : s.entries.count ≡ length ts = ap (λ x. x.count) at-end in
    record {
      within = omega (arith, length-append es new, n, p, k);
      ascends = subst AscendingNumbers (sym (ap (map (λ e. e.region)) e ∙ entries_regions at ts)) order;
      tuples = subst (λ w. AllByRecursion (Tuple w values) (part s.entries (es ++ new))) (sym long) (subst (AllByRecursion (Tuple width values)) (sym e) (entries_tuples width values at ts widths l));
    }

-- components

known_more : (m n : ℕ) → m ≤ n → (id : TemporaryDeltaSetId) → Known m id → Known n id
known_more m n le id h = ⊎_elim inl (λ l. inr (omega arith)) h

component-more : (pairs : List _) (m n : ℕ) → m ≤ n → (c : Stored) → ComponentFits pairs m c → ComponentFits pairs n c
component-more pairs m n le c h =
    record {
      gid = h.gid;
      axes = h.axes;
      axis_values_var = IfSome_then c.axis_values_var h.axis_values_var (known_more m n le);
      transform_var = IfSome_then c.transform_var h.transform_var (known_more m n le);
    }

-- tuples

tuples_level : (width : ℕ) (ps : List Part) (cs : List Coordinate) (vs : List ℤ) → AllByRecursion (λ p. p.values ≡ width) ps → values_total ps ≡ length vs →
    AllByRecursion (λ t. length t.tuple ≡ width) (tuples ps cs vs)
tuples_level width [] cs vs w e = tt
tuples_level width (p ∷ ps) cs vs w e =
    let e' : p.values + values_total ps ≡ length vs = sym (sum_by-cons (λ q. q.values) p ps) ∙ e in (
      length-take-le p.values vs (omega arith) ∙ w.0,
      tuples_level width ps (drop p.axes cs) (drop p.values vs) w.1 (omega (arith, length-drop p.values vs)),
    )

under-tuples : (P : List ℤ → Type 0) (ns : List ℕ) (ts : List RegionTuple) → AllByRecursion (λ t. P t.tuple) ts → AllByRecursion (λ t. P t.tuple) (under ns ts)
under-tuples P [] ts h = tt
under-tuples P (n ∷ ns) [] h = tt
under-tuples P (n ∷ ns) (t ∷ ts) h = (h.0, under-tuples P ns ts h.1)

under_all : (P : ℕ → Type 0) (ns : List ℕ) (ts : List RegionTuple) → AllByRecursion P ns → AllByRecursion P (map (λ t. t.region) (under ns ts))
under_all P [] ts h = tt
under_all P (n ∷ ns) [] h = tt
under_all P (n ∷ ns) (t ∷ ts) h = (h.0, under_all P ns ts h.1)

under_sorted : (ns : List ℕ) (ts : List RegionTuple) → Sorted ns → Sorted (map (λ t. t.region) (under ns ts))
under_sorted [] ts h = tt
under_sorted (n ∷ ns) [] h = tt
under_sorted (n ∷ ns) (t ∷ ts) h = (under_all (λ m. n < m) ns ts h.0, under_sorted ns ts h.1)

-- the whole

module _ (h : Lists) (d : Handed)
    (up : AddUp d.parts (length d.coordinates) (length d.values)) (level : Level d.parts) (order : RegionsAscend h d)
    (below : AllByRecursion (λ n. n < length h.regions + length (new_regions h d)) (region_numbers h d)) (ascend : AllByRecursion Ascends (new_regions h d)) (limits : DeltaLimits h d) where
  abbrev named : List NumberedTuple
  named = under (region_numbers h d) (used d)

  abbrev stays : NumberedTuple → Bool
  stays t = not (all_zero t.tuple)

  widths : AllByRecursion (λ t. length t.tuple ≡ tuple_len d.parts) (delta_set h d)
  widths =
      all_kept_by stays (λ t. length t.tuple ≡ tuple_len d.parts) named
      (under-tuples (λ t. length t ≡ tuple_len d.parts) (region_numbers h d) (used d)
      (all_kept_by (λ t. not (is_empty t.region)) (λ t. length t.tuple ≡ tuple_len d.parts) (tuples d.parts d.coordinates d.values)
      (tuples_level (tuple_len d.parts) d.parts d.coordinates d.values level up.values_add_up)))

  in_order : AscendingNumbers (map (λ t. t.region) (delta_set h d))
  in_order =
      ascending_kept (λ t. t.region) stays named
      (ascending (map (λ t. t.region) named) (under_sorted (region_numbers h d) (used d) (sorted (region_numbers h d) order)))

  numbers_below : (n : ℕ) → length h.regions + length (new_regions h d) ≡ n → AllByRecursion (λ k. k < n) (map (λ t. t.region) (delta_set h d))
  numbers_below n e =
      subst (λ m. AllByRecursion (λ k. k < m) (map (λ t. t.region) (delta_set h d))) e
      (all_kept (λ t. t.region) stays (λ k. k < length h.regions + length (new_regions h d)) named (under_all (λ k. k < length h.regions + length (new_regions h d)) (region_numbers h d) (used d) below))

  module _ (old : AllByRecursion (SetFits h.entries (length h.values)) h.sets) where
    abbrev Fit : List NumberedTuple → DeltaSet → Type 0
    Fit ts = SetFits (h.entries ++ entries_from (length h.values) ts) (length (h.values ++ flat_map (λ t. t.tuple) ts))

    sets_fit : (b : Bool) → AllByRecursion (Fit (cond b (delta_set h d) [])) (h.sets ++ cond b (set_record h d ∷ []) [])
    sets_fit b =
        All-append (Fit (cond b (delta_set h d) [])) h.sets (cond b (set_record h d ∷ []) [])
        (All-weaker _ (Fit (cond b (delta_set h d) []))
        (set_more h.entries (entries_from (length h.values) (cond b (delta_set h d) [])) (length h.values) _
        (omega (arith, length-append h.values (flat_map (λ t. t.tuple) (cond b (delta_set h d) [])))))
        h.sets old)
        (last b)
      where
        last : (b : Bool) → AllByRecursion (Fit (cond b (delta_set h d) [])) (cond b (set_record h d ∷ []) [])
        last true = (
          set_new h.entries (length (h.values ++ flat_map (λ t. t.tuple) (delta_set h d))) (tuple_len d.parts) (length h.values) (delta_set h d) (set_record h d) refl refl in_order widths
              (omega (arith, length-append h.values (flat_map (λ t. t.tuple) (delta_set h d)))),
          tt,
        )
        last false = tt

  module _ (old : AllByRecursion (EntryFits (length h.regions) (length h.values)) h.entries) (regions : ℕ) (more : length h.regions + length (new_regions h d) ≡ regions) where
    entries_fit : (b : Bool) → AllByRecursion (EntryFits regions (length (h.values ++ flat_map (λ t. t.tuple) (cond b (delta_set h d) [])))) (h.entries ++ entries_from (length h.values) (cond b (delta_set h d) []))
    entries_fit b =
        let n = length-append h.values (flat_map (λ t. t.tuple) (cond b (delta_set h d) [])) in
        All-append (EntryFits regions (length (h.values ++ flat_map (λ t. t.tuple) (cond b (delta_set h d) [])))) h.entries (entries_from (length h.values) (cond b (delta_set h d) []))
        (All-weaker _ _ (λ e f. record { region = omega (arith, f.region); place = omega (arith, f.place, n) }) h.entries old)
        (entries_new regions (length (h.values ++ flat_map (λ t. t.tuple) (cond b (delta_set h d) []))) (length h.values) (cond b (delta_set h d) [])
        (cond_both b (delta_set h d) [] (λ ts. AllByRecursion (λ k. k < regions) (map (λ t. t.region) ts)) (λ _. numbers_below regions more) (λ _. tt))
        (omega (arith, n)))

  pub delta_sound : (mark : Option Mark) → Sound mark h → Sound mark (with_added h (added h d))
  delta_sound mark s =
      let new = new_regions h d in
      let spans = spans_from (length h.coordinates) new in
      let n : length h.regions + length new ≡ length (h.regions ++ spans) = omega (arith, length-append h.regions spans, spans_count (length h.coordinates) new) in
      let more = length-append h.sets (cond (is_new h d) (set_record h d ∷ []) []) in
      record {
        few = omega (arith, n, limits.regions);
        regions =
            All-append (RegionFits (h.coordinates ++ flat_map (λ r. r) new)) h.regions spans
            (All-weaker _ _ (region-more h.coordinates (flat_map (λ r. r) new)) h.regions s.regions)
            (regions_new h.coordinates new ascend limits.axes);
        entries = entries_fit s.entries (length (h.regions ++ spans)) n (is_new h d);
        sets = sets_fit s.sets (is_new h d);
        components =
            All-weaker _ _ (component-more h.pairs (length h.sets) (length (h.sets ++ cond (is_new h d) (set_record h d ∷ []) [])) (omega (arith, more))) h.components s.components;
        composites = s.composites;
        axis_lists = s.axis_lists;
        groups = limits.groups;
        begun = IfSome_then mark s.begun (λ m f. record { begun = f.begun; components = f.components; pairs = f.pairs });
      }
