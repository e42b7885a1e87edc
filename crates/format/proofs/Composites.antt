-- Axis lists and components read back from a table.
use Rattle.std.proofs.lemmas.Option.{IfSome_then}
use Rattle.std.proofs.Common.{◌≡◌, ℕ, zero, suc, ◌+◌, ◌-◌, ◌^◌, ◌<◌, ◌≤◌, List, [], ◌∷◌, ◌++◌, map, length, get_or, drop, ℤ, pos, Ok, Err, refl, ap, ◌∙◌, append-nil, arith, length-append}
use Rattle.std.proofs.lemmas.List.{get_or-map, length-map}
use Rattle.std.proofs.ByRecursion.{All-get_or, All-map, All-weaker}
use Rattle.std.proofs.lemmas.Bool.{ne_eqb}
use Rattle.std.specs.List.{flat_map, AllByRecursion}
use Rattle.format.specs.declared.FaultKind.TheVariants.{Missing}
use Rattle.format.specs.declared.Layer.TheVariants.{Record, Index}
use Rattle.format.specs.Reads.{Read, got, bad, fault, outcome}
use Rattle.format.specs.Packed.{packed}
use Rattle.format.specs.Index.{concat, index, item, item_end, count}
use Rattle.format.specs.Component.{Component, component, settled, read_component}
use Rattle.format.specs.Questions.{axis_list_in, component_at, component_of, settled_of, records_of, composites_of, axis_list_of}
use Rattle.format.specs.Fits.{AxesFit, AxesListed, ComponentFits, Sound, Fits32}
use Rattle.format.specs.Table.{Content, Root, root, table, places, store, axis_index, composite_index}
use Rattle.format.proofs.Packs.{packs}
use Rattle.format.proofs.Indexes.{items_read, after-item, index_is, many-items, few_items, index_some}
use Rattle.format.proofs.Fixed.{fixed_reads}
use Rattle.format.proofs.Roots.{whole_length, whole-root, at_composites, at_axes}
use Rattle.format.proofs.Components.{components}

-- a list of records that reads on begins with a byte
module _ (look : ℕ → Read (List ℤ)) (end : ℕ) (c : Component) (rest : List ℕ) where
  at_zero : (bs : List ℕ) → read_component look end bs ≡ got c rest → component_at look end zero bs ≡ got c rest
  unfolding read_component
  at_zero [] e = cc
  at_zero (b ∷ bs) e = e

  at_suc : (j : ℕ) (bs : List ℕ) → read_component look end bs ≡ got c rest → component_at look end (suc j) bs ≡ component_at look end j rest
  unfolding read_component
  at_suc j [] e = cc
  at_suc j (b ∷ bs) e = rw e

component_reads : (look : ℕ → Read (List ℤ)) (end : ℕ) (cs : List Component) → AllByRecursion (ComponentFits (AxesFit look)) cs → (j : ℕ) (d : Component) → j < length cs →
    component_at look end j (flat_map component cs) ≡ got (get_or cs j d) (flat_map component (drop (suc j) cs))
component_reads look end [] h j d lt = absurd (omega arith)
component_reads look end (c ∷ cs) h zero d lt = at_zero look end c (flat_map component cs) _ (components look c h.0 end (flat_map component cs))
component_reads look end (c ∷ cs) h (suc j) d lt =
    at_suc look end c (flat_map component cs) j _ (components look c h.0 end (flat_map component cs)) ∙ component_reads look end cs h.1 j d (omega arith)

component_none : (look : ℕ → Read (List ℤ)) (end : ℕ) (cs : List Component) → AllByRecursion (ComponentFits (AxesFit look)) cs → (j : ℕ) → length cs ≤ j →
    component_at look end j (flat_map component cs) ≡ bad Missing end Record
component_none look end [] h zero le = refl
component_none look end [] h (suc j) le = refl
component_none look end (c ∷ cs) h zero le = absurd (omega arith)
component_none look end (c ∷ cs) h (suc j) le =
    at_suc look end c (flat_map component cs) j _ (components look c h.0 end (flat_map component cs)) ∙ component_none look end cs h.1 j (omega arith)

-- item n of an INDEX of mapped things
pub mapped_item : {X : Type 0} (f : X → List ℕ) (xs : List X) (end n : ℕ) (d : X) (after : List ℕ) → length (index (map f xs)) < 2 ^ 32 → n < length xs →
    item end n (index (map f xs) ++ after) ≡ got (f (get_or xs n d)) (concat (drop (suc n) (map f xs)) ++ after)
mapped_item f xs end n d after h lt =
    (items_read (map f xs) h end after n).0 (rw (length-map xs f) lt) ∙ ap (λ (x : List ℕ). got x (concat (drop (suc n) (map f xs)) ++ after)) (get_or-map f xs n d [] lt)

axis_list_reads : (bs : List ℕ) (r : Root) (lists : List (List ℕ)) (after : List ℕ) → 0 < r.axis_lists → drop r.axis_lists bs ≡ index (map (λ axes. packed (map pos axes)) lists) ++ after →
    length (index (map (λ axes. packed (map pos axes)) lists)) < 2 ^ 32 → AllByRecursion (AllByRecursion (λ a. a < 2 ^ 16)) lists → (n : ℕ) → n < length lists →
    axis_list_in bs r n ≡ got (map pos (get_or lists n [])) []
unfolding axis_list_in
axis_list_reads bs r lists after p e h fits n lt =
    rw (ne_eqb r.axis_lists 0 (omega arith), e, mapped_item (λ axes. packed (map pos axes)) lists (length bs) n [] after h lt)
    (packs (map pos (get_or lists n []))
    (All-map Fits32 pos (get_or lists n []) (All-weaker (λ a. a < 2 ^ 16) (λ a. a < 2 ^ 31) (λ a l. omega arith) (get_or lists n []) (All-get_or (AllByRecursion (λ a. a < 2 ^ 16)) lists n [] lt fits)))
    _).0

axis_list_none : (bs : List ℕ) (r : Root) (lists : List (List ℕ)) (after : List ℕ) → 0 < r.axis_lists → drop r.axis_lists bs ≡ index (map (λ axes. packed (map pos axes)) lists) ++ after →
    length (index (map (λ axes. packed (map pos axes)) lists)) < 2 ^ 32 → (n : ℕ) → length lists ≤ n →
    axis_list_in bs r n ≡ bad Missing (length bs - length (index (map (λ axes. packed (map pos axes)) lists) ++ after)) Index
unfolding axis_list_in
axis_list_none bs r lists after p e h n le =
    let items = map (λ axes. packed (map pos axes)) lists in
    rw (ne_eqb r.axis_lists 0 (omega arith), e, (items_read items h (length bs) after n).1 (rw (length-map lists (λ (axes : List ℕ). packed (map pos axes))) le))

-- count of an INDEX
count_reads : (items : List (List ℕ)) (end : ℕ) (after : List ℕ) → length (index items) < 2 ^ 32 → outcome (count end (index items ++ after)) ≡ Ok (length items)
unfolding index
count_reads [] end after h = rw (fixed_reads Index end 4 0 (omega arith) after)
count_reads (x ∷ xs) end after h = rw (index_is x xs after, fixed_reads Index end 4 (suc (length xs)) (many-items x xs h) _)

module _ (k : Content) (coverage conditions : List ℕ) (sound : Sound k) (short : length (table k coverage conditions) ≤ 268435455) where
  abbrev bs : List ℕ
  bs = table k coverage conditions

  abbrev r : Root
  r = places k coverage conditions

  pub lengths : length bs ≡ 24 + length coverage + length (store k) + length conditions + length (axis_index k) + length (composite_index k)
  unfolding table
  lengths = whole_length coverage (store k) conditions (axis_index k) (composite_index k)

  composites_short : length (composite_index k) < 2 ^ 32
  composites_short = omega (arith, lengths)

  axes_short : length (axis_index k) < 2 ^ 32
  axes_short = omega (arith, lengths)

  some_bytes : 0 < length (composite_index k)
  unfolding composite_index
  some_bytes = index_some (map (flat_map component) k.composites)

  pub root_is : root bs ≡ got r (concat (coverage ∷ store k ∷ conditions ∷ axis_index k ∷ composite_index k ∷ []))
  unfolding table
  root_is = whole-root coverage (store k) conditions (axis_index k) (composite_index k) (omega arith) some_bytes

  composites_at : drop r.composites bs ≡ index (map (flat_map component) k.composites) ++ []
  unfolding table composite_index
  composites_at = at_composites coverage (store k) conditions (axis_index k) (composite_index k)

  axes_at : drop r.axis_lists bs ≡ index (map (λ axes. packed (map pos axes)) k.axis_lists) ++ (composite_index k ++ [])
  unfolding table axis_index
  axes_at = at_axes coverage (store k) conditions (axis_index k) (composite_index k)

  axis_list_is : (n : ℕ) → n < length k.axis_lists → axis_list_in bs r n ≡ got (map pos (get_or k.axis_lists n [])) []
  unfolding axis_index
  axis_list_is n lt = axis_list_reads bs r k.axis_lists (composite_index k ++ []) (omega arith) axes_at axes_short sound.axes_fit n lt

  few_lists : length k.axis_lists < 2 ^ 32
  unfolding axis_index
  few_lists = rw (length-map k.axis_lists (λ (axes : List ℕ). packed (map pos axes))) at (few_items (map (λ axes. packed (map pos axes)) k.axis_lists) axes_short)

  axes_fits : (a : ℕ × List ℤ) → AxesListed k.axis_lists a → AxesFit (axis_list_in bs r) a
  axes_fits a l = record {
    number_fits = omega (arith, few_lists, l.listed);
    values_fit = l.values_fit;
    axes = map pos (get_or k.axis_lists a.0 []);
    rest = [];
    listed = axis_list_is a.0 l.listed;
    same_length = length-map (get_or k.axis_lists a.0 []) pos ∙ l.same_length;
  }

  component_fits : (c : Component) → ComponentFits (AxesListed k.axis_lists) c → ComponentFits (AxesFit (axis_list_in bs r)) c
  component_fits c f = record {
    gid_fits = f.gid_fits;
    condition_fits = f.condition_fits;
    axes_fit = IfSome_then c.axes f.axes_fit axes_fits;
    axes_slot_fits = f.axes_slot_fits;
    transform_slot_fits = f.transform_slot_fits;
    transform_fits = f.transform_fits;
  }

  composite_fits : (i : ℕ) → i < length k.composites → AllByRecursion (ComponentFits (AxesFit (axis_list_in bs r))) (get_or k.composites i [])
  composite_fits i lt =
      All-weaker (ComponentFits (AxesListed k.axis_lists)) (ComponentFits (AxesFit (axis_list_in bs r))) component_fits (get_or k.composites i [])
      (All-get_or (AllByRecursion (ComponentFits (AxesListed k.axis_lists))) k.composites i [] lt sound.composites_fit)

  abbrev items : List (List ℕ)
  items = map (flat_map component) k.composites

  -- where the composites' INDEX begins, and where an item of it ends
  index_place : length bs - length (index items ++ []) ≡ r.composites
  unfolding composite_index
  index_place = simp append-nil (omega (arith, lengths))

  records_end : (i : ℕ) → i < length k.composites → length bs - length (concat (drop (suc i) items) ++ []) ≡ r.composites + item_end items i
  unfolding composite_index
  records_end i lt =
      let e = after-item items i (rw (length-map k.composites (flat_map component)) lt) in
      simp append-nil (omega (arith, lengths, e))

  axes_place : length bs - length (index (map (λ axes. packed (map pos axes)) k.axis_lists) ++ (composite_index k ++ [])) ≡ r.axis_lists
  unfolding axis_index
  axes_place = simp (append-nil, length-append) (omega (arith, lengths))

  pub how_many : outcome (composites_of bs) ≡ Ok (length k.composites)
  unfolding composite_index
  how_many = rw (root_is, composites_at) (rw (length-map k.composites (flat_map component)) at (count_reads items (length bs) [] composites_short))

  pub each_component : (i j : ℕ) (d : Component) → i < length k.composites → j < length (get_or k.composites i []) →
      outcome (component_of bs i j) ≡ Ok (get_or (get_or k.composites i []) j d)
  unfolding composite_index
  each_component i j d lt lt' =
      rw (
        root_is,
        composites_at,
        mapped_item (flat_map component) k.composites (length bs) i [] [] composites_short lt,
        component_reads (axis_list_in bs r) _ (get_or k.composites i []) (composite_fits i lt) j d lt',
      )

  pub each_transform : (i j : ℕ) (d : Component) → i < length k.composites → j < length (get_or k.composites i []) →
      outcome (settled_of bs i j) ≡ Ok (settled (get_or (get_or k.composites i []) j d).transform)
  unfolding composite_index
  each_transform i j d lt lt' =
      rw (
        root_is,
        composites_at,
        mapped_item (flat_map component) k.composites (length bs) i [] [] composites_short lt,
        component_reads (axis_list_in bs r) _ (get_or k.composites i []) (composite_fits i lt) j d lt',
      )

  pub each_composite : (i : ℕ) → i < length k.composites → outcome (records_of bs i) ≡ Ok (flat_map component (get_or k.composites i []))
  unfolding composite_index
  each_composite i lt = rw (root_is, composites_at, mapped_item (flat_map component) k.composites (length bs) i [] [] composites_short lt)

  pub no_component : (i j : ℕ) → i < length k.composites → length (get_or k.composites i []) ≤ j →
      outcome (component_of bs i j) ≡ Err (fault Missing (r.composites + item_end (map (flat_map component) k.composites) i) Record)
  unfolding composite_index
  no_component i j lt le =
      rw (
        root_is,
        composites_at,
        mapped_item (flat_map component) k.composites (length bs) i [] [] composites_short lt,
        component_none (axis_list_in bs r) _ (get_or k.composites i []) (composite_fits i lt) j le,
      )
      (ap (λ (p : ℕ). Err (fault Missing p Record)) (records_end i lt))

  pub no_composite : (i j : ℕ) → length k.composites ≤ i → outcome (component_of bs i j) ≡ Err (fault Missing r.composites Index)
  unfolding composite_index
  no_composite i j le =
      rw (root_is, composites_at, (items_read items composites_short (length bs) [] i).1 (rw (length-map k.composites (flat_map component)) le))
      (ap (λ (p : ℕ). Err (fault Missing p Index)) index_place)

  pub each_axis_list : (n : ℕ) → n < length k.axis_lists → outcome (axis_list_of bs n) ≡ Ok (map pos (get_or k.axis_lists n []))
  each_axis_list n lt = rw (root_is, axis_list_is n lt)

  pub no_axis_list : (n : ℕ) → length k.axis_lists ≤ n → outcome (axis_list_of bs n) ≡ Err (fault Missing r.axis_lists Index)
  unfolding axis_index
  no_axis_list n le =
      rw (root_is, axis_list_none bs r k.axis_lists (composite_index k ++ []) (omega arith) axes_at axes_short n le)
      (ap (λ (p : ℕ). Err (fault Missing p Index)) axes_place)
