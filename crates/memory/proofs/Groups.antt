-- Groups of delta sets: a walk over all sets that counts a group at its first set.
use Rattle.std.proofs.Common.{◌≡◌, ℕ, suc, ◌+◌, ◌<◌, ◌≤◌, Bool, true, false, cond, not, List, [], ◌∷◌, ◌++◌, map, length, get_or, take, drop, is_some, Some, None, Option, sym, refl, ap, ◌∙◌, subst, ⊎_elim, arith}
use Rattle.std.specs.Option.{option_map}
use Rattle.std.specs.List.{All}
use Rattle.std.proofs.lemmas.List.Elements.{All-from_all_within, All-from_recursion, All-get_or, All-more, recursion_from_All}
use Rattle.std.proofs.lemmas.List.Filters.{length-filter_both}
use Rattle.std.proofs.lemmas.Simd.{map-map}
use Rattle.std.proofs.lemmas.List.{append_assoc, append-nil, length_push, length-map, length-take-le, get_or-take, get_or-map, take_all, take_more, take-append-drop}
use Rattle.std.proofs.lemmas.Bool.{cases_lt, cond-true, cond-false}
use Rattle.std.proofs.lemmas.Bool.Decides.{same_from_decides, Decides-like}
use Rattle.keys.specs.Lent.{lent}
use Rattle.keys.specs.Sameness.{Sameness, lists, numbers}
use Rattle.keys.specs.Places.{First, FirstAt, Nowhere, place, without, firsts}
use Rattle.keys.proofs.Places.{first_is_place}
use Rattle.memory.specs.Groups.{GroupsFit, like, region_lists, set_regions}
use Rattle.memory.specs.Lists.{part}
use Rattle.memory.specs.declared.fit.groups.RegionList.{RegionList}
use Rattle.memory.specs.declared.records.DeltaSet.{DeltaSet}
use Rattle.memory.specs.declared.records.Entry.{Entry}

-- the different keys of a list with one more
module _ {M : Type 0} (same : Sameness M) where
  turned : (a b : M) → same.test a b ≡ same.test b a
  turned a b = same_from_decides _ _ (same.exact a b) (Decides-like (same.test b a) sym sym (same.exact b a))

  push_by : (b : Bool) (z : M) (us vs t : List M) → us ≡ vs ++ t → cond b us (z ∷ us) ≡ cond b vs (z ∷ vs) ++ t
  push_by true z us vs t e = e
  push_by false z us vs t e = ap (λ xs. z ∷ xs) e

  without_push : (x y : M) (zs : List M) → without same x (zs ++ y ∷ []) ≡ without same x zs ++ cond (same.test y x) [] (y ∷ [])
  without_push x y [] = refl
  without_push x y (z ∷ zs) = push_by (same.test z x) z _ _ _ (without_push x y zs)

  push_first : (x y : M) (fs : List M) (b : Bool) → same.test x y ≡ b → (p : Option ℕ) →
      x ∷ without same x (cond (is_some p) fs (fs ++ y ∷ [])) ≡ cond (is_some (cond b (Some 0) (option_map suc p))) (x ∷ without same x fs) ((x ∷ without same x fs) ++ y ∷ [])
  push_first x y fs true e (Some i) = refl
  push_first x y fs true e None =
      ap (λ zs. x ∷ zs) (without_push x y fs ∙ ap (λ zs. without same x fs ++ zs) (cond-true (same.test y x) [] (y ∷ []) (turned y x ∙ e)) ∙ append-nil (without same x fs))
  push_first x y fs false e (Some i) = refl
  push_first x y fs false e None =
      ap (λ zs. x ∷ zs) (without_push x y fs ∙ ap (λ zs. without same x fs ++ zs) (cond-false (same.test y x) [] (y ∷ []) (turned y x ∙ e)))

  firsts_push : (xs : List M) (y : M) → firsts same (xs ++ y ∷ []) ≡ cond (is_some (place same xs y)) (firsts same xs) (firsts same xs ++ y ∷ [])
  firsts_push [] y = refl
  firsts_push (x ∷ xs) y = ap (λ zs. x ∷ without same x zs) (firsts_push xs y) ∙ push_first x y (firsts same xs) (same.test x y) refl (place same xs y)

  known_stays : (xs : List M) (y : M) → is_some (place same xs y) ≡ true → length (firsts same (xs ++ y ∷ [])) ≡ length (firsts same xs)
  known_stays xs y e = ap length (firsts_push xs y ∙ cond-true (is_some (place same xs y)) _ _ e)

  new_counts : (xs : List M) (y : M) → is_some (place same xs y) ≡ false → length (firsts same (xs ++ y ∷ [])) ≡ length (firsts same xs) + 1
  new_counts xs y e = ap length (firsts_push xs y ∙ cond-false (is_some (place same xs y)) _ _ e) ∙ length_push (firsts same xs) y

  one_more : (xs : List M) (y : M) (b : Bool) → is_some (place same xs y) ≡ b → length (firsts same xs) ≤ length (firsts same (xs ++ y ∷ []))
  one_more xs y true e = omega (arith, known_stays xs y e)
  one_more xs y false e = omega (arith, new_counts xs y e)

  firsts_grow : (xs ys : List M) → length (firsts same xs) ≤ length (firsts same (xs ++ ys))
  firsts_grow xs [] = omega (arith, ap (λ zs. length (firsts same zs)) (append-nil xs))
  firsts_grow xs (y ∷ ys) =
      omega (arith, one_more xs y (is_some (place same xs y)) refl, firsts_grow (xs ++ y ∷ []) ys, ap (λ zs. length (firsts same zs)) (append_assoc xs (y ∷ []) ys))

  without_fewer : (x : M) (zs : List M) → length (without same x zs) ≤ length zs
  without_fewer x [] = omega arith
  without_fewer x (z ∷ zs) = fewer_by (same.test z x) (without_fewer x zs)
    where
      fewer_by : (b : Bool) → length (without same x zs) ≤ length zs → length (cond b (without same x zs) (z ∷ without same x zs)) ≤ length (z ∷ zs)
      fewer_by true h = omega arith
      fewer_by false h = omega arith

  firsts_fewer : (xs : List M) → length (firsts same xs) ≤ length xs
  firsts_fewer [] = omega arith
  firsts_fewer (x ∷ xs) = omega (arith, without_fewer x (firsts same xs), firsts_fewer xs)

-- whether a key of a list came before
module _ {M : Type 0} (ls : List M) (i : ℕ) (key : M) (l : i < length ls) (is : key ≡ get_or ls i key) where
  somewhere : Nowhere ls key → ⊥
  somewhere h = h.nowhere i l (sym is)

  came : (j : ℕ) → FirstAt ls key j → j < i → FirstAt (take i ls) key j
  came j first less =
      record {
        within = omega (arith, length-take-le i ls (omega arith));
        here = get_or-take i ls j key less ∙ first.here;
        not_before = λ k b e. first.not_before k b (sym (get_or-take i ls k key (omega arith)) ∙ e);
      }

  new : FirstAt ls key i → Nowhere (take i ls) key
  new first =
      record { nowhere = λ k b at. let less : k < i = omega (arith, length-take-le i ls (omega arith)) in first.not_before k less (sym (get_or-take i ls k key less) ∙ at) }

abbrev Few : List (List ℕ) → List ℕ → Type 0
Few ls key = like key ls ≤ 65535

abbrev count_groups : List (List ℕ) → ℕ
count_groups ls = length (firsts (lists numbers) ls)

-- the first i sets, which begin so many groups
pub record Walked (ls : List (List ℕ)) (i count : ℕ) : Type 0 where
  pub counts : count ≡ count_groups (take i ls)
  pub few_groups : count ≤ 65535
  pub few_sets : All (Few ls) (take i ls)

module _ (ls : List (List ℕ)) (i count : ℕ) (walked : Walked ls i count) (key : List ℕ) (l : i < length ls) (is : key ≡ get_or ls i key) where
  next : take (i + 1) ls ≡ take i ls ++ key ∷ []
  next = take_more ls i key l ∙ ap (λ k. take i ls ++ k ∷ []) (sym is)

  known : (j : ℕ) → FirstAt (take i ls) key j → Walked ls (i + 1) count
  known j at =
      record {
        counts =
            walked.counts
            ∙ sym (ap count_groups next ∙ known_stays (lists numbers) (take i ls) key (ap is_some (sym (first_is_place (lists numbers) (take i ls) key (Some j) at))));
        few_groups = walked.few_groups;
        few_sets = All-more (Few ls) ls i key l walked.few_sets (subst (Few ls) (at.here ∙ is) (All-get_or (Few ls) (take i ls) j key at.within walked.few_sets));
      }

  skips : (o : Option ℕ) → First ls key o → (o ≡ Some i → ⊥) → Walked ls (i + 1) count
  skips None nowhere other = absurd (somewhere ls i key l is nowhere)
  skips (Some j) first other =
      ⊎_elim (λ less. known j (came ls i key l is j first less)) (λ more. ⊎_elim (λ past. absurd (first.not_before i past (sym is))) (λ here. absurd (other (ap Some (omega arith)))) (cases_lt i j)) (cases_lt j i)

  module _ (at : Nowhere (take i ls) key) where
    one_group : count_groups (take (i + 1) ls) ≡ count + 1
    one_group =
        ap count_groups next
        ∙ new_counts (lists numbers) (take i ls) key (ap is_some (sym (first_is_place (lists numbers) (take i ls) key None at)))
        ∙ ap (λ n. n + 1) (sym walked.counts)

    begins : count + 1 ≤ 65535 → like key ls ≤ 65535 → Walked ls (i + 1) (count + 1)
    begins few h = record { counts = sym one_group; few_groups = few; few_sets = All-more (Few ls) ls i key l walked.few_sets (subst (Few ls) is h) }

    many : 65535 < count + 1 → count_groups ls ≤ 65535 → ⊥
    many more h = omega (arith, one_group, firsts_grow (lists numbers) (take (i + 1) ls) (drop (i + 1) ls), ap count_groups (take-append-drop (i + 1) ls))

module _ (entries : List Entry) (sets : List DeltaSet) where
  abbrev L : List (List ℕ)
  L = region_lists entries sets

  long_lists : length L ≡ length sets
  long_lists = length-map sets (set_regions entries)

  pub few_sets_fit : length sets ≤ 65535 → GroupsFit entries sets
  few_sets_fit few =
      let n = long_lists in
      record {
        few_groups = omega (arith, firsts_fewer (lists numbers) L);
        few_sets = recursion_from_All (Few L) L (All-from_all_within (Few L) L (λ i d a l. omega (arith, length-filter_both (λ k. (lists numbers).test k (get_or L i d)) (λ k. not ((lists numbers).test k (get_or L i d))) (λ _. refl) L)));
      }

  pub walk_ends : (i count : ℕ) → length sets ≤ i → Walked L i count → GroupsFit entries sets
  walk_ends i count l w =
      let e = take_all i L (omega (arith, long_lists)) in
      record { few_groups = omega (arith, w.counts, w.few_groups, ap count_groups e); few_sets = recursion_from_All (Few L) L (subst (All (Few L)) e w.few_sets) }

  -- at one set, by the first one with its region numbers
  module _ (i count : ℕ) (walked : Walked L i count) (d : DeltaSet) (key : List ℕ) (l : i < length sets) (is : key ≡ set_regions entries (get_or sets i d)) where
    below : i < length L
    below = omega (arith, long_lists)

    reads : key ≡ get_or L i key
    reads = is ∙ sym (get_or-map (set_regions entries) sets i d key l)

    pub walk_like : 65535 < like key L → GroupsFit entries sets → ⊥
    walk_like more fit = omega (arith, subst (Few L) (sym reads) (All-get_or (Few L) L i key below (All-from_recursion (Few L) L fit.few_sets)))

    module _ (o : Option ℕ) (found : First (map (λ (k : RegionList). map (λ e. e.region) k.entries.now) (map (λ s. record { entries = lent (part s.entries entries) }) sets)) key o) where
      first_of : First L key o
      first_of = subst (λ ls. First ls key o) (map-map (λ (k : RegionList). map (λ e. e.region) k.entries.now) (λ s. record { entries = lent (part s.entries entries) }) sets) found

      pub walk_skips : (o ≡ Some i → ⊥) → Walked L (i + 1) count
      walk_skips other = skips L i count walked key below reads o first_of other

      pub walk_begins : o ≡ Some i → count + 1 ≤ 65535 → like key L ≤ 65535 → Walked L (i + 1) (count + 1)
      walk_begins here few h = begins L i count walked key below reads (new L i key below reads (subst (First L key) here first_of)) few h

      pub walk_many : o ≡ Some i → 65535 < count + 1 → GroupsFit entries sets → ⊥
      walk_many here over fit = many L i count walked key below reads (new L i key below reads (subst (First L key) here first_of)) over fit.few_groups
