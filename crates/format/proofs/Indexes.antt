-- An INDEX reads back.
use Rattle.std.proofs.Common.{◌≡◌, ℕ, zero, suc, ◌+◌, ◌-◌, ◌*◌, ◌^◌, ◌<◌, ◌≤◌, Bool, true, false, eqb, ltb, leb, List, [], ◌∷◌, ◌++◌, length, get_or, take, drop, sym, refl, ap, ◌∙◌, append_assoc, append-nil, mul-le-mul_left, arith, length-append}
use Rattle.std.proofs.lemmas.List.{drop_at, take_at}
use Rattle.std.proofs.lemmas.Bool.{le-ltb, lt-leb, le-leb}
use Rattle.std.proofs.lemmas.Bool.Decides.{nat_tests}
use Rattle.std.specs.List.{flat_map}
use Rattle.write.specs.Bytes.{be}
use Rattle.format.specs.declared.FaultKind.TheVariants.{Missing}
use Rattle.format.specs.declared.Layer.TheVariants.{Index}
use Rattle.format.specs.Reads.{got, bad}
use Rattle.format.specs.Index.{concat, offsets, offset_size, size_of, index, item_end, read_offset, read_offsets, wrong_size, item}
use Rattle.format.specs.Laws.{IndexReadsBack}
use Rattle.format.proofs.Fixed.{fixed_reads, length-be}

-- the last offset fits its size
pub fits_size : (last : ℕ) → last < 2 ^ 32 → last < 256 ^ offset_size last
fits_size last h = grind (arith, nat_tests)

pub at_least : (last : ℕ) → 1 ≤ offset_size last
at_least last = grind (arith, nat_tests)

sound_size : (last : ℕ) → wrong_size (offset_size last) ≡ false
sound_size last = grind (arith, nat_tests)

offset_reads : (end size : ℕ) (past test : ℕ → Bool) (o : ℕ) → o < 256 ^ size → past o ≡ false → test o ≡ true → (rest : List ℕ) → read_offset end size past test (be size o ++ rest) ≡ got o rest
offset_reads end size past test o h p t rest = rw (fixed_reads Index end size o h rest, p, t)

-- the offsets read back
offsets_read : (end size : ℕ) (past test : ℕ → Bool) (last at : ℕ) (items : List (List ℕ)) → at + length (concat items) ≤ last → last < 256 ^ size → ((o : ℕ) → o ≤ last → past o ≡ false) → test at ≡ true → (rest : List ℕ) →
    read_offsets end size past test (suc (length items)) (flat_map (be size) (offsets at items) ++ rest) ≡ got (offsets at items) rest
unfolding read_offsets
offsets_read end size past test last at [] le small fits t rest =
    rw (append_assoc, offset_reads end size past test at (omega arith) (fits at (omega arith)) t rest)
offsets_read end size past test last at (x ∷ xs) le small fits t rest =
    let le' : at + length x + length (concat xs) ≤ last = omega (arith, length-append x (concat xs)) in
    rw (
      append_assoc,
      offset_reads end size past test at (omega arith) (fits at (omega arith)) t _,
      offsets_read end size past (leb at) last (at + length x) xs le' small fits (le-leb at (at + length x) (omega arith)) rest,
    )

-- where the offsets lead
first_offset : (at : ℕ) (items : List (List ℕ)) → get_or (offsets at items) 0 0 ≡ at
first_offset at [] = refl
first_offset at (x ∷ xs) = refl

next_offset : (at : ℕ) (items : List (List ℕ)) (i : ℕ) → i < length items → get_or (offsets at items) (suc i) 0 ≡ get_or (offsets at items) i 0 + length (get_or items i [])
next_offset at [] i h = absurd (omega arith)
next_offset at (x ∷ xs) zero h = first_offset (at + length x) xs
next_offset at (x ∷ xs) (suc i) h = next_offset (at + length x) xs i (omega arith)

offset_is : (at : ℕ) (items : List (List ℕ)) (i : ℕ) → i ≤ length items → get_or (offsets at items) i 0 ≡ at + length (concat (take i items))
offset_is at items zero h = first_offset at items ∙ omega arith
offset_is at [] (suc i) h = absurd (omega arith)
offset_is at (x ∷ xs) (suc i) h = rw (offset_is (at + length x) xs i (omega arith), length-append) (omega arith)

pub concat_split : (items : List (List ℕ)) (i : ℕ) (after : List ℕ) → i < length items → concat items ++ after ≡ concat (take i items) ++ (get_or items i [] ++ (concat (drop (suc i) items) ++ after))
concat_split [] i after h = absurd (omega arith)
concat_split (x ∷ xs) zero after h = append_assoc x (concat xs) after
concat_split (x ∷ xs) (suc i) after h =
    append_assoc x (concat xs) after ∙ ap (λ r. x ++ r) (concat_split xs i after (omega arith)) ∙ sym (append_assoc x (concat (take i xs)) _)

module _ (items : List (List ℕ)) (i : ℕ) (after : List ℕ) (h : i < length items) where
  slice : take (get_or (offsets 1 items) (suc i) 0 - get_or (offsets 1 items) i 0) (drop (get_or (offsets 1 items) i 0 - 1) (concat items ++ after)) ≡ get_or items i []
  slice =
      let n : get_or (offsets 1 items) (suc i) 0 - get_or (offsets 1 items) i 0 ≡ length (get_or items i []) = omega (arith, next_offset 1 items i h) in
      let d : get_or (offsets 1 items) i 0 - 1 ≡ length (concat (take i items)) = omega (arith, offset_is 1 items i (omega arith)) in
      rw (n, d, concat_split items i after h, drop_at _ _ _ refl, take_at _ _ _ refl)

  slice_after : drop (get_or (offsets 1 items) (suc i) 0 - 1) (concat items ++ after) ≡ concat (drop (suc i) items) ++ after
  slice_after =
      let e : length (concat (take i items) ++ get_or items i []) ≡ get_or (offsets 1 items) (suc i) 0 - 1 = simp length-append (omega (arith, next_offset 1 items i h, offset_is 1 items i (omega arith))) in
      rw (concat_split items i after h, ← (append_assoc (concat (take i items)) (get_or items i []) (concat (drop (suc i) items) ++ after)), drop_at (concat (take i items) ++ get_or items i []) _ _ e)

pub length-offsets : (size at : ℕ) (items : List (List ℕ)) → length (flat_map (be size) (offsets at items)) ≡ (length items + 1) * size
length-offsets size at [] = simp (length-append, length-be) (omega arith)
length-offsets size at (x ∷ xs) = simp (length-append, length-be, length-offsets size (at + length x) xs) (omega arith)

-- what an INDEX is made of, before anything
abbrev laid : List (List ℕ) → ℕ → List ℕ → List ℕ
laid items size after = be 4 (length items) ++ (be 1 size ++ (flat_map (be size) (offsets 1 items) ++ (concat items ++ after)))

length-laid : (items : List (List ℕ)) (size : ℕ) (after : List ℕ) → length (laid items size after) ≡ 5 + (length items + 1) * size + length (concat items ++ after)
length-laid items size after = simp (length-append, length-be, length-offsets) (omega arith)

module _ (end : ℕ) (items : List (List ℕ)) (size : ℕ) (after : List ℕ) (many : length items < 2 ^ 32) (small : size < 256) (sound : wrong_size size ≡ false) (room : 1 + length (concat items) < 256 ^ size) (i : ℕ) where
  fits : (o : ℕ) → o ≤ 1 + length (concat items) → ltb (length (laid items size after)) (4 + (length items + 1) * size + o) ≡ false
  fits o le = le-ltb _ _ (omega (arith, length-laid items size after, length-append (concat items) after))

  laid-item : i < length items → item end i (laid items size after) ≡ got (get_or items i []) (concat (drop (suc i) items) ++ after)
  unfolding item
  laid-item lt =
      rw (
        fixed_reads Index end 4 (length items) many _,
        lt-leb (length items) i lt,
        fixed_reads Index end 1 size small _,
        sound,
        offsets_read end size (λ o. ltb (length (laid items size after)) (4 + (length items + 1) * size + o)) (eqb 1) (1 + length (concat items)) 1 items (omega arith) room fits refl _,
        slice items i after lt,
        slice_after items i after lt,
      )

  laid_none : length items ≤ i → item end i (laid items size after) ≡ bad Missing (end - length (laid items size after)) Index
  unfolding item
  laid_none le = rw (fixed_reads Index end 4 (length items) many _, le-leb (length items) i le)

pub index_is : (x : List ℕ) (xs : List (List ℕ)) (after : List ℕ) → index (x ∷ xs) ++ after ≡ laid (x ∷ xs) (size_of (x ∷ xs)) after
unfolding index
index_is x xs after = simp append_assoc

empty_item : (end : ℕ) (after : List ℕ) (i : ℕ) → item end i (index [] ++ after) ≡ bad Missing (end - length (index [] ++ after)) Index
unfolding index item
empty_item end after i = rw (fixed_reads Index end 4 0 (omega arith) after, le-leb 0 i (omega arith))

pub length-index : (x : List ℕ) (xs : List (List ℕ)) → length (index (x ∷ xs)) ≡ 5 + (length (x ∷ xs) + 1) * size_of (x ∷ xs) + length (concat (x ∷ xs))
length-index x xs = simp append-nil at (ap length (index_is x xs []) ∙ length-laid (x ∷ xs) (size_of (x ∷ xs)) [])

concat_cut : (items : List (List ℕ)) (n : ℕ) → length (concat items) ≡ length (concat (take n items)) + length (concat (drop n items))
concat_cut items zero = omega arith
concat_cut [] (suc n) = refl
concat_cut (x ∷ xs) (suc n) = simp length-append (omega (arith, concat_cut xs n))

-- what of an INDEX lies after item i
pub after-item : (items : List (List ℕ)) (i : ℕ) → i < length items → length (index items) ≡ item_end items i + length (concat (drop (suc i) items))
after-item [] i lt = absurd (omega arith)
after-item (x ∷ xs) i lt = omega (arith, length-index x xs, concat_cut (x ∷ xs) (suc i))

pub many-items : (x : List ℕ) (xs : List (List ℕ)) → length (index (x ∷ xs)) < 2 ^ 32 → suc (length xs) < 2 ^ 32
many-items x xs h = omega (arith, length-index x xs, mul-le-mul_left (length (x ∷ xs) + 1) (at_least (1 + length (concat (x ∷ xs)))))

pub few_items : (items : List (List ℕ)) → length (index items) < 2 ^ 32 → length items < 2 ^ 32
few_items [] h = omega arith
few_items (x ∷ xs) h = many-items x xs h

pub index_some : (items : List (List ℕ)) → 0 < length (index items)
unfolding index
index_some [] = rw (length-be 4 0) (omega arith)
index_some (x ∷ xs) = omega (arith, length-index x xs)

-- the items of an INDEX, wherever the bytes end
pub items_read : (items : List (List ℕ)) → length (index items) < 2 ^ 32 → (end : ℕ) (after : List ℕ) (i : ℕ) →
    (i < length items → item end i (index items ++ after) ≡ got (get_or items i []) (concat (drop (suc i) items) ++ after)) ×
    (length items ≤ i → item end i (index items ++ after) ≡ bad Missing (end - length (index items ++ after)) Index)
items_read [] h end after i = (λ lt. absurd (omega arith), λ le. empty_item end after i)
items_read (x ∷ xs) h end after i =
    let e = length-index x xs in
    let size = size_of (x ∷ xs) in
    let many = many-items x xs h in
    let small : size < 256 = grind (arith, nat_tests) in
    let total : 1 + length (concat (x ∷ xs)) < 2 ^ 32 = omega arith in
    let room = fits_size (1 + length (concat (x ∷ xs))) total in
    let sound = sound_size (1 + length (concat (x ∷ xs))) in
    rw (index_is x xs after) (laid-item end (x ∷ xs) size after many small sound room i, laid_none end (x ∷ xs) size after many small sound room i)

pub indexes : IndexReadsBack
indexes items h before after =
    let bs = before ++ (index items ++ after) in
    let at : drop (length before) (before ++ (index items ++ after)) ≡ index items ++ after = drop_at before (index items ++ after) (length before) refl in
    let place : length (before ++ (index items ++ after)) - length (index items ++ after) ≡ length before = simp length-append (omega arith) in
    record {
      each_item = λ i lt. rw at ((items_read items h (length bs) after i).0 lt);
      no_item = λ i le. rw at ((items_read items h (length bs) after i).1 le ∙ ap (λ (p : ℕ). bad Missing p Index) place);
    }
