-- The length of an INDEX, and its parts one after the other.
use Rattle.std.proofs.Common.{◌≡◌, ℕ, zero, suc, ◌+◌, ◌<◌, ◌≤◌, false, eqb, List, [], ◌∷◌, ◌++◌, length, get_or, take, drop, Ok, Err, Result, sym, refl, ap, ◌∙◌, subst, append_assoc, append-nil, mul-le-mul_left, arith, length-append}
use Rattle.std.specs.List.{flat_map, fold, range_with_len}
use Rattle.std.proofs.lemmas.List.{take_more, take_all, drop_more, flat_map_more}
use Rattle.std.proofs.lemmas.Bool.{ne_eqb}
use Rattle.std.proofs.lemmas.Bool.Decides.{nat_tests}
use Rattle.sink.specs.Meaning.{Meaning, Takes, Stops, WhileRoom}
use Rattle.sink.proofs.Feeding.{Leaves, leaves_step, leaves_stop, leaves_end, takes_then, stops_then}
use Rattle.write.specs.Bytes.{be}
use Rattle.format.specs.Index.{concat, offsets, offset_size, size_of, index}
use Rattle.format.proofs.Fixed.{length-be}
use Rattle.format.proofs.Indexes.{at_least, length-index, concat_split}
use Rattle.encode.specs.Lengths.{measured}
use Rattle.index.specs.declared.index.Measure.{Measure}
use Rattle.index.specs.Measures.{index_length, Measures}
use Rattle.sink.specs.Kinds.{longest}

-- the length of an INDEX, by what was measured of its items
pub length_is : (items : List (List ℕ)) (count data-len : ℕ) → count ≡ length items → data-len ≡ length (concat items) → index_length count data-len ≡ length (index items)
unfolding index
length_is [] count data-len e f = rw (e, length-be 4 0)
length_is (x ∷ xs) count data-len e f =
    let z : eqb (suc (length xs)) 0 ≡ false = ne_eqb (suc (length xs)) 0 (λ h. omega arith) in
    rw (e, f, z) (sym (length-index x xs))

-- an INDEX is longer than its count, and than its items
pub index_longer : (items : List (List ℕ)) → (length items ≤ length (index items)) × (length (concat items) ≤ length (index items))
index_longer [] = (omega arith, omega arith)
index_longer (x ∷ xs) =
    let e = length-index x xs in
    let m = mul-le-mul_left (length (x ∷ xs) + 1) (at_least (1 + length (concat (x ∷ xs)))) in
    (omega (arith, e, m), omega (arith, e))

module _ (items : List (List ℕ)) (i : ℕ) (lt : i < length items) where
  -- one item more
  pub concat-more : length (concat (take (i + 1) items)) ≡ length (concat (take i items)) + length (get_or items i [])
  concat-more =
      ap (λ xs. length (concat xs)) (take_more items i [] lt) ∙
      ap length (sym (flat_map_more (λ (x : List ℕ). x) [] (take i items) (get_or items i []))) ∙
      length-append (concat (take i items)) (get_or items i [])

  pub concat_within : length (concat (take i items)) + length (get_or items i []) ≤ length (concat items)
  concat_within = omega (arith, simp (append-nil, length-append) at (ap length (concat_split items i [] lt)))

  -- what is left at an item
  pub items-next : concat (drop i items) ≡ get_or items i [] ++ concat (drop (i + 1) items)
  items-next = ap concat (drop_more items i [] lt)

  pub offsets-next : (size at at' : ℕ) → at' ≡ at + length (get_or items i []) → flat_map (be size) (offsets at (drop i items)) ≡ be size at ++ flat_map (be size) (offsets at' (drop (i + 1) items))
  offsets-next size at at' e = rw (drop_more items i [] lt, e)

-- adding up the lengths of the n items from place a on
pub lens_from : (items : List (List ℕ)) (n a : ℕ) → a + n ≡ length items →
    fold (λ sum i. measured (sum + measured (length (get_or items i [])))) (measured (length (concat (take a items)))) (range_with_len a n) ≡ measured (length (concat items))
lens_from items zero a e = ap (λ xs. measured (length (concat xs))) (take_all a items (omega arith))
lens_from items (suc n) a e =
    let more = concat-more items a (omega arith) in
    let step : measured (measured (length (concat (take a items))) + measured (length (get_or items a []))) ≡ measured (length (concat (take (a + 1) items))) = omega (arith, more) in
    subst (λ start. fold (λ sum i. measured (sum + measured (length (get_or items i [])))) start (range_with_len (a + 1) n) ≡ measured (length (concat items))) (sym step) (lens_from items n (a + 1) (omega arith))

-- the parts of an INDEX that has items
byte : (n : ℕ) → n < 256 → be 1 n ≡ n ∷ []
unfolding be
byte n h = ap (λ (b : ℕ). b ∷ []) (omega arith)

some_parts : (x : List ℕ) (xs : List (List ℕ)) → let items = x ∷ xs in index items ≡ (be 4 (length items) ++ (size_of items ∷ [])) ++ (flat_map (be (size_of items)) (offsets 1 items) ++ concat items)
unfolding index
some_parts x xs =
    let items = x ∷ xs in
    let rest = flat_map (be (size_of items)) (offsets 1 items) ++ concat items in
    let small : size_of items < 256 = grind (arith, nat_tests) in
    ap (λ z. be 4 (length items) ++ (z ++ rest)) (byte (size_of items) small) ∙ sym (append_assoc (be 4 (length items)) (size_of items ∷ []) rest)

pub index_parts : (items : List (List ℕ)) (count size : ℕ) → count ≡ length items → (count ≡ 0 → ⊥) → size ≡ size_of items →
    index items ≡ (be 4 count ++ (size ∷ [])) ++ (flat_map (be size) (offsets 1 items) ++ concat items)
index_parts [] count size e h f = absurd (h e)
index_parts (x ∷ xs) count size e h f =
    let items = x ∷ xs in
    let sized = subst (λ s. index items ≡ (be 4 (length items) ++ (s ∷ [])) ++ (flat_map (be s) (offsets 1 items) ++ concat items)) (sym f) (some_parts x xs) in
    subst (λ n. index items ≡ (be 4 n ++ (size ∷ [])) ++ (flat_map (be size) (offsets 1 items) ++ concat items)) (sym e) sized

pub index_none : (items : List (List ℕ)) (count : ℕ) → count ≡ length items → count ≡ 0 → index items ≡ be 4 0
unfolding index
index_none [] count e z = refl
index_none (x ∷ xs) count e z = absurd (omega arith)

pub size_few : (last : ℕ) → offset_size last ≤ 4
size_few last = grind (arith, nat_tests)

-- an INDEX by what was measured of its items
module _ (items : List (List ℕ)) (m : Measure) (is : Measures items m) where
  pub measured_length : index_length m.count m.data_len ≡ length (index items)
  measured_length = length_is items m.count m.data_len is.count is.bytes

  pub measured_parts : (size : ℕ) → (m.count ≡ 0 → ⊥) → size ≡ offset_size (1 + m.data_len) →
      index items ≡ (be 4 m.count ++ (size ∷ [])) ++ (flat_map (be size) (offsets 1 items) ++ concat items)
  measured_parts size some e = index_parts items m.count size is.count some (e ∙ ap (λ n. offset_size (1 + n)) is.bytes)

  pub measured_none : m.count ≡ 0 → index items ≡ be 4 0
  measured_none none = index_none items m.count is.count none

  pub measured_few : length (concat items) ≤ longest
  measured_few = omega (arith, is.short, (index_longer items).1)

-- after some bytes, the last ones, written or not
pub last_part : {S X E : Type 0} {m : Meaning S} {s t : S} (u : S) (xs ys zs : List ℕ) (r : Result X E) → Takes m s (xs ++ ys) t → WhileRoom m t zs r u → WhileRoom m s (xs ++ (ys ++ zs)) r u
last_part {m = m} {s = s} u xs ys zs (Ok x) p q = subst (λ all. Takes m s all u) (append_assoc xs ys zs) (takes_then p q)
last_part {m = m} {s = s} u xs ys zs (Err x) p q = subst (λ all. Stops m s all u) (append_assoc xs ys zs) (stops_then p q)

-- the last part of what is left, written or not
pub leaves_last : {S X E : Type 0} {m : Meaning S} {s t : S} {whole rest xs : List ℕ} (u : S) (r : Result X E) → Leaves m s whole rest t → rest ≡ xs → WhileRoom m t xs r u → WhileRoom m s whole r u
leaves_last {xs = xs} u (Ok x) p e q = leaves_end (leaves_step [] p q (e ∙ sym (append-nil xs))) refl
leaves_last {xs = xs} u (Err x) p e q = leaves_stop [] p q (e ∙ sym (append-nil xs))
