-- Tables of different keys, as they grow.
use Rattle.std.proofs.Common.{◌≡◌, ℕ, suc, ◌<◌, Bool, true, false, cond, ◌||◌, List, [], ◌∷◌, ◌++◌, length, get_or, is_some, Some, None, Ok, Option, sym, refl, ap, ◌∙◌, subst, ⊎_elim, arith}
use Rattle.std.specs.Option.{option_map, ok_or}
use Rattle.std.proofs.lemmas.List.{append_assoc, append-nil, length_push, get_or_push, get_or_append_left, get_or_default}
use Rattle.std.proofs.lemmas.Bool.{cases_lt, or_right, cond-true, cond-false}
use Rattle.std.proofs.lemmas.Bool.Decides.{same_from_decides, Decides-like}
use Rattle.keys.specs.Sameness.{Sameness}
use Rattle.keys.specs.Places.{FirstAt, Nowhere, First, Distinct, number, place, placed, with_key, grown, without, firsts, TableLaws}
use Rattle.keys.proofs.Places.{place_first, first_is_place}

-- a place in a list with one more at its end
module _ {M : Type 0} (ks : List M) (key : M) where
  pub first_new : Nowhere ks key → FirstAt (ks ++ key ∷ []) key (length ks)
  first_new h =
      record { within = omega (arith, length_push ks key); here = get_or_push ks key key (length ks) refl; not_before = λ j l e. h.nowhere j l (sym (get_or_append_left ks (key ∷ []) key j l) ∙ e) }

  pub first_stays : (k : M) (i : ℕ) → FirstAt ks k i → FirstAt (ks ++ key ∷ []) k i
  first_stays k i h =
      record {
        within = omega (arith, length_push ks key, h.within);
        here = get_or_append_left ks (key ∷ []) k i h.within ∙ h.here;
        not_before = λ j l e. h.not_before j l (sym (get_or_append_left ks (key ∷ []) k j (omega (arith, h.within))) ∙ e);
      }

  pub distinct_new : Nowhere ks key → Distinct ks → Distinct (ks ++ key ∷ [])
  distinct_new h old = record { apart = apart' }
    where
      apart' : (i j : ℕ) (d : M) → i < j → j < length (ks ++ key ∷ []) → get_or (ks ++ key ∷ []) i d ≡ get_or (ks ++ key ∷ []) j d → ⊥
      apart' i j d l b e =
          let below : i < length ks = omega (arith, length_push ks key) in
          let at_i = get_or_append_left ks (key ∷ []) d i below in
          ⊎_elim (λ less. old.apart i j d l less (sym at_i ∙ e ∙ get_or_append_left ks (key ∷ []) d j less))
          (λ more.
          let last : length ks ≡ j = omega (arith, length_push ks key) in
          h.nowhere i below (get_or_default ks i key d below ∙ sym at_i ∙ e ∙ get_or_push ks key d j last))
          (cases_lt j (length ks))

module _ {M : Type 0} (same : Sameness M) where
  -- by whether the key is there
  module _ (ks : List M) (key : M) where
    found_by : (p : Option ℕ) → place same ks key ≡ p → First ks key p → placed same (cond (is_some p) ks (ks ++ key ∷ [])) key ≡ Ok (number (ok_or p (length ks)))
    found_by (Some i) e h = ap (λ q. ok_or q (length ks)) e
    found_by None e h = ap (λ q. ok_or q (length (ks ++ key ∷ []))) (sym (first_is_place same (ks ++ key ∷ []) key (Some (length ks)) (first_new ks key h)))

    pub found : placed same (with_key same ks key) key ≡ Ok (number (placed same ks key))
    found = found_by (place same ks key) refl (place_first same ks key)

    stays_by : (k : M) (i : ℕ) → FirstAt ks k i → (b : Bool) → place same (cond b ks (ks ++ key ∷ [])) k ≡ Some i
    stays_by k i h true = sym (first_is_place same ks k (Some i) h)
    stays_by k i h false = sym (first_is_place same (ks ++ key ∷ []) k (Some i) (first_stays ks key k i h))

    pub stays_one : (k : M) (i : ℕ) → place same ks k ≡ Some i → place same (with_key same ks key) k ≡ Some i
    stays_one k i e = stays_by k i (subst (First ks k) e (place_first same ks k)) (is_some (place same ks key))

    distinct_by : (p : Option ℕ) → First ks key p → Distinct ks → Distinct (cond (is_some p) ks (ks ++ key ∷ []))
    distinct_by (Some i) h old = old
    distinct_by None h old = distinct_new ks key h old

    pub distinct_one : Distinct ks → Distinct (with_key same ks key)
    distinct_one old = distinct_by (place same ks key) (place_first same ks key) old

  pub stays : (ks more : List M) (k : M) (i : ℕ) → place same ks k ≡ Some i → place same (grown same ks more) k ≡ Some i
  stays ks [] k i e = e
  stays ks (m ∷ more) k i e = stays (with_key same ks m) more k i (stays_one ks m k i e)

  pub distinct : (ks more : List M) → Distinct ks → Distinct (grown same ks more)
  distinct ks [] old = old
  distinct ks (m ∷ more) old = distinct (with_key same ks m) more (distinct_one ks m old)

  -- the keys that are not there yet
  abbrev lacking : List M → List M → List M
  lacking ks [] = []
  lacking ks (x ∷ xs) = cond (is_some (place same ks x)) (lacking ks xs) (x ∷ lacking ks xs)

  lacking-nil : (xs : List M) → lacking [] xs ≡ xs
  lacking-nil [] = refl
  lacking-nil (x ∷ xs) = ap (λ ys. x ∷ ys) (lacking-nil xs)

  -- a key that is there may be left out before
  known_by : (ks xs : List M) (key x : M) → is_some (place same ks key) ≡ true → (b : Bool) → same.test x key ≡ b → lacking ks (without same key xs) ≡ lacking ks xs → lacking ks (cond b (without same key xs) (x ∷ without same key xs)) ≡ lacking ks (x ∷ xs)
  known_by ks xs key x is true e rest =
      rest ∙ sym (cond-true (is_some (place same ks x)) (lacking ks xs) (x ∷ lacking ks xs) (ap (λ k. is_some (place same ks k)) ((same.exact x key).0 e) ∙ is))
  known_by ks xs key x is false e rest = ap (λ ys. cond (is_some (place same ks x)) ys (x ∷ ys)) rest

  lacking_known : (ks : List M) (key : M) → is_some (place same ks key) ≡ true → (xs : List M) → lacking ks (without same key xs) ≡ lacking ks xs
  lacking_known ks key is [] = refl
  lacking_known ks key is (x ∷ xs) = known_by ks xs key x is (same.test x key) refl (lacking_known ks key is xs)

  or_none : (a b : Bool) → b ≡ false → (a || b) ≡ a
  or_none true b e = refl
  or_none false b e = e

  is_some_by : (b : Bool) → is_some (cond b (Some 0) (option_map suc None)) ≡ b
  is_some_by true = refl
  is_some_by false = refl

  is_some_or : (a b : Bool) (p q : Option ℕ) → is_some q ≡ (is_some p || b) → is_some (cond a (Some 0) (option_map suc q)) ≡ (is_some (cond a (Some 0) (option_map suc p)) || b)
  is_some_or true b p q e = refl
  is_some_or false b None None e = e
  is_some_or false b None (Some j) e = e
  is_some_or false b (Some i) None e = e
  is_some_or false b (Some i) (Some j) e = e

  -- with one more key, what is there is what was there, and that key
  there : (ks : List M) (key x : M) → is_some (place same (ks ++ key ∷ []) x) ≡ (is_some (place same ks x) || same.test key x)
  there [] key x = is_some_by (same.test key x)
  there (k ∷ ks) key x = is_some_or (same.test k x) (same.test key x) (place same ks x) (place same (ks ++ key ∷ []) x) (there ks key x)

  turned : (a b : M) → same.test a b ≡ same.test b a
  turned a b = same_from_decides _ _ (same.exact a b) (Decides-like (same.test b a) sym sym (same.exact b a))

  -- the keys that a list with one more lacks
  more_by : (ks xs : List M) (key x : M) (b : Bool) → same.test x key ≡ b → lacking (ks ++ key ∷ []) xs ≡ lacking ks (without same key xs) → lacking (ks ++ key ∷ []) (x ∷ xs) ≡ lacking ks (cond b (without same key xs) (x ∷ without same key xs))
  more_by ks xs key x true e rest =
      cond-true (is_some (place same (ks ++ key ∷ []) x)) _ _ (there ks key x ∙ or_right (is_some (place same ks x)) (same.test key x) (turned key x ∙ e)) ∙ rest
  more_by ks xs key x false e rest =
      ap (λ b. cond b (lacking (ks ++ key ∷ []) xs) (x ∷ lacking (ks ++ key ∷ []) xs)) (there ks key x ∙ or_none (is_some (place same ks x)) (same.test key x) (turned key x ∙ e))
      ∙ ap (λ ys. cond (is_some (place same ks x)) ys (x ∷ ys)) rest

  lacking-more : (ks : List M) (key : M) (xs : List M) → lacking (ks ++ key ∷ []) xs ≡ lacking ks (without same key xs)
  lacking-more ks key [] = refl
  lacking-more ks key (x ∷ xs) = more_by ks xs key x (same.test x key) refl (lacking-more ks key xs)

  -- one key comes
  comes : (ks ys : List M) (key : M) (b : Bool) → is_some (place same ks key) ≡ b → cond b ks (ks ++ key ∷ []) ++ lacking (cond b ks (ks ++ key ∷ [])) ys ≡ ks ++ lacking ks (key ∷ without same key ys)
  comes ks ys key true e =
      ap (λ xs. ks ++ xs) (sym (lacking_known ks key e ys) ∙ sym (cond-true (is_some (place same ks key)) (lacking ks (without same key ys)) (key ∷ lacking ks (without same key ys)) e))
  comes ks ys key false e =
      append_assoc ks (key ∷ []) (lacking (ks ++ key ∷ []) ys)
      ∙ ap (λ xs. ks ++ xs) (ap (λ xs. key ∷ xs) (lacking-more ks key ys) ∙ sym (cond-false (is_some (place same ks key)) (lacking ks (without same key ys)) (key ∷ lacking ks (without same key ys)) e))

  grown_is : (ks more : List M) → grown same ks more ≡ ks ++ lacking ks (firsts same more)
  grown_is ks [] = sym (append-nil ks)
  grown_is ks (m ∷ more) = grown_is (with_key same ks m) more ∙ comes ks (firsts same more) m (is_some (place same ks m)) refl

  from_empty : (more : List M) → grown same [] more ≡ firsts same more
  from_empty more = grown_is [] more ∙ lacking-nil (firsts same more)

  pub table_laws : TableLaws same
  table_laws =
      record {
        found = found;
        stays = stays;
        keeps_distinct = distinct;
        from_empty = from_empty;
        distinct = λ more. subst Distinct (from_empty more) (distinct [] more (record { apart = λ i j d l b e. omega arith }));
      }
