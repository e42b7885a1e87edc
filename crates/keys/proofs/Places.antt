-- Where keys first came, and tables of different keys.
use Rattle.std.proofs.Common.{◌≡◌, ℕ, zero, suc, ◌+◌, ◌<◌, ◌≤◌, Bool, true, false, cond, List, [], ◌∷◌, map, length, get_or, Some, None, Option, sym, refl, ap, ◌∙◌, ⊎_elim, arith, below_more}
use Rattle.std.specs.Option.{option_map}
use Rattle.std.proofs.lemmas.List.{get_or-map, length-map}
use Rattle.std.proofs.lemmas.Bool.{cases_lt}
use Rattle.std.proofs.lemmas.Bool.Decides.{not_from_Decides}
use Rattle.keys.specs.Sameness.{Sameness}
use Rattle.keys.specs.Places.{FirstAt, Nowhere, First, place}

-- a key has one first place at most
pub first_unique : {M : Type 0} (ks : List M) (key : M) (p q : Option ℕ) → First ks key p → First ks key q → p ≡ q
first_unique ks key None None a b = refl
first_unique ks key None (Some j) a b = absurd (a.nowhere j b.within b.here)
first_unique ks key (Some i) None a b = absurd (b.nowhere i a.within a.here)
first_unique ks key (Some i) (Some j) a b =
    ⊎_elim (λ less. absurd (b.not_before i less a.here))
    (λ more. ⊎_elim (λ less. absurd (a.not_before j less b.here)) (λ more'. let e : i ≡ j = omega arith in ap Some e) (cases_lt j i))
    (cases_lt i j)

module _ {M : Type 0} (same : Sameness M) where
  -- one key more in front
  step : (k key : M) (ks : List M) (b : Bool) → same.test k key ≡ b → (p : Option ℕ) → First ks key p → First (k ∷ ks) key (cond b (Some 0) (option_map suc p))
  step k key ks true e p h = record { within = omega arith; here = (same.exact k key).0 e; not_before = λ j l. absurd (omega arith) }
  step k key ks false e None h = record { nowhere = other }
    where
      other : (j : ℕ) → j < length (k ∷ ks) → get_or (k ∷ ks) j key ≡ key → ⊥
      other zero l is = not_from_Decides _ (same.exact k key) e is
      other (suc j) l is = h.nowhere j (omega arith) is
  step k key ks false e (Some i) h = record { within = omega (arith, h.within); here = h.here; not_before = other }
    where
      other : (j : ℕ) → j < suc i → get_or (k ∷ ks) j key ≡ key → ⊥
      other zero l is = not_from_Decides _ (same.exact k key) e is
      other (suc j) l is = h.not_before j (omega arith) is

  pub place_first : (ks : List M) (key : M) → First ks key (place same ks key)
  place_first [] key = record { nowhere = λ j l. absurd (omega arith) }
  place_first (k ∷ ks) key = step k key ks (same.test k key) refl (place same ks key) (place_first ks key)

  pub first_is_place : (ks : List M) (key : M) (p : Option ℕ) → First ks key p → p ≡ place same ks key
  first_is_place ks key p h = first_unique ks key p (place same ks key) h (place_first ks key)

-- one place of a search
module _ {K M : Type 0} (meaning : K → M) (keys : List K) (key : M) (i : ℕ) where
  abbrev pub NotBelow : Type 0
  NotBelow = (j : ℕ) → j < i → get_or (map meaning keys) j key ≡ key → ⊥

  module _ (k : K) (l : i < length keys) (is : meaning k ≡ meaning (get_or keys i k)) where
    read : get_or (map meaning keys) i key ≡ meaning k
    read = get_or-map meaning keys i k key l ∙ sym is

    pub search_found : NotBelow → meaning k ≡ key → FirstAt (map meaning keys) key i
    search_found inv e = record { within = omega (arith, length-map keys meaning); here = read ∙ e; not_before = inv }

    pub search_goes : NotBelow → (meaning k ≡ key → ⊥) → (j : ℕ) → j < i + 1 → get_or (map meaning keys) j key ≡ key → ⊥
    search_goes inv ne = below_more _ i inv (λ e. ne (sym read ∙ e))

  pub search_ends : length keys ≤ i → NotBelow → Nowhere (map meaning keys) key
  search_ends l inv = record { nowhere = λ j b. inv j (omega (arith, length-map keys meaning)) }
