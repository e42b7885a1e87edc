-- Regions compared, one coordinate after the other.
use Rattle.std.proofs.Common.{◌≡◌, ℕ, ◌+◌, ◌-◌, ◌<◌, Bool, true, false, cond, eqb, List, [], ◌∷◌, map, length, get_or, take, drop, Decides, sym, ap, ◌∙◌, arith}
use Rattle.std.proofs.lemmas.List.{at_drop_more, nil_from_length, take_rest, drop_more, length-map, get_or-map, map-id}
use Rattle.std.proofs.lemmas.Bool.{false≢true, cond-true, cond-false, eqb-true, eq-eqb}
use Rattle.std.proofs.lemmas.Simd.{map-map}
use Rattle.format.specs.declared.Coordinate.{Coordinate}
use Rattle.memory.specs.Lists.{part}
use Rattle.memory.specs.declared.records.Span.{Span}
use Rattle.deltas.specs.Regions.{has_peak, kept, held, regions_of}
use Rattle.deltas.specs.declared.regions.HeldRegion.{HeldRegion}

-- the coordinates that have a peak, one after the other
module _ (cs : List Coordinate) (i : ℕ) (d : Coordinate) (r : Bool) (l : i < length cs) (is : r ≡ has_peak (get_or cs i d)) where
  kept_step : kept (drop i cs) ≡ cond (has_peak (get_or cs i d)) (get_or cs i d ∷ kept (drop (i + 1) cs)) (kept (drop (i + 1) cs))
  kept_step = at_drop_more kept cs i d l

  pub kept_next : r ≡ true → kept (drop i cs) ≡ get_or cs i d ∷ kept (drop (i + 1) cs)
  kept_next h = kept_step ∙ cond-true (has_peak (get_or cs i d)) _ _ (sym is ∙ h)

  pub kept_skip : r ≡ false → kept (drop i cs) ≡ kept (drop (i + 1) cs)
  kept_skip h = kept_step ∙ cond-false (has_peak (get_or cs i d)) _ _ (sym is ∙ h)

-- a region whose first coordinate is this one
pub begins : (region : List Coordinate) (d c : Coordinate) (r : Bool) → 0 < length region → Decides r (get_or region 0 d ≡ c) → r ≡ true → region ≡ c ∷ take (length region - 1) (drop 1 region)
begins region d c r some is e = drop_more region 0 d some ∙ ap (λ x. x ∷ drop 1 region) (is.0 e) ∙ ap (λ xs. c ∷ xs) (sym (take_rest region 1))

-- a held region, by its number
pub held_at : (cs : List Coordinate) (rs : List Span) (i : ℕ) (r : Span) (k : HeldRegion) → i < length rs → k.coordinates.now ≡ part (get_or rs i r) cs → k.coordinates.now ≡ (get_or (map held (regions_of cs rs)) i k).coordinates.now
held_at cs rs i r k l e =
    e ∙ sym (get_or-map (λ s. part s cs) rs i r [] l)
    ∙ ap (λ h. h.coordinates.now) (sym (get_or-map held (regions_of cs rs) i [] k (omega (arith, length-map rs (λ s. part s cs)))))

-- what held regions mean
pub held-means : (rs : List (List Coordinate)) → map (λ k. k.coordinates.now) (map held rs) ≡ rs
held-means rs = map-map (λ k. k.coordinates.now) held rs ∙ map-id rs

-- A region agrees with the coordinates that are left exactly where the whole does.
pub record Agree (rest left known whole : List Coordinate) : Type 0 where
  pub there : rest ≡ left → known ≡ whole
  pub back : known ≡ whole → rest ≡ left

module _ (rest left known whole : List Coordinate) (agree : Agree rest left known whole) where
  pub agree_skips : (more : List Coordinate) → left ≡ more → Agree rest more known whole
  agree_skips more e = record { there = λ h. agree.there (h ∙ sym e); back = λ h. agree.back h ∙ e }

  module _ (c : Coordinate) (later : List Coordinate) (next : left ≡ c ∷ later) where
    pub agree_stops : ((more : List Coordinate) → rest ≡ c ∷ more → ⊥) → Decides false (known ≡ whole)
    agree_stops other = ((λ e. absurd (false≢true e)), λ h. absurd (other later (agree.back h ∙ next)))

    pub agree_goes : (more : List Coordinate) → rest ≡ c ∷ more → Agree more later known whole
    agree_goes more e =
        record { there = λ h. agree.there (e ∙ ap (λ xs. c ∷ xs) h ∙ sym next); back = λ h. ap (drop 1) (sym e ∙ agree.back h ∙ next) }

  pub agree_ends : (r : Bool) → r ≡ eqb (length rest) 0 → left ≡ [] → Decides r (known ≡ whole)
  agree_ends r is e =
      ((λ h. agree.there (nil_from_length rest (eqb-true (length rest) 0 (sym is ∙ h)) ∙ sym e)), λ h. is ∙ eq-eqb (length rest) 0 (ap length (agree.back h ∙ e)))
