-- The root of a table reads back, and leads to its parts.
use Rattle.std.proofs.Common.{◌≡◌, ℕ, suc, ◌+◌, ◌-◌, ◌^◌, ◌<◌, ◌≤◌, Bool, true, false, ◌&&◌, eqb, List, [], ◌∷◌, ◌++◌, length, get_or, take, drop, refl, ap, ◌∙◌, append-nil, arith, length-append}
use Rattle.std.proofs.lemmas.List.{drop_at, take_at}
use Rattle.std.proofs.lemmas.Bool.{lt-leb, ne_eqb}
use Rattle.write.specs.Bytes.{be}
use Rattle.format.specs.declared.Layer.{Layer}
use Rattle.format.specs.declared.Layer.TheVariants.{Table}
use Rattle.format.specs.Reads.{got, fixed, part_offset, between}
use Rattle.format.specs.Index.{concat}
use Rattle.format.specs.Table.{Root, place_of, root_of, laid_out, root}
use Rattle.format.proofs.Fixed.{fixed_reads, length-be}
use Rattle.format.proofs.Indexes.{concat_split}

-- what stands at the place of part i
pub drop-part : (parts : List (List ℕ)) (after : List ℕ) (i p : ℕ) → i < length parts → length (concat (take i parts)) ≡ p →
    drop p (concat parts ++ after) ≡ get_or parts i [] ++ (concat (drop (suc i) parts) ++ after)
drop-part parts after i p h e = rw (concat_split parts i after h, drop_at (concat (take i parts)) _ p e)

drop-whole : (parts : List (List ℕ)) (i p : ℕ) → i < length parts → length (concat (take i parts)) ≡ p →
    drop p (concat parts) ≡ get_or parts i [] ++ concat (drop (suc i) parts)
drop-whole parts i p h e = simp append-nil at (drop-part parts [] i p h e)

pub part_reads : (l : Layer) (end : ℕ) (needed : Bool) (from : List ℕ) (o : ℕ) (rest : List ℕ) → o < 2 ^ 32 → o < length from → (needed && eqb o 0) ≡ false →
    part_offset l end needed from (be 4 o ++ rest) ≡ got o rest
part_reads l end needed from o rest h lt n = rw (fixed_reads l end 4 o h rest, n, lt-leb (length from) o lt)

place_le : (at : ℕ) (bs : List ℕ) → place_of at bs ≤ at
place_le at [] = omega arith
place_le at (b ∷ bs) = omega arith

pub place_is : (at : ℕ) (bs : List ℕ) → 0 < length bs → place_of at bs ≡ at
place_is at [] h = absurd (omega arith)
place_is at (b ∷ bs) h = refl

-- a root whose offsets lie within the table
root_reads : (bs rest : List ℕ) (o₁ o₂ o₃ o₄ o₅ : ℕ) → bs ≡ be 4 0x10000 ++ (be 4 o₁ ++ (be 4 o₂ ++ (be 4 o₃ ++ (be 4 o₄ ++ (be 4 o₅ ++ rest))))) → length bs < 2 ^ 32 →
    0 < o₁ → 0 < o₅ → o₁ < length bs → o₂ < length bs → o₃ < length bs → o₄ < length bs → o₅ < length bs →
    root bs ≡ got (record { coverage = o₁; store = o₂; conditions = o₃; axis_lists = o₄; composites = o₅ }) rest
unfolding root
root_reads bs rest o₁ o₂ o₃ o₄ o₅ e h s₁ s₅ h₁ h₂ h₃ h₄ h₅ =
    let end = length bs in
    let e₀ : fixed Table (length bs) 4 bs ≡ got 0x10000 (be 4 o₁ ++ (be 4 o₂ ++ (be 4 o₃ ++ (be 4 o₄ ++ (be 4 o₅ ++ rest))))) =
    ap (fixed Table (length bs) 4) e ∙ fixed_reads Table (length bs) 4 0x10000 (omega arith) _ in
    rw (
      e₀,
      part_reads Table end true bs o₁ _ (omega arith) h₁ (ne_eqb o₁ 0 (omega arith)),
      part_reads Table end false bs o₂ _ (omega arith) h₂ refl,
      part_reads Table end false bs o₃ _ (omega arith) h₃ refl,
      part_reads Table end false bs o₄ _ (omega arith) h₄ refl,
      part_reads Table end true bs o₅ rest (omega arith) h₅ (ne_eqb o₅ 0 (omega arith)),
    )

module _ (coverage stores conditions axes composites : List ℕ) where
  abbrev pub whole : List ℕ
  whole = concat (laid_out coverage stores conditions axes composites)

  abbrev r : Root
  r = root_of coverage stores conditions axes

  pub whole_length : length whole ≡ 24 + length coverage + length stores + length conditions + length axes + length composites
  whole_length = simp (length-append, length-be) (omega arith)

  pub whole-root : length whole < 2 ^ 32 → 0 < length composites → root whole ≡ got (root_of coverage stores conditions axes) (concat (coverage ∷ stores ∷ conditions ∷ axes ∷ composites ∷ []))
  whole-root h c =
      let n = whole_length in
      let a = place_le (24 + length coverage) stores in
      let b = place_le (24 + length coverage + length stores) conditions in
      root_reads whole _ 24 r.store r.conditions r.axis_lists r.composites refl h (omega arith) (omega arith) (omega arith) (omega arith) (omega arith) (omega arith) (omega arith)

  pub at_composites : drop (root_of coverage stores conditions axes).composites whole ≡ composites ++ []
  at_composites = drop-whole (laid_out coverage stores conditions axes composites) 10 r.composites (omega arith) (simp (length-append, length-be) (omega arith))

  pub at_axes : drop (root_of coverage stores conditions axes).axis_lists whole ≡ axes ++ (composites ++ [])
  at_axes = drop-whole (laid_out coverage stores conditions axes composites) 9 r.axis_lists (omega arith) (simp (length-append, length-be) (omega arith))

  pub at_store : 0 < length stores → drop (root_of coverage stores conditions axes).store whole ≡ stores ++ (conditions ++ (axes ++ (composites ++ [])))
  at_store h =
      drop-whole (laid_out coverage stores conditions axes composites) 7 r.store (omega arith)
      (simp (length-append, length-be, place_is (24 + length coverage) stores h) (omega arith))

  pub at_coverage : drop (root_of coverage stores conditions axes).coverage whole ≡ coverage ++ (stores ++ (conditions ++ (axes ++ (composites ++ []))))
  at_coverage = drop-whole (laid_out coverage stores conditions axes composites) 6 24 (omega arith) (simp (length-append, length-be) (omega arith))

  pub at_conditions : 0 < length conditions → drop (root_of coverage stores conditions axes).conditions whole ≡ conditions ++ (axes ++ (composites ++ []))
  at_conditions h =
      drop-whole (laid_out coverage stores conditions axes composites) 8 r.conditions (omega arith)
      (simp (length-append, length-be, place_is (24 + length coverage + length stores) conditions h) (omega arith))

-- the bytes of a part
pub between_is : (bs part rest : List ℕ) (p : ℕ) → drop p bs ≡ part ++ rest → between bs p (p + length part) ≡ part
between_is bs part rest p e =
    let n : p + length part - p ≡ length part = omega arith in
    rw (n, e, take_at part rest (length part) refl)

pub between_none : (bs part : List ℕ) (p : ℕ) → length part ≡ 0 → between bs p (p + length part) ≡ part
between_none bs [] p e = let n : p + 0 - p ≡ 0 = omega arith in rw n
between_none bs (b ∷ part) p e = absurd (omega arith)
