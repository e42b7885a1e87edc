-- A record reads back.
use Rattle.std.proofs.Common.{IfSome, ◌≡◌, ℕ, zero, suc, ◌+◌, ◌*◌, ◌/◌, ◌^◌, ◌<◌, Bool, true, false, cond, List, [], ◌∷◌, ◌++◌, map, length, get_or, ℤ, is_some, Option, refl, ap, ◌∙◌, append_assoc, arith, w16}
use native.Mathlib.Nat.{pow-succ'}
use Rattle.std.proofs.lemmas.Bool.{ltb-false, eq-eqb, ne_eqb}
use Rattle.std.specs.List.{AllByRecursion, flat_map}
use Rattle.format.specs.Fits.{Fits16, AxesFit}
use Rattle.format.specs.Laws.{ComponentsReadBack}
use Rattle.write.specs.Bytes.{be, signed16}
use Rattle.write.specs.Optional.{present}
use Rattle.format.specs.declared.Layer.TheVariants.{Record}
use Rattle.format.specs.Reads.{Read, got, optional}
use Rattle.format.specs.Number.{number, read_number}
use Rattle.format.specs.Packed.{packed}
use Rattle.format.specs.Component.{Component, nine, bits_value, bit, flags, big, axes_bytes, gid_bytes, component, read_gid, read16, read_axes, read_present, read_component}
use Rattle.format.proofs.Fixed.{fixed_reads, signed_reads, optional_reads}
use Rattle.format.proofs.Numbers.{numbers}
use Rattle.format.proofs.Packs.{packs}

bit_value : (bs : List Bool) (k : ℕ) → bit k (bits_value bs) ≡ get_or bs k false
unfolding bit bits_value
bit_value [] zero = refl
bit_value [] (suc k) = bit_value [] k
bit_value (true ∷ bs) zero = eq-eqb _ _ (omega arith)
bit_value (false ∷ bs) zero = ne_eqb _ _ (omega arith)
bit_value (true ∷ bs) (suc k) = let e : (1 + 2 * bits_value bs) / 2 ≡ bits_value bs = omega arith in ap (bit k) e ∙ bit_value bs k
bit_value (false ∷ bs) (suc k) = let e : (0 + 2 * bits_value bs) / 2 ≡ bits_value bs = omega arith in ap (bit k) e ∙ bit_value bs k

bits_small : (bs : List Bool) → bits_value bs < 2 ^ length bs
unfolding bits_value
bits_small [] = omega arith
bits_small (true ∷ bs) = omega (arith, bits_small bs, pow-succ' 2 (length bs))
bits_small (false ∷ bs) = omega (arith, bits_small bs, pow-succ' 2 (length bs))

gid_reads : (end gid : ℕ) → gid < 2 ^ 24 → (rest : List ℕ) → read_gid end (big gid) (gid_bytes gid ++ rest) ≡ got gid rest
gid_reads end gid h rest = at (big gid) refl
  where
    at : (b : Bool) → big gid ≡ b → read_gid end b (cond b (be 3 gid) (be 2 gid) ++ rest) ≡ got gid rest
    at true e = fixed_reads Record end 3 gid h rest
    at false e = fixed_reads Record end 2 gid (omega (arith, ltb-false 0xFFFF gid e)) rest

axes_read : (axis-list : ℕ → Read (List ℤ)) (end : ℕ) (a : ℕ × List ℤ) → AxesFit axis-list a → (rest : List ℕ) → read_axes axis-list end (axes_bytes a ++ rest) ≡ got a rest
axes_read axis-list end a f rest =
    rw (append_assoc (number a.0) (packed a.1) rest, (numbers a.0 f.number_fits end _).shortest, f.listed, f.same_length, (packs a.1 f.values_fit end).1 rest)

present_read : (end : ℕ) (xs : List (Option ℤ)) → AllByRecursion (λ x. IfSome x Fits16) xs → (rest : List ℕ) → read_present end (map is_some xs) (flat_map (present signed16) xs ++ rest) ≡ got xs rest
present_read end [] h rest = refl
present_read end (x ∷ xs) h rest =
    rw (
      append_assoc (present signed16 x) (flat_map (present signed16) xs) rest,
      optional_reads Fits16 signed16 (read16 end) (λ z f r. signed_reads Record end w16 z 2 refl f r) x h.0 _,
      present_read end xs h.1 rest,
    )

component_is : (c : Component) (after : List ℕ) → component c ++ after ≡ number (bits_value (flags c)) ++ (gid_bytes c.gid ++ (present number c.condition ++ (present axes_bytes c.axes ++ (present number c.axes_slot ++ (present number c.transform_slot ++ (flat_map (present signed16) (nine c.transform) ++ after))))))
unfolding component
component_is c after = simp append_assoc

number-held : (end : ℕ) (o : Option ℕ) → IfSome o (λ n. n < 2 ^ 32) → (rest : List ℕ) → optional (is_some o) (read_number end) (present number o ++ rest) ≡ got o rest
number-held end o h rest = optional_reads (λ n. n < 2 ^ 32) number (read_number end) (λ n f r. (numbers n f end r).shortest) o h rest

flags_small : (c : Component) → bits_value (flags c) < 2 ^ 32
flags_small c = omega (arith, bits_small (flags c))

pub components : ComponentsReadBack
unfolding read_component
components axis-list c f end after =
    rw (component_is c after, (numbers (bits_value (flags c)) (flags_small c) end _).shortest)
    (simp bit_value
    (rw (
      gid_reads end c.gid f.gid_fits _,
      number-held end c.condition f.condition_fits _,
      optional_reads (AxesFit axis-list) axes_bytes (read_axes axis-list end) (axes_read axis-list end) c.axes f.axes_fit _,
      number-held end c.axes_slot f.axes_slot_fits _,
      number-held end c.transform_slot f.transform_slot_fits _,
      present_read end (nine c.transform) f.transform_fits after,
    )))
