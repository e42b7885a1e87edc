-- A component record (VarComponent): flags, then the fields that are present.
use Rattle.std.specs.Prelude.{ℕ, zero, suc, ◌+◌, ◌*◌, ◌/◌, ◌%◌, Bool, true, false, cond, List, [], ◌∷◌, ◌++◌, map, length, ℤ, pos, is_some, Some, None, Option, ◌==◌, nat_lt, slice_index_or}
use Rattle.std.specs.Int.{w16}
use Rattle.std.proofs.Common.{to_z}
use Rattle.std.specs.List.{flat_map}
use Rattle.write.specs.Bytes.{be, signed16}
use Rattle.write.specs.Optional.{present}
use Rattle.format.specs.declared.Transform.{Transform}
use Rattle.format.specs.declared.Layer.TheVariants.{Record}
use Rattle.format.specs.Reads.{Read, got, then, fixed, optional}
use Rattle.format.specs.Number.{number, read_number}
use Rattle.format.specs.Packed.{packed, unpacked_due}
use Rattle.format.specs.Index.{concat}

-- A component as its record has it: the condition by its number, the axis values with the number of their axis list, the variations of
-- the axis values and of the transform by their slots.
pub record Component : Type 0 where
  pub reset : Bool
  pub gid : ℕ
  pub condition : Option ℕ
  pub axes : Option (ℕ × List ℤ)
  pub axes_slot : Option ℕ
  pub transform_slot : Option ℕ
  pub transform : Transform (Option ℤ)

-- The fields in the order in which they stand. One with a flag bit is there only where that bit is set. They do not stand in the order of
-- their bits: the condition (7) comes before the axes (1), skew (13, 14) before centre (10, 11).
--   flags                        a number
--   gid                          16 bits; 24 bits where bit 12 is set, GID_IS_24BIT
--   condition                    a number                        bit 7, HAVE_CONDITION
--   axis list, axis values       a number, then packed values    bit 1, HAVE_AXES
--   slot of the axis values      a number                        bit 2, AXIS_VALUES_HAVE_VARIATION
--   slot of the transform        a number                        bit 3, TRANSFORM_HAS_VARIATION
--   translate x, translate y     16 bits each, signed            bits 4, 5
--   rotation                     16 bits, signed                 bit 6
--   scale x, scale y             16 bits each, signed            bits 8, 9
--   skew x, skew y               16 bits each, signed            bits 13, 14
--   centre x, centre y           16 bits each, signed            bits 10, 11
-- Bit 0, RESET_UNSPECIFIED_AXES, has no field. Bits 15 to 31 are reserved: written as 0, and a reader passes over one number for each
-- that is set.

-- the nine numbers of the transform in the order of their fields
abbrev pub nine : Transform (Option ℤ) → List (Option ℤ)
nine t =
    t.translate_x ∷ t.translate_y ∷ t.rotation ∷ t.scale_x ∷ t.scale_y ∷ t.skew_x ∷ t.skew_y ∷
    t.center_x ∷ t.center_y ∷ []

-- the number with these bits, the lowest first
unfoldable pub bits_value : List Bool → ℕ
bits_value [] = 0
bits_value (b ∷ bs) = cond b 1 0 + 2 * bits_value bs

-- bit k of a number
unfoldable pub bit : ℕ → ℕ → Bool
bit zero n = n % 2 == 1
bit (suc k) n = bit k (n / 2)

-- the gid needs 24 bits
abbrev pub big : ℕ → Bool
big gid = nat_lt 0xFFFF gid

-- the flags, from bit 0 to bit 14
abbrev pub flags : Component → List Bool
flags c =
    let t = c.transform in
    c.reset ∷ is_some c.axes ∷ is_some c.axes_slot ∷ is_some c.transform_slot ∷ is_some t.translate_x ∷
    is_some t.translate_y ∷ is_some t.rotation ∷ is_some c.condition ∷ is_some t.scale_x ∷ is_some t.scale_y ∷
    is_some t.center_x ∷ is_some t.center_y ∷ big c.gid ∷ is_some t.skew_x ∷ is_some t.skew_y ∷ []

-- the number of the axis list, and the values
abbrev pub axes_bytes : ℕ × List ℤ → List ℕ
axes_bytes a = number a.0 ++ packed a.1

-- the gid in 24 bits where it needs them, else in 16
abbrev pub gid_bytes : ℕ → List ℕ
gid_bytes gid = cond (big gid) (be 3 gid) (be 2 gid)

-- the record
unfoldable pub component : Component → List ℕ
component c =
    concat (number (bits_value (flags c)) ∷ gid_bytes c.gid ∷ present number c.condition ∷
    present axes_bytes c.axes ∷ present number c.axes_slot ∷ present number c.transform_slot ∷
    flat_map (present signed16) (nine c.transform) ∷ [])

-- ---- the settled transform

-- a number, or what stands for it where it is absent
abbrev pub or_default : ℤ → Option ℤ → ℤ
or_default d None = d
or_default d (Some z) = z

-- an absent number is 0, an absent scale 1024 (1.0), each by itself: an absent scale y does not take scale x
abbrev pub settled : Transform (Option ℤ) → Transform ℤ
settled t = record {
  translate_x = or_default (pos 0) t.translate_x;
  translate_y = or_default (pos 0) t.translate_y;
  rotation = or_default (pos 0) t.rotation;
  scale_x = or_default (pos 1024) t.scale_x;
  scale_y = or_default (pos 1024) t.scale_y;
  skew_x = or_default (pos 0) t.skew_x;
  skew_y = or_default (pos 0) t.skew_y;
  center_x = or_default (pos 0) t.center_x;
  center_y = or_default (pos 0) t.center_y;
}

-- ---- reading; `end` is the place where the composite's records end

-- a gid, of 24 bits where the flag is set
abbrev pub read_gid : ℕ → Bool → List ℕ → Read ℕ
read_gid end true bs = fixed Record end 3 bs
read_gid end false bs = fixed Record end 2 bs

-- a signed number of 16 bits
abbrev pub read16 : ℕ → List ℕ → Read ℤ
read16 end bs = then (fixed Record end 2 bs) (λ n rest. got (to_z w16 n) rest)

-- the number of an axis list, the list looked up, and as many values
abbrev pub read_axes : (ℕ → Read (List ℤ)) → ℕ → List ℕ → Read (ℕ × List ℤ)
read_axes axis-list end bs =
    then (read_number end bs) (λ k rest.
    then (axis-list k) (λ axes _.
    then (unpacked_due end (length axes) rest) (λ vs rest'. got (k, vs) rest')))

-- a 16-bit number for each flag that is set
abbrev pub read_present : ℕ → List Bool → List ℕ → Read (List (Option ℤ))
read_present end [] bs = got [] bs
read_present end (b ∷ flags) bs =
    then (optional b (read16 end) bs) (λ x rest. then (read_present end flags rest) (λ xs rest'. got (x ∷ xs) rest'))

-- a number passed over for each flag that is set
abbrev pub skipped : ℕ → List Bool → List ℕ → Read (List ℕ)
skipped end [] bs = got [] bs
skipped end (true ∷ flags) bs = then (read_number end bs) (λ _ rest. skipped end flags rest)
skipped end (false ∷ flags) bs = skipped end flags bs

-- the transform whose nine numbers are these
abbrev pub transform_of : List (Option ℤ) → Transform (Option ℤ)
transform_of xs = record {
  translate_x = slice_index_or xs 0 None;
  translate_y = slice_index_or xs 1 None;
  rotation = slice_index_or xs 2 None;
  scale_x = slice_index_or xs 3 None;
  scale_y = slice_index_or xs 4 None;
  skew_x = slice_index_or xs 5 None;
  skew_y = slice_index_or xs 6 None;
  center_x = slice_index_or xs 7 None;
  center_y = slice_index_or xs 8 None;
}

-- the flag bits of the nine numbers, in the order of their fields
abbrev pub nine_bits : List ℕ
nine_bits = 4 ∷ 5 ∷ 6 ∷ 8 ∷ 9 ∷ 13 ∷ 14 ∷ 10 ∷ 11 ∷ []

-- the flag bits that no known field has
abbrev pub spare_bits : List ℕ
spare_bits = 15 ∷ 16 ∷ 17 ∷ 18 ∷ 19 ∷ 20 ∷ 21 ∷ 22 ∷ 23 ∷ 24 ∷ 25 ∷ 26 ∷ 27 ∷ 28 ∷ 29 ∷ 30 ∷ 31 ∷ []

-- a record, whose axis lists are looked up by `axis-list`
unfoldable pub read_component : (ℕ → Read (List ℤ)) → ℕ → List ℕ → Read Component
read_component axis-list end bs =
    then (read_number end bs) (λ f r₁.
    then (read_gid end (bit 12 f) r₁) (λ gid r₂.
    then (optional (bit 7 f) (read_number end) r₂) (λ condition r₃.
    then (optional (bit 1 f) (read_axes axis-list end) r₃) (λ axes r₄.
    then (optional (bit 2 f) (read_number end) r₄) (λ axes_slot r₅.
    then (optional (bit 3 f) (read_number end) r₅) (λ transform_slot r₆.
    then (read_present end (map (λ k. bit k f) nine_bits) r₆) (λ xs r₇.
    then (skipped end (map (λ k. bit k f) spare_bits) r₇) (λ _ rest.
    got (record {
      reset = bit 0 f;
      gid = gid;
      condition = condition;
      axes = axes;
      axes_slot = axes_slot;
      transform_slot = transform_slot;
      transform = transform_of xs;
    }) rest))))))))
