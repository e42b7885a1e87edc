-- Which components and contents can be written: their counts and numbers fit their fields.
use Rattle.std.specs.Prelude.{◌≡◌, ℕ, ◌^◌, ◌<◌, List, [], length, ℤ, IfSome, slice_index_or}
use Rattle.std.specs.Int.Signed.{mag}
use Rattle.std.specs.List.{AllByRecursion}
use Rattle.format.specs.declared.Coordinate.{Coordinate}
use Rattle.format.specs.Reads.{Read, got}
use Rattle.format.specs.Component.{Component, nine}
use Rattle.format.specs.Store.{Subtable}
use Rattle.format.specs.Table.{Content}

-- a signed number of 16 bits (`mag` of a negative number -1 - n is n)
abbrev pub Fits16 : ℤ → Type 0
Fits16 z = mag z < 2 ^ 15

-- a signed number of 32 bits
abbrev pub Fits32 : ℤ → Type 0
Fits32 z = mag z < 2 ^ 31

-- axis values fit the axis list of their number, as it is looked up
pub record AxesFit (axis-list : ℕ → Read (List ℤ)) (a : ℕ × List ℤ) : Type 0 where
  pub number_fits : a.0 < 2 ^ 32
  pub values_fit : AllByRecursion Fits32 a.1
  pub axes : List ℤ
  pub rest : List ℕ
  pub listed : axis-list a.0 ≡ got axes rest
  pub same_length : length axes ≡ length a.1

-- a component's numbers fit their fields
pub record ComponentFits (Axes : ℕ × List ℤ → Type 0) (c : Component) : Type 0 where
  pub gid_fits : c.gid < 2 ^ 24
  pub condition_fits : IfSome c.condition (λ n. n < 2 ^ 32)
  pub axes_fit : IfSome c.axes Axes
  pub axes_slot_fits : IfSome c.axes_slot (λ n. n < 2 ^ 32)
  pub transform_slot_fits : IfSome c.transform_slot (λ n. n < 2 ^ 32)
  pub transform_fits : AllByRecursion (λ x. IfSome x Fits16) (nine c.transform)

-- axis values fit the axis list of their number, which the content has
pub record AxesListed (lists : List (List ℕ)) (a : ℕ × List ℤ) : Type 0 where
  pub listed : a.0 < length lists
  pub values_fit : AllByRecursion Fits32 a.1
  pub same_length : length (slice_index_or lists a.0 []) ≡ length a.1

-- a delta set has a tuple for each region, all of one length
pub record SetFits (regions : ℕ) (tuples : List (List ℤ)) : Type 0 where
  pub each_region : length tuples ≡ regions
  pub size : ℕ
  pub same_size : AllByRecursion (λ t. (length t ≡ size) × AllByRecursion Fits32 t) tuples

-- at most 65,535 regions and delta sets
pub record SubtableFits (g : Subtable) : Type 0 where
  pub few_regions : length g.over < 2 ^ 16
  pub regions_fit : AllByRecursion (λ r. r < 2 ^ 16) g.over
  pub few_sets : length g.sets < 2 ^ 16
  pub sets_fit : AllByRecursion (SetFits (length g.over)) g.sets

-- an axis number of 16 bits, and three signed numbers of 16 bits
pub record CoordinateFits (c : Coordinate) : Type 0 where
  pub axis_fits : c.axis < 2 ^ 16
  pub start_fits : Fits16 c.start
  pub peak_fits : Fits16 c.peak
  pub end_fits : Fits16 c.end

-- the content's counts and numbers fit their fields
pub record Sound (k : Content) : Type 0 where
  pub few_regions : length k.regions < 2 ^ 16
  pub regions_fit : AllByRecursion (λ cs. (length cs < 2 ^ 16) × AllByRecursion CoordinateFits cs) k.regions
  pub few_subtables : length k.subtables < 2 ^ 16
  pub subtables_fit : AllByRecursion SubtableFits k.subtables
  pub axes_fit : AllByRecursion (AllByRecursion (λ a. a < 2 ^ 16)) k.axis_lists
  pub composites_fit : AllByRecursion (AllByRecursion (ComponentFits (AxesListed k.axis_lists))) k.composites
