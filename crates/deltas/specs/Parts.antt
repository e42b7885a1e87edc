-- How the parts of a delta set lie on the coordinates and the values that are handed in.
use Rattle.std.specs.Prelude.{◌≡◌, ℕ, sum_by, List, [], ◌∷◌, map, take, drop}
use Rattle.std.specs.List.{AllByRecursion}
use Rattle.format.specs.declared.Coordinate.{Coordinate}
use Rattle.keys.specs.Numbers.{AscendingNumbers}
use Rattle.deltas.specs.declared.parts.Part.{Part}

-- The axis counts of all parts together.
abbrev pub axes_total : List Part → ℕ
axes_total = sum_by (λ p. p.axes)

-- The value counts of all parts together.
abbrev pub values_total : List Part → ℕ
values_total = sum_by (λ p. p.values)

-- The parts' counts add up to so many coordinates and so many values.
pub record AddUp (parts : List Part) (axes values : ℕ) : Type 0 where
  pub axes_add_up : axes_total parts ≡ axes
  pub values_add_up : values_total parts ≡ values

-- How many values each tuple has: the first part's value count, 0 where there is no part.
abbrev pub tuple_len : List Part → ℕ
tuple_len [] = 0
tuple_len (p ∷ ps) = p.values

-- All parts have as many values.
abbrev pub Level : List Part → Type 0
Level ps = AllByRecursion (λ p. p.values ≡ tuple_len ps) ps

-- The coordinates of each part: they lie one part after the other.
abbrev pub cuts : List Part → List Coordinate → List (List Coordinate)
cuts [] cs = []
cuts (p ∷ ps) cs = take p.axes cs ∷ cuts ps (drop p.axes cs)

-- The axis numbers strictly ascend.
abbrev pub Ascends : List Coordinate → Type 0
Ascends cs = AscendingNumbers (map (λ c. c.axis) cs)
