-- Regions, as they are handed in and as a job holds them.
use Rattle.std.specs.Prelude.{◌≡◌, Bool, not, List, ◌∷◌, map, pos, Some, None, filter, Option, ◌≢◌, refl}
use Rattle.std.specs.Borrow.{Bor}
use Rattle.std.specs.Ordering.{int_eq}
use Rattle.format.specs.declared.Coordinate.{Coordinate}
use Rattle.keys.specs.Lent.{lent}
use Rattle.keys.specs.Sameness.{Sameness, numbers, integers, pairs, lists, by_parts}
use Rattle.memory.specs.Lists.{part}
use Rattle.memory.specs.declared.records.Span.{Span}
use Rattle.deltas.specs.declared.regions.HeldRegion.{HeldRegion}

-- A coordinate whose peak is not zero: one of zero peak does not narrow a region.
abbrev pub has_peak : Coordinate → Bool
has_peak c = not (int_eq c.peak (pos 0))

-- The region of coordinates that are handed in: zero peaks are dropped.
abbrev pub kept : List Coordinate → List Coordinate
kept = filter has_peak

-- The region begins with this coordinate, and more follows; or it does not.
abbrev pub GoesOn : List Coordinate → Coordinate → Option (Bor (List Coordinate)) → Type 0
GoesOn region c (Some more) = region ≡ c ∷ more.now
GoesOn region c None = (more : List Coordinate) → region ≢ c ∷ more

-- Coordinates are the same where axis, start, peak and end are.
abbrev pub coordinate_sameness : Sameness Coordinate
coordinate_sameness =
    by_parts (λ c. (c.axis, (c.start, (c.peak, c.end)))) (λ p. record { axis = p.0; start = p.1.0; peak = p.1.1.0; end = p.1.1.1 }) (λ c. refl)
    (pairs numbers (pairs integers (pairs integers integers)))

-- Regions are the same where their coordinates are, in turn.
abbrev pub region_sameness : Sameness (List Coordinate)
region_sameness = lists coordinate_sameness

-- The regions that a job holds, each at its number.
abbrev pub regions_of : List Coordinate → List Span → List (List Coordinate)
regions_of cs rs = map (λ r. part r cs) rs

-- These coordinates as a region that is held.
abbrev pub held : List Coordinate → HeldRegion
held cs = record { coordinates = lent cs }
