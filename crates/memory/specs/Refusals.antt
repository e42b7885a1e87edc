-- The numbers of refusals.
use Rattle.std.specs.Prelude.{ℕ}
use Rattle.memory.specs.declared.refusal.Refusal.{Refusal}
use Rattle.memory.specs.declared.refusal.Refusal.TheVariants.{Memory, PartCounts, TupleLengths, AxisOrder, RegionOrder, NoRoom, Limit, GlyphId, UnknownId, IsOpen, NotOpen, Coverage, TooLong, SinkFull}

abbrev pub number : Refusal → ℕ
number Memory = 1
number PartCounts = 2
number TupleLengths = 3
number AxisOrder = 4
number RegionOrder = 5
number NoRoom = 6
number Limit = 7
number GlyphId = 8
number UnknownId = 9
number IsOpen = 10
number NotOpen = 11
number Coverage = 12
number TooLong = 13
number SinkFull = 14
