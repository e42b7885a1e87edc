-- The number of a sink's refusal.
use Rattle.std.specs.Prelude.{ℕ}
use Rattle.sink.specs.declared.sink.Full.{Full}

-- 14: the sink can take fewer bytes than are needed
abbrev pub number : Full → ℕ
number full = 14
