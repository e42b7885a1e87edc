use Rattle.std.proofs.Common.{◌≡◌, ◌+◌, ◌++◌, length, take, drop}
use Rattle.deltas.specs.Regions.{kept}
use Rattle.deltas.proofs.regions.put_kept.Given as goal

abbrev pub invariant-loop-c : goal.invariant-loop-c
invariant-loop-c l =
    (l.end + length (kept (drop l.c-index l.from)) ≡ l.filled + length (kept l.from))
    × (take l.end l.list ++ kept (drop l.c-index l.from) ≡ take l.filled l.initial.list ++ kept l.from)
