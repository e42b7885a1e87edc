use Rattle.memory.specs.Groups.{region_lists}
use Rattle.memory.proofs.Groups.{Walked}
use Rattle.memory.proofs.fit.groups.SetRegions.groups_fit.Given as goal

abbrev pub invariant-loop-i : goal.invariant-loop-i
invariant-loop-i l = Walked (region_lists l.self.entries.now l.self.sets.now) l.i l.groups
