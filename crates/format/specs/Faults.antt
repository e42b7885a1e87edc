-- The faults' numbers.
use Rattle.std.specs.Prelude.{ℕ}
use Rattle.format.specs.declared.FaultKind.{FaultKind}
use Rattle.format.specs.declared.FaultKind.TheVariants.{Cut, Past, Wrong, LongRun, Missing}

-- bytes end inside a field
abbrev pub fault_number : FaultKind → ℕ
fault_number Cut = 20
-- an offset points past the table, or is 0 where none may be
fault_number Past = 21
-- a wrong version, format, offset size, first number byte or INDEX offset, or values that the regions do not divide
fault_number Wrong = 22
-- a run passes the count due
fault_number LongRun = 23
-- no such composite, component, axis list, slot or region
fault_number Missing = 24
