-- References to values, where it does not matter where they lie.
use Rattle.std.specs.Borrow.{Bor}

-- Some reference to this value.
abbrev pub lent : {X : Type 0} → X → Bor X
lent x = record { ref_ptr = (0, 0); now = x }
