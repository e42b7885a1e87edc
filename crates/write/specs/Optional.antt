-- What may be absent.
use Rattle.std.specs.Prelude.{ℕ, List, [], Some, None, Option}

-- the bytes of what is there, and none of what is absent
abbrev pub present : {T : Type 0} → (T → List ℕ) → Option T → List ℕ
present write None = []
present write (Some x) = write x
