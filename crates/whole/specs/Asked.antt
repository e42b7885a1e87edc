-- What is asked of a whole value.
use Rattle.std.specs.Prelude.{◌≡◌, ℕ, ◌<◌, ◌≤◌, List, length, take, Ok, Err, Result}
use Rattle.sink.specs.Checksums.{checksum}
use Rattle.sink.specs.Kinds.{longest}
use Rattle.whole.specs.declared.DirectoryEntry.{DirectoryEntry}

-- the most bytes that a number of the machine can count
abbrev pub countable : ℕ
countable = 18446744073709551615

-- A table's directory entry: the checksum and the length of its bytes; refused exactly where they are more than a table may have.
abbrev pub Enters : {E : Type 0} → List ℕ → Result DirectoryEntry E → Type 0
Enters xs (Ok e) = (e.checksum ≡ checksum xs) × (e.length ≡ length xs) × (length xs ≤ longest)
Enters xs (Err _) = longest < length xs

-- The bytes xs put at the start of a slice, and their number answered; refused exactly where the slice is too short, which
-- leaves it as it was.
abbrev pub Encodes : {E : Type 0} → List ℕ → List ℕ → Result ℕ E → List ℕ → Type 0
Encodes before xs (Ok n) after = (n ≡ length xs) × (take n after ≡ xs)
Encodes before xs (Err _) after = (length before < length xs) × (after ≡ before)
