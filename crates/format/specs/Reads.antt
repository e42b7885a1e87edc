-- Reading: from the bytes that are left to a value and the bytes after it, or to a fault.
-- A reader is told the place where its bytes end, counted from the table's start. The place of what it reads next is that end less
-- the bytes left, so what it reads does not depend on where the bytes lie. Inside an item of an INDEX that end is the item's.
-- Faults: Cut, bytes end inside a field; Past, an offset points past the table, or is 0 where none may be; Wrong, a wrong version,
-- format, offset size, first number byte or INDEX offset, or values that the regions do not divide; LongRun, a run passes the count
-- due; Missing, no such composite, component, axis list, slot or region.
use Rattle.std.specs.Prelude.{ℕ, zero, suc, ◌+◌, ◌-◌, ◌*◌, Bool, true, false, cond, ◌&&◌, ◌||◌, List, [], ◌∷◌, length, take, drop, Some, None, Ok, Err, Option, Result, ◌==◌, nat_le}
use Rattle.format.specs.declared.FaultKind.TheVariants.{Cut, Past}
use Rattle.format.specs.declared.Fault.{Fault}
use Rattle.format.specs.declared.FaultKind.{FaultKind}
use Rattle.format.specs.declared.Layer.{Layer}

-- a value and the bytes after it; or a fault: what it is, its place, its layer
pub data Read (X : Type 0) : Type 0 where
  got : X → List ℕ → Read X
  bad : FaultKind → ℕ → Layer → Read X

-- go on with the value and the bytes after it; a fault stops the reading
abbrev pub then : {X Y : Type 0} → Read X → (X → List ℕ → Read Y) → Read Y
then (got x rest) f = f x rest
then (bad n place layer) f = bad n place layer

-- the same reading, with a fault put at the place where the part began
abbrev pub put_at : {X : Type 0} → ℕ → Read X → Read X
put_at place (got x rest) = got x rest
put_at place (bad kind _ layer) = bad kind place layer

-- k more bytes of a number that stands at `place` and began with `high`
abbrev pub more : Layer → ℕ → ℕ → ℕ → List ℕ → Read ℕ
more layer place zero high bs = got high bs
more layer place (suc k) high [] = bad Cut place layer
more layer place (suc k) high (b ∷ bs) = more layer place k (high * 256 + b) bs

-- a number of k bytes, the most significant first
unfoldable pub fixed : Layer → ℕ → ℕ → List ℕ → Read ℕ
fixed layer end k bs = more layer (end - length bs) k 0 bs

-- n values, one after the other
abbrev pub many : {X : Type 0} → (List ℕ → Read X) → ℕ → List ℕ → Read (List X)
many reader zero bs = got [] bs
many reader (suc n) bs = then (reader bs) (λ x rest. then (many reader n rest) (λ xs rest'. got (x ∷ xs) rest'))

-- a value that is there only where the flag is set
abbrev pub optional : {X : Type 0} → Bool → (List ℕ → Read X) → List ℕ → Read (Option X)
optional true reader bs = then (reader bs) (λ x rest. got (Some x) rest)
optional false reader bs = got None bs

-- A 32-bit offset of a part, counted from the start of the bytes `from`, which go on to the table's end: it points before that end,
-- and is not 0 where the part is needed.
abbrev pub part_offset : Layer → ℕ → Bool → List ℕ → List ℕ → Read ℕ
part_offset layer end needed from bs =
    then (fixed layer end 4 bs) (λ o rest.
    cond ((needed && o == 0) || nat_le (length from) o) (bad Past (end - length bs) layer) (got o rest))

-- the bytes from a up to b
abbrev pub between : List ℕ → ℕ → ℕ → List ℕ
between bs a b = take (b - a) (drop a bs)

-- a fault: what it is, its place, its layer
abbrev pub fault : FaultKind → ℕ → Layer → Fault
fault kind place layer = record { kind = kind; place = place; layer = layer }

-- what a call answers that reads bytes up to the place `end`: the value and the next place, or the fault
abbrev pub answer : {X : Type 0} → ℕ → Read X → Result (X × ℕ) Fault
answer end (got x rest) = Ok (x, end - length rest)
answer end (bad kind place layer) = Err (fault kind place layer)

-- what a question answers: the value, or the fault
abbrev pub outcome : {X : Type 0} → Read X → Result X Fault
outcome (got x rest) = Ok x
outcome (bad kind place layer) = Err (fault kind place layer)
