-- Packed values (packed deltas): runs of at most 64 values of one width, each after a control byte.
use Rattle.std.specs.Prelude.{◌≡◌, ℕ, zero, suc, ◌+◌, ◌-◌, ◌/◌, ◌%◌, ◌^◌, ◌<◌, Bool, true, false, cond, List, [], ◌∷◌, ◌++◌, length, ℤ, pos, negsuc, nat_lt}
use Rattle.std.specs.Int.Signed.{mag}
use Rattle.std.specs.Int.{w8, w16, w32}
use Rattle.std.proofs.Common.{to_z}
use Rattle.write.specs.Bytes.{signed8, signed16, signed32}
use Rattle.format.specs.declared.FaultKind.TheVariants.{Cut, LongRun}
use Rattle.format.specs.declared.Width.{Width}
use Rattle.format.specs.declared.Width.TheVariants.{Zero, One, Two, Four}
use Rattle.format.specs.declared.Layer.TheVariants.{Values}
use Rattle.format.specs.Reads.{Read, got, bad, then, put_at, many, fixed}

-- ---- writing: which runs the values are cut into

-- the width of a value that is not 0: of n, or of -1 - n
abbrev pub by_size : ℕ → Width
by_size m = cond (nat_lt m 0x80) One (cond (nat_lt m 0x8000) Two Four)

-- the least width that holds a value: 0 needs no bytes
abbrev pub wide : ℤ → Width
wide (pos zero) = Zero
wide (pos (suc n)) = by_size (suc n)
wide (negsuc n) = by_size n

-- no byte wide
abbrev pub is_zero : Width → Bool
is_zero Zero = true
is_zero One = false
is_zero Two = false
is_zero Four = false

-- at most one byte wide
abbrev pub is_narrow : Width → Bool
is_narrow Zero = true
is_narrow One = true
is_narrow Two = false
is_narrow Four = false

-- the next value passes a test on its width
abbrev pub next : (Width → Bool) → List ℤ → Bool
next test [] = false
next test (v ∷ vs) = test (wide v)

-- Does a run of the first width stop before a value of the second, which the values `vs` follow?
-- Zeros stop before anything else. One-byte runs stop before a wider value and before two zeros. Two-byte runs stop before a zero, before a
-- four-byte value, and before a one-byte value that a zero or a one-byte value follows. Four-byte runs stop before any narrower value.
abbrev pub stops : Width → Width → List ℤ → Bool
stops Zero Zero vs = false
stops Zero One vs = true
stops Zero Two vs = true
stops Zero Four vs = true
stops One Zero vs = next is_zero vs
stops One One vs = false
stops One Two vs = true
stops One Four vs = true
stops Two Zero vs = true
stops Two One vs = next is_narrow vs
stops Two Two vs = false
stops Two Four vs = true
stops Four Zero vs = true
stops Four One vs = true
stops Four Two vs = true
stops Four Four vs = false

-- how many of the values go on with a run of that width, at most m
abbrev pub goes_on : Width → ℕ → List ℤ → ℕ
goes_on w zero vs = 0
goes_on w (suc m) [] = 0
goes_on w (suc m) (v ∷ vs) = cond (stops w (wide v) vs) 0 (suc (goes_on w m vs))

-- the next run: its length and its width; the first value sets the width
abbrev pub next_run : List ℤ → ℕ × Width
next_run [] = (0, Zero)
next_run (v ∷ vs) = (suc (goes_on (wide v) 63 vs), wide v)

-- the control byte of a run of n + 1 values: the width in the upper two bits, n in the lower six
abbrev pub control : Width → ℕ → ℕ
control Zero n = 0x80 + n
control One n = n
control Two n = 0x40 + n
control Four n = 0xC0 + n

-- a width holds a value: 0, or one in the range of that many bytes (the magnitude of z is z, or -1 - z where z is negative)
abbrev pub Holds : Width → ℤ → Type 0
Holds Zero v = v ≡ pos 0
Holds One v = mag v < 2 ^ 7
Holds Two v = mag v < 2 ^ 15
Holds Four v = mag v < 2 ^ 31

-- a value of a run, in two's complement
abbrev pub bytes : Width → ℤ → List ℕ
bytes Zero v = []
bytes One v = signed8 v
bytes Two v = signed16 v
bytes Four v = signed32 v

-- the values, where the next k still belong to a run of width w
unfoldable pub pack : ℕ → Width → List ℤ → List ℕ
pack k w [] = []
pack zero w (v ∷ vs) = let n = goes_on (wide v) 63 vs in control (wide v) n ∷ bytes (wide v) v ++ pack n (wide v) vs
pack (suc k) w (v ∷ vs) = bytes w v ++ pack k w vs

-- the values, run by run
abbrev pub packed : List ℤ → List ℕ
packed vs = pack 0 Zero vs

-- ---- reading

-- a value of that width
abbrev pub read_value : ℕ → Width → List ℕ → Read ℤ
read_value end Zero bs = got (pos 0) bs
read_value end One bs = then (fixed Values end 1 bs) (λ n rest. got (to_z w8 n) rest)
read_value end Two bs = then (fixed Values end 2 bs) (λ n rest. got (to_z w16 n) rest)
read_value end Four bs = then (fixed Values end 4 bs) (λ n rest. got (to_z w32 n) rest)

-- the width that the upper two bits of a control byte say
abbrev pub kind : ℕ → Width
kind zero = One
kind (suc zero) = Two
kind (suc (suc zero)) = Zero
kind (suc (suc (suc n))) = Four

-- a run: its control byte, then its values; cut, the fault is at the control byte
abbrev pub read_run : ℕ → List ℕ → Read (List ℤ)
read_run end [] = bad Cut end Values
read_run end (c ∷ bs) = put_at (end - suc (length bs)) (many (read_value end (kind (c / 64))) (c % 64 + 1) bs)

-- all the values, to the end of the bytes, in at most `fuel` runs
unfoldable pub unpack_all : ℕ → ℕ → List ℕ → Read (List ℤ)
unpack_all end fuel [] = got [] []
unpack_all end zero (c ∷ bs) = got [] (c ∷ bs)
unpack_all end (suc fuel) (c ∷ bs) =
    then (read_run end (c ∷ bs)) (λ vs rest. then (unpack_all end fuel rest) (λ others rest'. got (vs ++ others) rest'))

-- the same: each run has a byte at least, so there are no more runs than bytes
abbrev pub unpacked : ℕ → List ℕ → Read (List ℤ)
unpacked end bs = unpack_all end (length bs) bs

-- as many values as are due, in at most `fuel` runs; a run that passes the count is at fault, at its control byte
unfoldable pub unpack_due : ℕ → ℕ → ℕ → List ℕ → Read (List ℤ)
unpack_due end fuel zero bs = got [] bs
unpack_due end zero (suc d) bs = got [] bs
unpack_due end (suc fuel) (suc d) bs =
    then (read_run end bs) (λ vs rest.
    cond (nat_lt (suc d) (length vs)) (bad LongRun (end - length bs) Values)
    (then (unpack_due end fuel (suc d - length vs) rest) (λ others rest'. got (vs ++ others) rest')))

-- the same: each run has a value at least, so there are no more runs than values
abbrev pub unpacked_due : ℕ → ℕ → List ℕ → Read (List ℤ)
unpacked_due end due bs = unpack_due end due due bs
