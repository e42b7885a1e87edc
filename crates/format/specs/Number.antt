-- A variable-length number of up to 32 bits, in one to five bytes (uint32var).
use Rattle.std.specs.Prelude.{ℕ, suc, ◌+◌, ◌-◌, cond, List, [], ◌∷◌, length, ◌==◌, nat_lt}
use Rattle.write.specs.Bytes.{be}
use Rattle.format.specs.declared.FaultKind.TheVariants.{Cut, Wrong}
use Rattle.format.specs.declared.Layer.TheVariants.{Record}
use Rattle.format.specs.Reads.{Read, got, bad, more}

-- the first byte raised
abbrev pub raised : ℕ → List ℕ → List ℕ
raised by [] = []
raised by (b ∷ bs) = (b + by) ∷ bs

-- The shortest form: 7, 14, 21 or 28 bits in one to four bytes, the top bits of the first byte telling the length (0, 10, 110, 1110);
-- from 0x10000000 on 0xF0 and four bytes.
abbrev pub number : ℕ → List ℕ
number n =
    cond (nat_lt n 0x80) (be 1 n)
    (cond (nat_lt n 0x4000) (raised 0x80 (be 2 n))
    (cond (nat_lt n 0x200000) (raised 0xC0 (be 3 n))
    (cond (nat_lt n 0x10000000) (raised 0xE0 (be 4 n)) (0xF0 ∷ be 4 n))))

-- Any form, also a longer one: the first byte says how many follow, and none above 0xF0 is a first byte. A fault is at the first byte.
abbrev pub read_number : ℕ → List ℕ → Read ℕ
read_number end [] = bad Cut end Record
read_number end (b ∷ bs) =
    let place = end - suc (length bs) in
    cond (nat_lt b 0x80) (got b bs)
    (cond (nat_lt b 0xC0) (more Record place 1 (b - 0x80) bs)
    (cond (nat_lt b 0xE0) (more Record place 2 (b - 0xC0) bs)
    (cond (nat_lt b 0xF0) (more Record place 3 (b - 0xE0) bs)
    (cond (b == 0xF0) (more Record place 4 0 bs) (bad Wrong place Record)))))
