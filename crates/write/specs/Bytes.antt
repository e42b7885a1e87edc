-- Numbers as bytes, the most significant first.
use Rattle.std.specs.Prelude.{ℕ, zero, suc, ◌/◌, ◌%◌, ◌^◌, List, [], ◌∷◌, ℤ}
use Rattle.std.specs.Int.{w8, w16, w32}
use Rattle.std.proofs.Common.{of_z}

-- n in k bytes
unfoldable pub be : ℕ → ℕ → List ℕ
be zero n = []
be (suc k) n = n / 256 ^ k % 256 ∷ be k n

-- signed numbers of 8, 16 and 32 bits, in two's complement: a negative z stands as 2 ^ bits + z
abbrev pub signed8 : ℤ → List ℕ
signed8 z = be 1 (of_z w8 z)

abbrev pub signed16 : ℤ → List ℕ
signed16 z = be 2 (of_z w16 z)

abbrev pub signed32 : ℤ → List ℕ
signed32 z = be 4 (of_z w32 z)
