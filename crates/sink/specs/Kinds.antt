-- What the sinks of this crate mean.
use Rattle.std.specs.Prelude.{◌≡◌, ℕ, [], ◌∷◌, length, take}
use Rattle.std.proofs.Common.{ap, ◌∙◌}
use Rattle.std.proofs.lemmas.List.{length-take-le}
use Rattle.sink.specs.Meaning.{Meaning}
use Rattle.sink.specs.Checksums.{checksum}
use Rattle.sink.specs.declared.buffer.Buffer.{Buffer}
use Rattle.sink.specs.declared.counter.Counter.{Counter}
use Rattle.sink.specs.declared.checksum.Checksum.{Checksum}

-- the most bytes that a table may have
abbrev pub longest : ℕ
longest = 268435455

-- A buffer may have been fed exactly the list that it holds.
abbrev pub held : Meaning Buffer
held =
    record {
      fed = λ s xs. xs ≡ take s.filled s.room.now;
      count = λ s. s.filled;
      limit = λ s. length s.room.now;
      loan = λ s. s.room.ghost_name ∷ [];
      long = λ s xs h. ap length h ∙ length-take-le s.filled s.room.now s.ok;
      within = λ s. s.ok;
    }

-- A counter may have been fed each list of as many bytes as it counted.
abbrev pub counted : (limit : ℕ) → Meaning (Counter limit)
counted limit =
    record {
      fed = λ s xs. length xs ≡ s.bytes;
      count = λ s. s.bytes;
      limit = λ s. limit;
      loan = λ s. [];
      long = λ s xs h. h;
      within = λ s. s.ok;
    }

-- A checksum may have been fed each list of as many bytes as it counted whose checksum is its sum.
abbrev pub summed : Meaning Checksum
summed =
    record {
      fed = λ s xs. (counted longest).fed s.bytes xs × (checksum xs ≡ s.sum);
      count = λ s. (counted longest).count s.bytes;
      limit = λ s. longest;
      loan = λ s. [];
      long = λ s xs h. h.0;
      within = λ s. (counted longest).within s.bytes;
    }
