-- What a sink is, and what it does with bytes.
use Rattle.std.specs.Prelude.{◌≡◌, ℕ, ◌+◌, ◌-◌, ◌<◌, ◌≤◌, List, [], ◌∷◌, ◌++◌, length, take, Ok, Err, Result}

-- What the sinks of a type S mean, and what every one of them keeps.
pub record Meaning (S : Type 0) : Type 1 where
  -- the sink may have been fed this list of bytes
  pub fed : S → List ℕ → Type 0
  -- how many bytes it was fed
  pub count : S → ℕ
  -- how many bytes it takes at most
  pub limit : S → ℕ
  -- the names of the borrowed places that it fills, outermost first; none where it borrows nothing
  pub loan : S → List ℕ
  -- all lists that it may have been fed have the count as length
  pub long : (s : S) (xs : List ℕ) → fed s xs → length xs ≡ count s
  -- the count never exceeds the limit
  pub within : (s : S) → count s ≤ limit s

module _ {S : Type 0} (m : Meaning S) where
  -- From s to t exactly the bytes xs were fed, for which there was room: the count rose by their number, and each list that
  -- s may have been fed, with xs appended, is one that t may have been fed.
  pub record Takes (s : S) (xs : List ℕ) (t : S) : Type 0 where
    pub room : m.count s + length xs ≤ m.limit s
    pub counts : m.count t ≡ m.count s + length xs
    pub limits : m.limit t ≡ m.limit s
    pub loans : m.loan t ≡ m.loan s
    pub feeds : (before : List ℕ) → m.fed s before → m.fed t (before ++ xs)

  -- There was no room for all of xs, and nothing was fed.
  pub record Refuses (s : S) (xs : List ℕ) (t : S) : Type 0 where
    pub full : m.limit s < m.count s + length xs
    pub same : t ≡ s

  -- There was no room for all of xs, and from s to t as many of its first bytes were fed as there was room for.
  pub record Stops (s : S) (xs : List ℕ) (t : S) : Type 0 where
    pub full : m.limit s < m.count s + length xs
    pub takes : Takes s (take (m.limit s - m.count s) xs) t

  -- One byte: refused exactly where the count equals the limit, and then nothing changes.
  abbrev pub Puts : {X E : Type 0} → S → ℕ → Result X E → S → Type 0
  Puts s byte (Ok _) t = Takes s (byte ∷ []) t
  Puts s byte (Err _) t = (m.count s ≡ m.limit s) × (t ≡ s)

  -- A list of bytes, whole or not at all: refused exactly where there is no room for all of it.
  abbrev pub Whole : {X E : Type 0} → S → List ℕ → Result X E → S → Type 0
  Whole s xs (Ok _) t = Takes s xs t
  Whole s xs (Err _) t = Refuses s xs t

  -- A list of bytes while there is room: all of it, or as many of its first bytes as there is room for.
  abbrev pub WhileRoom : {X E : Type 0} → S → List ℕ → Result X E → S → Type 0
  WhileRoom s xs (Ok _) t = Takes s xs t
  WhileRoom s xs (Err _) t = Stops s xs t

  -- A new sink may have been fed the empty list, and no other.
  abbrev pub Fresh : S → Type 0
  Fresh s = m.fed s [] × ((xs : List ℕ) → m.fed s xs → xs ≡ [])
