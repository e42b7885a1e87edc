-- What is measured of an INDEX before it is written.
use Rattle.std.specs.Prelude.{◌≡◌, ℕ, ◌+◌, ◌*◌, ◌≤◌, cond, List, [], length, ◌==◌, nat_le}
use Rattle.sink.specs.Kinds.{longest}
use Rattle.format.specs.Index.{concat, offset_size, index}
use Rattle.index.specs.declared.index.Measure.{Measure}

-- the bytes of an INDEX that a table may hold: where it would be too long, there are none
abbrev pub short_index : List (List ℕ) → List ℕ
short_index items = cond (nat_le (length (index items)) longest) (index items) []

-- how long the INDEX is of so many items with so many bytes
abbrev pub index_length : ℕ → ℕ → ℕ
index_length count data-len = cond (count == 0) 4 (5 + (count + 1) * offset_size (1 + data-len) + data-len)

-- what was measured of items whose INDEX a table may hold
pub record Measures (items : List (List ℕ)) (m : Measure) : Type 0 where
  pub count : m.count ≡ length items
  pub bytes : m.data_len ≡ length (concat items)
  pub short : length (index items) ≤ longest
