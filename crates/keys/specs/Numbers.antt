-- Numbers as keys, by size.
use Rattle.std.specs.Prelude.{ℕ, ◌+◌, ◌<◌, ◌≤◌, ◌⊎◌, List, length, slice_index}
use Rattle.std.proofs.Common.{inl, inr, ⊎_elim, arith}
use Rattle.std.proofs.lemmas.Bool.{cases_lt}
use Rattle.keys.specs.Order.{Order}

pub either_way : (a b : ℕ) → (a ≤ b) ⊎ (b ≤ a)
either_way a b = ⊎_elim (λ l. inl (omega arith)) inr (cases_lt a b)

abbrev pub by_size : Order ℕ
by_size = record { at_most = ◌≤◌; total = either_way; transitive = λ a b c l m. omega arith }

-- Each number is less than the next.
pub record AscendingNumbers (ns : List ℕ) : Type 0 where
  pub next : (i : ℕ) → i + 1 < length ns → slice_index ns i < slice_index ns (i + 1)
