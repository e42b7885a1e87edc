-- Numbers that strictly ascend, and what is kept of them.
use Rattle.std.proofs.Common.{ℕ, zero, suc, ◌+◌, ◌<◌, Bool, List, [], ◌∷◌, map, length, get_or, filter, arith}
use native.Mathlib.Numerals.{unary_clauses}
use Rattle.std.proofs.lemmas.Bool.{cond_both}
use Rattle.std.specs.List.{AllByRecursion}
use Rattle.std.proofs.ByRecursion.{All-weaker, All-get_or}
use Rattle.keys.specs.Numbers.{AscendingNumbers}

-- each number lies below all that follow
abbrev pub Sorted : List ℕ → Type 0
Sorted [] = Unit {0}
Sorted (n ∷ ns) = AllByRecursion (λ m. n < m) ns × Sorted ns

later : (n : ℕ) (ns : List ℕ) → AscendingNumbers (n ∷ ns) → AscendingNumbers ns
later n ns h = record { next = λ i l. simp unary_clauses (simp unary_clauses at (h.next (suc i) (omega arith))) }

pub sorted : (ns : List ℕ) → AscendingNumbers ns → Sorted ns
sorted [] h = tt
sorted (n ∷ []) h = (tt, tt)
sorted (n ∷ m ∷ ms) h =
    let t = sorted (m ∷ ms) (later n (m ∷ ms) h) in
    let b : n < m = h.next 0 (omega arith) in
    ((b, All-weaker (λ k. m < k) (λ k. n < k) (λ k l. omega arith) ms t.0), t)

sorted_next : (ns : List ℕ) → Sorted ns → (i : ℕ) → i + 1 < length ns → get_or ns i 0 < get_or ns (i + 1) 0
sorted_next [] h i l = absurd (omega arith)
sorted_next (n ∷ ns) h zero l = All-get_or (λ m. n < m) ns 0 0 (omega arith) h.0
sorted_next (n ∷ ns) h (suc i) l = simp unary_clauses (simp unary_clauses at (sorted_next ns h.1 i (omega arith)))

pub ascending : (ns : List ℕ) → Sorted ns → AscendingNumbers ns
ascending ns h = record { next = sorted_next ns h }

module _ {X : Type 0} (number : X → ℕ) (p : X → Bool) where
  pub all_kept : (P : ℕ → Type 0) (xs : List X) → AllByRecursion P (map number xs) → AllByRecursion P (map number (filter p xs))
  all_kept P [] h = tt
  all_kept P (x ∷ xs) h =
      cond_both (p x) (x ∷ filter p xs) (filter p xs) (λ ys. AllByRecursion P (map number ys)) (λ _. (h.0, all_kept P xs h.1)) (λ _. all_kept P xs h.1)

  sorted_kept : (xs : List X) → Sorted (map number xs) → Sorted (map number (filter p xs))
  sorted_kept [] h = tt
  sorted_kept (x ∷ xs) h =
      cond_both (p x) (x ∷ filter p xs) (filter p xs) (λ ys. Sorted (map number ys)) (λ _. (all_kept (λ m. number x < m) xs h.0, sorted_kept xs h.1)) (λ _. sorted_kept xs h.1)

  -- what is kept of ascending numbers ascends
  pub ascending_kept : (xs : List X) → AscendingNumbers (map number xs) → AscendingNumbers (map number (filter p xs))
  ascending_kept xs h = ascending (map number (filter p xs)) (sorted_kept xs (sorted (map number xs) h))
