-- Parts of a list that is cut or goes on.
use Rattle.std.proofs.Common.{◌≡◌, ℕ, ◌+◌, ◌-◌, ◌≤◌, List, ◌++◌, length, take, drop, sym, refl, ap, ◌∙◌, arith}
use Rattle.std.proofs.lemmas.List.{drop-take, take-take, take_at, take_all, drop_at}
use Rattle.memory.specs.Lists.{part}
use Rattle.memory.specs.Fit.{Within}
use Rattle.memory.specs.declared.records.Span.{Span}

module _ {X : Type 0} where
  -- a part of the front of a list
  pub part-take : (k : ℕ) (s : Span) (xs : List X) → Within k s → part s (take k xs) ≡ part s xs
  part-take k s xs w =
      let e : k ≡ s.place + (k - s.place) = omega arith in
      let b : s.count ≤ k - s.place = omega arith in
      ap (λ i. take s.count (drop s.place (take i xs))) e ∙ ap (take s.count) (drop-take s.place (k - s.place) xs) ∙ take-take s.count (k - s.place) (drop s.place xs) b

  -- a part of a list that goes on
  pub part-more : (s : Span) (xs ys : List X) → Within (length xs) s → part s (xs ++ ys) ≡ part s xs
  part-more s xs ys w = sym (part-take (length xs) s (xs ++ ys) w) ∙ ap (part s) (take_at xs ys (length xs) refl)

  -- what a list goes on with
  pub part_new : (n : ℕ) (xs ys : List X) → length xs ≡ n → part (record { place = n; count = length ys }) (xs ++ ys) ≡ ys
  part_new n xs ys e = ap (take (length ys)) (drop_at xs ys n e) ∙ take_all (length ys) ys (omega arith)
