-- When two keys mean the same.
use Rattle.std.specs.Prelude.{◌≡◌, ℕ, Bool, ◌&&◌, List, ℤ, Decides, ◌==◌, refl}
use Rattle.std.proofs.Common.{sym, ap, ◌∙◌}
use Rattle.std.proofs.lemmas.Slice.Eq.{slice_eq-Decides}
use Rattle.std.specs.Cmp.Lexicographic.{pointwise}
use Rattle.std.specs.Ordering.{int_eq}
use Rattle.std.proofs.lemmas.Bool.Decides.{Decides-and, Decides-eqb, Decides-int_eq, Decides-like}

-- A test of what keys mean: true exactly where two are the same.
pub record Sameness (M : Type 0) : Type 0 where
  pub test : M → M → Bool
  pub exact : (a b : M) → Decides (test a b) (a ≡ b)

-- The same number.
abbrev pub numbers : Sameness ℕ
numbers = record { test = λ m n. m == n; exact = Decides-eqb }

-- The same signed number.
abbrev pub integers : Sameness ℤ
integers = record { test = int_eq; exact = Decides-int_eq }

-- Pairs whose parts are the same.
abbrev pub pairs : {A B : Type 0} → Sameness A → Sameness B → Sameness (A × B)
pairs s t =
    record {
      test = λ p q. s.test p.0 q.0 && t.test p.1 q.1;
      exact = λ p q. Decides-like (s.test p.0 q.0 && t.test p.1 q.1) (λ h. ap (λ x. (x, p.1)) h.0 ∙ ap (λ y. (q.0, y)) h.1) (λ e. (ap (λ x. x.0) e, ap (λ x. x.1) e)) (Decides-and _ _ (s.exact p.0 q.0) (t.exact p.1 q.1));
    }

-- Lists of equal length whose items are the same in turn.
abbrev pub lists : {A : Type 0} → Sameness A → Sameness (List A)
lists s = record { test = pointwise s.test; exact = λ xs ys. slice_eq-Decides s.exact xs ys (pointwise s.test xs ys) refl }

pub joined : {A B : Type 0} (f : A → B) (g : B → A) → ((a : A) → g (f a) ≡ a) → (a b : A) → f a ≡ f b → a ≡ b
joined f g back a b e = sym (back a) ∙ ap g e ∙ back b

-- Records whose parts are the same: f tells the parts, g puts them together again.
abbrev pub by_parts : {A B : Type 0} (f : A → B) (g : B → A) → ((a : A) → g (f a) ≡ a) → Sameness B → Sameness A
by_parts f g back s = record { test = λ a b. s.test (f a) (f b); exact = λ a b. Decides-like (s.test (f a) (f b)) (λ e. joined f g back a b e) (ap f) (s.exact (f a) (f b)) }
