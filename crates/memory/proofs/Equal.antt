-- `eq` of two iterators that each yield a list.
use Rattle.std.proofs.Common.{◌≡◌, Bool, true, false, List, [], ◌∷◌, Some, None, Option, Decides, sym, refl, ap, ◌∙◌, subst}
use Rattle.std.specs.Iterator.{AlwaysYields, YieldsThen, ComparesItemsByEq}
use Rattle.std.specs.List.{AllZip}
use Rattle.std.specs.Option.{MatchOption}
use Rattle.std.specs.Prelude.{IfSome}
use Rattle.std.proofs.lemmas.Bool.{false≢true}
use Rattle.std.proofs.lemmas.Bool.Decides.{Decides-like}
use Rattle.std.proofs.lemmas.Iterator.{YieldsList}

module _ {S T A B : Type 0} (steps : S → Option A → S → Type 0) (others : T → Option A → T → Type 0) (v : A → B) (eq : A → A → Bool) (agree : (x y : A) → Decides (eq x y) (v x ≡ v y)) (r : Bool) where
  abbrev Last : Option A → Option A → Type 0
  Last o p = MatchOption o (MatchOption p (r ≡ true) (λ _. r ≡ false)) (λ x. (r ≡ false) × IfSome p (λ y. eq x y ≡ false))

  fails : {xs ys : List B} → r ≡ false → (xs ≡ ys → ⊥) → Decides r (xs ≡ ys)
  fails is h = ((λ e. absurd (false≢true (sym is ∙ e))), λ e. absurd (h e))

  at_last : (o p : Option A) (xs ys : List B) (s u : S) (t w : T) → AlwaysYields steps v s xs → AlwaysYields others v t ys → steps s o u → others t p w → Last o p → Decides r (xs ≡ ys)
  at_last None None (x ∷ xs) ys s u t w e f a b h = absurd (e.0 u a)
  at_last None (Some y) (x ∷ xs) ys s u t w e f a b h = absurd (e.0 u a)
  at_last (Some x) None [] ys s u t w e f a b h = absurd (e x u a)
  at_last (Some x) (Some y) [] ys s u t w e f a b h = absurd (e x u a)
  at_last None None [] (y ∷ ys) s u t w e f a b h = absurd (f.0 w b)
  at_last None (Some y) [] [] s u t w e f a b h = absurd (f y w b)
  at_last (Some x) None (z ∷ xs) (y ∷ ys) s u t w e f a b h = absurd (f.0 w b)
  at_last (Some x) (Some y) (z ∷ xs) [] s u t w e f a b h = absurd (f y w b)
  at_last None None [] [] s u t w e f a b h = ((λ _. refl), λ _. h)
  at_last None (Some y) [] (z ∷ ys) s u t w e f a b h = fails h (λ i. cc)
  at_last (Some x) None (z ∷ xs) [] s u t w e f a b h = fails h.0 (λ i. cc)
  at_last (Some x) (Some y) (x' ∷ xs) (y' ∷ ys) s u t w e f a b h =
      fails h.0 (λ i. let same : x' ≡ y' = cc in false≢true (sym h.1 ∙ (agree x y).1 ((e.1 x u a).0 ∙ same ∙ sym (f.1 y w b).0)))

  along : (cs bs : List A) (o p : Option A) (xs ys : List B) (s u : S) (t w : T) → AlwaysYields steps v s xs → AlwaysYields others v t ys
      → YieldsThen steps s cs o u → YieldsThen others t bs p w → AllZip (λ x y. eq x y ≡ true) cs bs → Last o p → Decides r (xs ≡ ys)
  along [] [] o p xs ys s u t w e f a b z h = at_last o p xs ys s u t w e f (subst (λ j. steps j o u) (sym a.1) a.2) (subst (λ j. others j p w) (sym b.1) b.2) h
  along [] (y ∷ bs) o p xs ys s u t w e f a b z h = absurd z
  along (x ∷ cs) [] o p xs ys s u t w e f a b z h = absurd z
  along (x ∷ cs) (y ∷ bs) o p [] ys s u t w e f a b z h = absurd (e x a.1.0 a.1.1)
  along (x ∷ cs) (y ∷ bs) o p (x' ∷ xs) [] s u t w e f a b z h = absurd (f y b.1.0 b.1.1)
  along (x ∷ cs) (y ∷ bs) o p (x' ∷ xs) (y' ∷ ys) s u t w e f a b z h =
      let m = e.1 x a.1.0 a.1.1 in
      let n = f.1 y b.1.0 b.1.1 in
      let tie : x' ≡ y' = sym m.0 ∙ (agree x y).0 z.0 ∙ n.0 in
      Decides-like r (λ i. ap (λ q. q ∷ xs) tie ∙ ap (λ zs. y' ∷ zs) i) (λ i. cc) (along cs bs o p xs ys a.1.0 u b.1.0 w m.1 n.1 (a.0, a.1.2, a.2) (b.0, b.1.2, b.2) z.1 h)

-- it says whether the lists are equal, where it says of two items whether what they stand for is
pub eq_decides : {S T A B : Type 0} {steps : S → Option A → S → Type 0} {others : T → Option A → T → Type 0} {v : A → B} {s : S} {other : T} {eq : A → A → Bool} {xs ys : List B} (r : Bool)
    → ComparesItemsByEq steps (λ x y. y ≡ x) others s other eq r → YieldsList steps v s xs → YieldsList others v other ys → ((x y : A) → Decides (eq x y) (v x ≡ v y)) → Decides r (xs ≡ ys)
eq_decides {steps = steps} {others = others} {v = v} {s = s} {eq = eq} {xs = xs} {ys = ys} r d e f agree =
    along steps others v eq agree r d.1 d.2 d.3 d.4 xs ys s d.5 d.0 d.6 e.runs (subst (λ t. AlwaysYields others v t ys) (sym d.7) f.runs) d.8 d.9 d.10 d.11
