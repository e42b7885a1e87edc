-- Keys offered to a run one after another, by `all` over a range. The closure changes what it captures.
use Rattle.std.proofs.Common.{◌≡◌, ℕ, ◌+◌, ◌<◌, ◌≤◌, Bool, true, false, List, [], ◌∷◌, get_or, IfSome, Some, None, Option, sym, ◌∙◌, subst, arith}
use Rattle.std.specs.Fn.{Called, Mut}
use Rattle.std.specs.Iterator.{Yields, YieldsThen}
use Rattle.std.specs.List.{FoldsTo}
use Rattle.std.specs.Option.{MatchOption}
use Rattle.std.specs.declared.ops.Range.{Range}
use Rattle.std.proofs.iter.Yields.{nat_range_steps}
use Rattle.keys.specs.Order.{Order, TieIsSameness, Takes}

-- I is what each call at a number below n keeps, while it answers true
module _ {F : Type 0} (g : Mut F (ℕ × Unit {0}) Bool) (n : ℕ) (I : ℕ → F → Type 0) (keeps : (i : ℕ) (p q : F) → i < n → I i p → Called g p (i, tt) true q → I (i + 1) q) where
  kept : (xs : List ℕ) (s t : Range ℕ) (p q : F) → s.end ≡ n → s.start ≤ n → Yields nat_range_steps s xs t → FoldsTo (λ p x q. Called g p (x, tt) true q) p xs q → I s.start p → (t.end ≡ n) × (t.start ≤ n) × I t.start q
  kept [] s t p q e l y f h = subst (λ r. (r.end ≡ n) × (r.start ≤ n) × I r.start q) y (e, l, subst (I s.start) f h)
  kept (x ∷ xs) s t p q e l y f h =
      let one : I (s.start + 1) f.0 = keeps s.start p f.0 (omega (arith, y.1.1.0)) h (subst (λ k. Called g p (k, tt) true f.0) y.1.1.1 f.1) in
      kept xs y.0 t f.0 q (y.1.0 ∙ e) (omega (arith, y.1.1.0, y.1.1.2)) y.2 f.2 (subst (λ k. I k f.0) (sym y.1.1.2) one)

  -- P is what follows from it, where the range ends or a call answers false
  module _ (P : Bool → Type 0) (ends : (q : F) → I n q → P true) (stops : (i : ℕ) (p q : F) → i < n → I i p → Called g p (i, tt) false q → P false) where
    by_last : (t u : Range ℕ) (q : F) (r : Bool) (o : Option ℕ) → t.end ≡ n → t.start ≤ n → I t.start q → nat_range_steps t o u → MatchOption o (r ≡ true) (λ x. (r ≡ false) × ((h : F) × Called g q (x, tt) false h)) → P r
    by_last t u q r None e l h y m = subst P (sym m) (ends q (subst (λ k. I k q) (omega (arith, y.1.0)) h))
    by_last t u q r (Some x) e l h y m = subst P (sym m.0) (stops t.start q m.1.0 (omega (arith, y.1.0)) h (subst (λ k. Called g q (k, tt) false m.1.0) y.1.1 m.1.1))

    pub from_all : (s u : Range ℕ) (f : F) (r : Bool) → (xs : List ℕ) × (o : Option ℕ) × (j : F) × YieldsThen nat_range_steps s xs o u × FoldsTo (λ p x q. Called g p (x, tt) true q) f xs j × MatchOption o (r ≡ true) (λ x. (r ≡ false) × ((h : F) × Called g j (x, tt) false h)) → I s.start f → s.end ≡ n → s.start ≤ n → P r
    from_all s u f r ran h e l =
        let k = kept ran.0 s ran.3.0 f ran.2 e l ran.3.1 ran.4 h in
        by_last ran.3.0 u ran.2 r ran.1 k.0 k.1 k.2 ran.3.2 ran.5

module _ {K M : Type 0} (order : Order K) (meaning : K → M) (keys : List K) where
  -- A run that keeps this last key was offered the key at place i: it answered r, and keeps that one after.
  pub record Offered (i : ℕ) (last : Option K) (r : Bool) (after : Option K) : Type 0 where
    pub key : K
    pub is : meaning key ≡ meaning (get_or keys i key)
    pub settled : IfSome last (λ _. TieIsSameness order meaning)
    pub takes : Takes order meaning last key r after

  pub offered : (i : ℕ) (last : Option K) (r b : Bool) (after : Option K) (ks : List K) (key : K) → ks ≡ keys → b ≡ r → meaning key ≡ meaning (get_or ks i key) → IfSome last (λ _. TieIsSameness order meaning) → Takes order meaning last key b after → Offered i last r after
  offered i last r b after ks key e a is s t =
      record { key = key; is = subst (λ xs. meaning key ≡ meaning (get_or xs i key)) e is; settled = s; takes = subst (λ x. Takes order meaning last key x after) a t }
