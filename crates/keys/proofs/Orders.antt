-- What follows from a total order alone, and runs.
use Rattle.std.proofs.Common.{◌≡◌, ℕ, zero, suc, ◌+◌, ◌<◌, ◌≤◌, Bool, true, false, List, [], ◌∷◌, ◌++◌, map, length, get_or, IfSome, Some, None, Decides, Option, sym, refl, ap, ◌∙◌, subst, ⊎_elim, add-one, arith}
use Rattle.std.proofs.lemmas.List.{length_push, length-map, get_or_push, get_or-map, get_or_append_left, get_or_default}
use Rattle.std.proofs.lemmas.Bool.{false≢true, cases_lt}
use Rattle.keys.specs.Places.{Distinct}
use Rattle.keys.specs.Order.{Order, Below, Tie, TieIsSameness, Ascending, InOrder, Above, Ends, Taken, Takes, Ascends}

module _ {K : Type 0} (order : Order K) where
  pub below_trans : (a b c : K) → Below order a b → Below order b c → Below order a c
  below_trans a b c l m ca = ⊎_elim (λ bc. l (order.transitive b c a bc ca)) m (order.total b c)

  -- keys that tie lie alike
  pub below_tie : (a b a' b' : K) → Tie order a a' → Tie order b b' → Below order a b → Below order a' b'
  below_tie a b a' b' s t l ba = l (order.transitive b b' a t.0 (order.transitive b' a' a ba s.1))

  module _ (keys : List K) (up : Ascending order keys) (d : K) where
    one_on : (i : ℕ) → suc i < length keys → Below order (get_or keys i d) (get_or keys (suc i) d)
    one_on i l = subst (λ j. Below order (get_or keys i d) (get_or keys j d)) (add-one i) (up.next i d (omega arith))

    later : (i j : ℕ) → i < j → j < length keys → Below order (get_or keys i d) (get_or keys j d)
    later i zero l b = absurd (omega arith)
    later i (suc j) l b =
        ⊎_elim (λ less. below_trans (get_or keys i d) (get_or keys j d) (get_or keys (suc j) d) (later i j less (omega arith)) (one_on j b))
        (λ more. let e : j ≡ i = omega arith in subst (λ k. Below order (get_or keys k d) (get_or keys (suc j) d)) e (one_on j b))
        (cases_lt i j)

  pub in_order : (keys : List K) → Ascending order keys → InOrder order keys
  in_order keys up = record { below = λ i j d l b. later keys up d i j l b }

  module _ {M : Type 0} (meaning : K → M) where
    pub apart : TieIsSameness order meaning → (keys : List K) → InOrder order keys → Distinct (map meaning keys)
    apart ties [] h = record { apart = λ i j d l b e. omega arith }
    apart ties (k ∷ keys) h = record { apart = other }
      where
        other : (i j : ℕ) (d : M) → i < j → j < length (map meaning (k ∷ keys)) → get_or (map meaning (k ∷ keys)) i d ≡ get_or (map meaning (k ∷ keys)) j d → ⊥
        other i j d l b e =
            let in-j : j < length (k ∷ keys) = omega (arith, length-map (k ∷ keys) meaning) in
            h.below i j k l in-j (ties.tie (get_or (k ∷ keys) i k) (get_or (k ∷ keys) j k)
            (sym (get_or-map meaning (k ∷ keys) i k d (omega arith)) ∙ e ∙ get_or-map meaning (k ∷ keys) j k d in-j)).1

    -- a list of one key at most
    pub short_ascends : (keys : List K) → length keys ≤ 1 → Ascending order keys
    short_ascends keys s = record { next = λ i d l. absurd (omega arith) }

    pub short_apart : (keys : List K) → length keys ≤ 1 → Distinct (map meaning keys)
    short_apart keys s = record { apart = λ i j d l b e. omega (arith, length-map keys meaning) }

    -- one key more at the end
    module _ (front : List K) (last key : K) where
      abbrev whole : List K
      whole = (front ++ last ∷ []) ++ key ∷ []

      abbrev before : List K
      before = front ++ last ∷ []

      at_last : (d : K) → get_or whole (length front) d ≡ last
      at_last d = get_or_append_left before (key ∷ []) d (length front) (omega (arith, length_push front last)) ∙ get_or_push front last d (length front) refl

      at_key : (d : K) → get_or whole (length front + 1) d ≡ key
      at_key d = get_or_push before key d (length front + 1) (length_push front last)

      pub ascends_last : Ascending order whole → Below order last key
      ascends_last up =
          let l = up.next (length front) key (omega (arith, length_push before key, length_push front last)) in
          subst (λ x. Below order x key) (at_last key) (subst (λ y. Below order (get_or whole (length front) key) y) (at_key key) l)

      pub ascends_push : Ascending order before → Below order last key → Ascending order whole
      ascends_push up l = record { next = go }
        where
          go : (i : ℕ) (d : K) → i + 1 < length whole → Below order (get_or whole i d) (get_or whole (i + 1) d)
          go i d b =
              ⊎_elim
              (λ less.
              subst (λ x. Below order x (get_or whole (i + 1) d)) (sym (get_or_append_left before (key ∷ []) d i (omega arith)))
              (subst (λ y. Below order (get_or before i d) y) (sym (get_or_append_left before (key ∷ []) d (i + 1) less)) (up.next i d less)))
              (λ more.
              let e : length front ≡ i = omega (arith, length_push before key, length_push front last) in
              subst (λ n. Below order (get_or whole n d) (get_or whole (n + 1) d)) e
              (subst (λ x. Below order x (get_or whole (length front + 1) d)) (sym (at_last d)) (subst (λ y. Below order last y) (sym (at_key d)) l)))
              (cases_lt (i + 1) (length before))

    abbrev Settled : Option K → Type 0
    Settled last = IfSome last (λ _. TieIsSameness order meaning)

    -- what was taken, by the last key
    extends : (last : Option K) (key : K) (r : Bool) → Decides r (Above order last key) → (keys : List K) → Ends last keys → Ascending order keys → Decides r (Ascending order (keys ++ key ∷ []))
    extends None key r h keys e up =
        ((λ _. short_ascends (keys ++ key ∷ []) (omega (arith, length_push keys key, ap length e))), λ _. h.1 tt)
    extends (Some last) key r h keys (front, e) up = (
      (λ yes. subst (λ ks. Ascending order (ks ++ key ∷ [])) (sym e) (ascends_push front last key (subst (Ascending order) e up) (h.0 yes))),
      λ whole. h.1 (ascends_last front last key (subst (λ ks. Ascending order (ks ++ key ∷ [])) e whole)),
    )

    pushed_apart : (last : Option K) → Settled last → (key : K) (keys : List K) → Ends last keys → InOrder order (keys ++ key ∷ []) → Distinct (map meaning (keys ++ key ∷ []))
    pushed_apart None s key keys e up = short_apart (keys ++ key ∷ []) (omega (arith, length_push keys key, ap length e))
    pushed_apart (Some last) s key keys e up = apart s (keys ++ key ∷ []) up

    pub taken_none : Taken order meaning None []
    taken_none = record { ends = refl; ascends = short_ascends [] (omega arith); in_order = in_order [] (short_ascends [] (omega arith)); distinct = short_apart [] (omega arith) }

    module _ (last : Option K) (key : K) (settled : Settled last) where
      pub takes : Decides true (Above order last key) → Takes order meaning last key true (Some key)
      takes h = record { above = h; keeps_last = refl; extends = λ keys t. extends last key true h keys t.ends t.ascends; taken = more }
        where
          more : (keys : List K) → Taken order meaning last keys → Taken order meaning (Some key) (keys ++ key ∷ [])
          more keys t =
              let up = (extends last key true h keys t.ends t.ascends).0 refl in
              let all = in_order (keys ++ key ∷ []) up in
              record { ends = (keys, refl); ascends = up; in_order = all; distinct = pushed_apart last settled key keys t.ends all }

      pub takes_not : (after : Option K) → after ≡ last → Decides false (Above order last key) → Takes order meaning last key false after
      takes_not after e h =
          record {
            above = h;
            keeps_last = e;
            extends = λ keys t. extends last key false h keys t.ends t.ascends;
            taken = λ keys t. subst (λ x. Taken order meaning x keys) (sym e) t;
          }

-- a walk over keys, by a run that keeps the last one
module _ {K M : Type 0} (order : Order K) (meaning : K → M) (keys : List K) where
  abbrev LastAt : ℕ → Option K → Type 0
  LastAt i None = i ≡ 0
  LastAt i (Some last) = (n : ℕ) × (i ≡ n + 1) × (meaning last ≡ meaning (get_or keys n last))

  pub record Walked (i : ℕ) (last : Option K) : Type 0 where
    pub so_far : (n : ℕ) (d : K) → n + 1 < i → Below order (get_or keys n d) (get_or keys (n + 1) d)
    pub last_at : LastAt i last
    pub ties : 1 < i → TieIsSameness order meaning

  pub walk_starts : (last : Option K) → last ≡ None → Walked 0 last
  walk_starts last e = record { so_far = λ n d l. absurd (omega arith); last_at = subst (LastAt 0) (sym e) refl; ties = λ l. absurd (omega arith) }

  module _ (i : ℕ) (key : K) (l : i < length keys) (is : meaning key ≡ meaning (get_or keys i key)) where
    tie_key : TieIsSameness order meaning → (d : K) → Tie order key (get_or keys i d)
    tie_key ties d = ties.tie key (get_or keys i d) (is ∙ ap meaning (get_or_default keys i key d l))

    tie_last : TieIsSameness order meaning → (last : K) (n : ℕ) → i ≡ n + 1 → meaning last ≡ meaning (get_or keys n last) → (d : K) → Tie order last (get_or keys n d)
    tie_last ties last n e at d = ties.tie last (get_or keys n d) (at ∙ ap meaning (get_or_default keys n last d (omega arith)))

    pair : (last : Option K) → IfSome last (λ _. TieIsSameness order meaning) → LastAt i last → Above order last key → (n : ℕ) (d : K) → n + 1 ≡ i → Below order (get_or keys n d) (get_or keys (n + 1) d)
    pair None s at a n d e = absurd (omega arith)
    pair (Some last) s (m, e', at) a n d e =
        let same-n : m ≡ n = omega arith in
        subst (λ j. Below order (get_or keys n d) (get_or keys j d)) (sym e)
        (subst (λ j. Below order (get_or keys j d) (get_or keys i d)) same-n (below_tie order last key (get_or keys m d) (get_or keys i d) (tie_last s last m e' at d) (tie_key s d) a))

    above : (last : Option K) → IfSome last (λ _. TieIsSameness order meaning) → LastAt i last → Ascending order keys → Above order last key
    above None s at up = tt
    above (Some last) s (m, e, at) up =
        let t = tie_last s last m e at key in
        let k = tie_key s key in
        below_tie order (get_or keys m key) (get_or keys i key) last key (t.1, t.0) (k.1, k.0) (subst (λ j. Below order (get_or keys m key) (get_or keys j key)) (sym e) (up.next m key (omega arith)))

    settled_ties : (last : Option K) → IfSome last (λ _. TieIsSameness order meaning) → LastAt i last → 1 < i + 1 → TieIsSameness order meaning
    settled_ties None s at b = absurd (omega arith)
    settled_ties (Some last) s at b = s

    module _ (last after : Option K) (settled : IfSome last (λ _. TieIsSameness order meaning)) (walked : Walked i last) where
      pub walk_goes : Takes order meaning last key true after → Walked (i + 1) after
      walk_goes t =
          record {
            so_far = λ n d b. ⊎_elim (λ less. walked.so_far n d less) (λ more. pair last settled walked.last_at (t.above.0 refl) n d (omega arith)) (cases_lt (n + 1) i);
            last_at = subst (LastAt (i + 1)) (sym t.keeps_last) (i, refl, is);
            ties = settled_ties last settled walked.last_at;
          }

      pub walk_stops : Takes order meaning last key false after → Ascends order meaning keys false
      walk_stops t =
          let no : Ascending order keys → ⊥ = λ up. false≢true (t.above.1 (above last settled walked.last_at up)) in
          record { decides = ((λ e. absurd (false≢true e)), λ up. absurd (no up)); in_order = λ up. absurd (no up); distinct = λ up. absurd (no up) }

  pub walk_ends : (i : ℕ) (last : Option K) → i ≡ length keys → Walked i last → Ascends order meaning keys true
  walk_ends i last e walked =
      record {
        decides = ((λ _. record { next = λ n d b. walked.so_far n d (omega arith) }), λ _. refl);
        in_order = in_order order keys;
        distinct = λ up. ⊎_elim (λ long. apart order meaning (walked.ties (omega arith)) keys (in_order order keys up)) (λ short. short_apart order meaning keys (omega arith)) (cases_lt 1 (length keys));
      }
