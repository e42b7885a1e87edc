-- Keys in order.
use Rattle.std.specs.Prelude.{◌≡◌, ℕ, ◌+◌, ◌<◌, Bool, cond, ◌⊎◌, List, [], ◌∷◌, ◌++◌, map, length, Some, None, Decides, Option, slice_index_or}
use Rattle.std.specs.declared.cmp.Ordering.TheVariants.{Less, Equal, Greater}
use Rattle.std.specs.declared.cmp.Ordering.{Ordering}
use Rattle.keys.specs.Places.{Distinct}

-- A total order of keys: any two compare, and it is transitive.
pub record Order (K : Type 0) : Type 1 where
  pub at_most : K → K → Type 0
  pub total : (a b : K) → at_most a b ⊎ at_most b a
  pub transitive : (a b c : K) → at_most a b → at_most b c → at_most a c

module _ {K : Type 0} (order : Order K) where
  -- a lies below b.
  abbrev pub Below : K → K → Type 0
  Below a b = order.at_most b a → ⊥

  -- Neither lies below the other.
  abbrev pub Tie : K → K → Type 0
  Tie a b = order.at_most a b × order.at_most b a

  -- What a comparison of a with b answers.
  abbrev pub Compares : K → K → Ordering → Type 0
  Compares a b Less = Below a b
  Compares a b Equal = Tie a b
  Compares a b Greater = Below b a

  -- Two keys tie exactly where they mean the same.
  pub record TieIsSameness {M : Type 0} (meaning : K → M) : Type 0 where
    pub same : (a b : K) → Tie a b → meaning a ≡ meaning b
    pub tie : (a b : K) → meaning a ≡ meaning b → Tie a b

  -- Each key lies below the next.
  pub record Ascending (keys : List K) : Type 0 where
    pub next : (i : ℕ) (d : K) → i + 1 < length keys → Below (slice_index_or keys i d) (slice_index_or keys (i + 1) d)

  -- Each earlier key lies below each later one.
  pub record InOrder (keys : List K) : Type 0 where
    pub below : (i j : ℕ) (d : K) → i < j → j < length keys → Below (slice_index_or keys i d) (slice_index_or keys j d)

  -- The key lies above the last one, or is the first.
  abbrev pub Above : Option K → K → Type 0
  Above None key = Unit {0}
  Above (Some last) key = Below last key

-- The last key of a list, where it has one.
abbrev pub Ends : {K : Type 0} → Option K → List K → Type 0
Ends None keys = keys ≡ []
Ends {K} (Some last) keys = (front : List K) × (keys ≡ front ++ last ∷ [])

module _ {K M : Type 0} (order : Order K) (meaning : K → M) where
  -- What an ascending run has taken, by the last key that it keeps: it strictly ascends, and no two mean the same.
  pub record Taken (last : Option K) (keys : List K) : Type 0 where
    pub ends : Ends last keys
    pub ascends : Ascending order keys
    pub in_order : InOrder order keys
    pub distinct : Distinct (map meaning keys)

  -- A run takes a key exactly where it lies above the last: where what was taken still ascends with the key at its end.
  pub record Takes (before : Option K) (key : K) (r : Bool) (after : Option K) : Type 0 where
    pub above : Decides r (Above order before key)
    pub keeps_last : after ≡ cond r (Some key) before
    pub extends : (keys : List K) → Taken before keys → Decides r (Ascending order (keys ++ key ∷ []))
    pub taken : (keys : List K) → Taken before keys → Taken after (cond r (keys ++ key ∷ []) keys)

  -- Whether keys ascend; then each earlier one lies below each later one, and no two mean the same.
  pub record Ascends (keys : List K) (r : Bool) : Type 0 where
    pub decides : Decides r (Ascending order keys)
    pub in_order : Ascending order keys → InOrder order keys
    pub distinct : Ascending order keys → Distinct (map meaning keys)
