-- Where keys first came. Each list here is a list of what keys mean.
use Rattle.std.specs.Prelude.{◌≡◌, ℕ, suc, ◌<◌, cond, List, [], ◌∷◌, ◌++◌, length, get_or, is_some, Some, None, Ok, Err, Option, Result, ◌≢◌, slice_index_or}
use Rattle.std.specs.Option.{option_map, ok_or}
use Rattle.keys.specs.Sameness.{Sameness}

-- The key stands at place i, and at no place before it.
pub record FirstAt {M : Type 0} (keys : List M) (key : M) (i : ℕ) : Type 0 where
  pub within : i < length keys
  pub here : get_or keys i key ≡ key
  pub not_before : (j : ℕ) → j < i → slice_index_or keys j key ≢ key

-- The key stands at no place.
pub record Nowhere {M : Type 0} (keys : List M) (key : M) : Type 0 where
  pub nowhere : (j : ℕ) → j < length keys → slice_index_or keys j key ≢ key

-- The place where the key stands first, or none where it stands nowhere.
abbrev pub First : {M : Type 0} → List M → M → Option ℕ → Type 0
First keys key (Some i) = FirstAt keys key i
First keys key None = Nowhere keys key

-- No two keys mean the same.
pub record Distinct {M : Type 0} (keys : List M) : Type 0 where
  pub apart : (i j : ℕ) (d : M) → i < j → j < length keys → slice_index_or keys i d ≢ slice_index_or keys j d

-- The place in either case.
abbrev pub number : Result ℕ ℕ → ℕ
number (Ok i) = i
number (Err i) = i

module _ {M : Type 0} (same : Sameness M) where
  -- The first place whose key means the same as this one.
  abbrev pub place : List M → M → Option ℕ
  place [] key = None
  place (k ∷ ks) key = cond (same.test k key) (Some 0) (option_map suc (place ks key))

  -- The place of a key: `Ok` where it stands, or `Err` where it is not there and takes the next place, this one, once it is
  -- appended.
  abbrev pub placed : List M → M → Result ℕ ℕ
  placed keys key = ok_or (place keys key) (length keys)

  -- The keys after one more came: only a new one is appended.
  abbrev pub with_key : List M → M → List M
  with_key keys key = cond (is_some (place keys key)) keys (keys ++ key ∷ [])

  -- The keys after some more came, in turn.
  abbrev pub grown : List M → List M → List M
  grown keys [] = keys
  grown keys (k ∷ ks) = grown (with_key keys k) ks

  -- A list without the keys that mean this one.
  abbrev pub without : M → List M → List M
  without key [] = []
  without key (k ∷ ks) = cond (same.test k key) (without key ks) (k ∷ without key ks)

  -- The different keys of a list, each where it first came.
  abbrev pub firsts : List M → List M
  firsts [] = []
  firsts (k ∷ ks) = k ∷ without k (firsts ks)

  -- What a table of keys keeps as it grows.
  pub record TableLaws : Type 0 where
    -- a key that came is found from then on, at the place that it had or took
    pub found : (keys : List M) (key : M) → placed (with_key keys key) key ≡ Ok (number (placed keys key))
    -- a place found once stays, whatever comes afterwards
    pub stays : (keys more : List M) (key : M) (i : ℕ) → place keys key ≡ Some i → place (grown keys more) key ≡ Some i
    -- no two keys mean the same, if none did before
    pub keeps_distinct : (keys more : List M) → Distinct keys → Distinct (grown keys more)
    -- grown from empty it is the different keys, each where it first came
    pub from_empty : (more : List M) → grown [] more ≡ firsts more
    -- of which no two mean the same
    pub distinct : (more : List M) → Distinct (firsts more)
