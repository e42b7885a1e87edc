-- Equal tables were written from the same composites and sets.
use Rattle.std.proofs.Common.{◌≡◌, ℕ, ◌+◌, ◌*◌, ◌^◌, ◌<◌, ◌≤◌, List, [], length, get_or, Ok, Err, Result, sym, ◌∙◌, subst, ⊎_elim, arith}
use Rattle.std.proofs.ByRecursion.{All-get_or}
use Rattle.std.proofs.lemmas.List.{same_lists, get_or_default}
use Rattle.std.proofs.lemmas.Bool.{cases_lt}
use Rattle.format.specs.declared.Fault.{Fault}
use Rattle.format.specs.Questions.{composites_of, component_of, tuples_of}
use Rattle.format.specs.Examples.{plain_7}
use Rattle.format.specs.Reads.{outcome}
use Rattle.format.specs.Store.{Subtable}
use Rattle.format.specs.Table.{Content, Root, table, places}
use Rattle.format.specs.Fits.{Sound, SubtableFits}
use Rattle.format.specs.Laws.{SubtableAt, ReadBack, TablesTellApart, set_of}
use Rattle.format.proofs.Tables.{read_back}

same : {X : Type 0} (r : Result X Fault) (x y : X) → r ≡ Ok x → r ≡ Ok y → x ≡ y
same r x y p q = cc

not_both : {X : Type 0} (r : Result X Fault) (x : X) (f : Fault) → r ≡ Ok x → r ≡ Err f → ⊥
not_both r x f p q = let z : ◌≡◌ {A = ℕ} 0 1 = cc in omega arith

-- a composite is not longer in one content than in the other
not_longer : (k k' : Content) (r r' : Root) (bs : List ℕ) → ReadBack k r bs → ReadBack k' r' bs → (i : ℕ) → i < length k.composites → i < length k'.composites →
    length (get_or k.composites i []) ≤ length (get_or k'.composites i [])
not_longer k k' r r' bs b b' i lt lt' =
    let n = length (get_or k.composites i []) in
    let n' = length (get_or k'.composites i []) in
    ⊎_elim
    (λ (l : n' < n). absurd (not_both (outcome (component_of bs i n')) _ _ (b.each_component i n' plain_7 lt l) (b'.no_component i n' lt' (omega arith))))
    (λ (l : n ≤ n'). l) (cases_lt n' n)

same_composite : (k k' : Content) (r r' : Root) (bs : List ℕ) → ReadBack k r bs → ReadBack k' r' bs → (i : ℕ) → i < length k.composites → i < length k'.composites →
    get_or k.composites i [] ≡ get_or k'.composites i []
same_composite k k' r r' bs b b' i lt lt' =
    let le = not_longer k k' r r' bs b b' i lt lt' in
    let ge = not_longer k' k r' r bs b' b i lt' lt in
    same_lists (get_or k.composites i []) (get_or k'.composites i []) (omega arith)
    (λ j d h. same (outcome (component_of bs i j)) _ _ (b.each_component i j d lt h) (b'.each_component i j d lt' (omega arith)))

same_composites : (k k' : Content) (r r' : Root) (bs : List ℕ) → ReadBack k r bs → ReadBack k' r' bs → k.composites ≡ k'.composites
same_composites k k' r r' bs b b' =
    let n = same (outcome (composites_of bs)) _ _ b.how_many b'.how_many in
    same_lists k.composites k'.composites n
    (λ i d h. get_or_default k.composites i d [] h ∙ same_composite k k' r r' bs b b' i h (omega arith) ∙ get_or_default k'.composites i [] d (omega arith))

module _ (k k' : Content) (r r' : Root) (bs : List ℕ) (b : ReadBack k r bs) (b' : ReadBack k' r' bs) (sound : Sound k) (outer inner : ℕ) (g : Subtable) (at : SubtableAt k outer g) (lt : inner < length g.sets) where
  few : (inner < 2 ^ 16) × (outer * 65536 + inner < 0xFFFFFFFF)
  few =
      let fits : SubtableFits g = subst SubtableFits (sym at.is) (All-get_or SubtableFits k.subtables outer g at.there sound.subtables_fit) in
      omega (arith, fits.few_sets, sound.few_subtables)

  there : outer < length k'.subtables
  there =
      let answer = b.each_set outer inner g at lt in
      ⊎_elim (λ (l : outer < length k'.subtables). l)
      (λ (l : length k'.subtables ≤ outer). absurd (⊎_elim
      (λ (some : 0 < length k'.subtables). not_both (outcome (tuples_of bs (outer * 65536 + inner))) _ _ answer (b'.no_subtable outer inner some l few.0 few.1))
      (λ (none : length k'.subtables ≤ 0). not_both (outcome (tuples_of bs (outer * 65536 + inner))) _ _ answer ((b'.no_store (omega arith)).0 (outer * 65536 + inner) few.1))
      (cases_lt 0 (length k'.subtables))))
      (cases_lt outer (length k'.subtables))

  abbrev g' : Subtable
  g' = get_or k'.subtables outer g

  at' : SubtableAt k' outer g'
  at' = record { there = there; is = get_or_default k'.subtables outer g g' there }

  held : inner < length g'.sets
  held =
      ⊎_elim (λ (l : inner < length g'.sets). l)
      (λ (l : length g'.sets ≤ inner). absurd (not_both (outcome (tuples_of bs (outer * 65536 + inner))) _ _ (b.each_set outer inner g at lt) (b'.no_set outer inner g' at' l few.0)))
      (cases_lt inner (length g'.sets))

  same_set : (g' : Subtable) × SubtableAt k' outer g' × (inner < length g'.sets) × (set_of g inner ≡ set_of g' inner)
  same_set = (g', at', held, same (outcome (tuples_of bs (outer * 65536 + inner))) _ _ (b.each_set outer inner g at lt) (b'.each_set outer inner g' at' held))

pub apart : TablesTellApart
apart k k' coverage conditions coverage' conditions' sound sound' short short' e =
    let bs = table k coverage conditions in
    let r = places k coverage conditions in
    let r' = places k' coverage' conditions' in
    let b = read_back k coverage conditions sound short in
    let b' : ReadBack k' r' (table k coverage conditions) = subst (ReadBack k' r') (sym e) (read_back k' coverage' conditions' sound' short') in
    (same_composites k k' r r' bs b b', same_set k k' r r' bs b b' sound)
