-- A job that fits its memory still does after the calls.
use Rattle.std.proofs.Common.{◌≡◌, ℕ, ◌-◌, ◌≤◌, List, [], ◌∷◌, ◌++◌, map, length, take, IfSome, Some, None, Option, sym, refl, ap, ◌∙◌, subst, arith}
use Rattle.std.proofs.lemmas.List.{length-take-le, length-append, length_push, take_at, take-append-le}
use Rattle.std.proofs.lemmas.Option.{IfSome_then}
use Rattle.std.proofs.ByRecursion.{All-push, All-weaker, All-take}
use Rattle.memory.specs.Lists.{Stored, Lists, held}
use Rattle.memory.specs.Fit.{IdsKnown, Sound, MarkFits, ComponentFits, AxesFit, Within}
use Rattle.keys.specs.Numbers.{AscendingNumbers}
use Rattle.job.specs.Outcome.{State, state, JobFits}
use Rattle.job.specs.Composites.{Given, listed, spanned, stored, begun, added, closed, closed_at, cancelled_at, BelowMark, Below}
use Rattle.job.specs.declared.state.Job.{Job}
use Rattle.memory.specs.declared.memory.Mark.{Mark}
use Rattle.memory.specs.declared.records.Pair.{Pair}
use Rattle.memory.specs.declared.records.Span.{Span}
use Rattle.std.specs.List.{AllByRecursion}
use Rattle.memory.proofs.Parts.{part-take, part-more, part_new}

found_both : {X : Type 0} {P Q R : X → Type 0} → ((x : X) → P x → Q x → R x) → (o : Option X) → IfSome o P → IfSome o Q → IfSome o R
found_both f None h k = tt
found_both f (Some x) h k = f x h k

all_both : {X : Type 0} (P Q R : X → Type 0) → ((x : X) → P x → Q x → R x) → (xs : List X) → AllByRecursion P xs → AllByRecursion Q xs → AllByRecursion R xs
all_both P Q R f [] h k = tt
all_both P Q R f (x ∷ xs) h k = (f x h.0 k.0, all_both P Q R f xs h.1 k.1)

abbrev pub SoundState : State → Type 0
SoundState s = Sound s.job.mark s.held

-- with more pairs
module _ (ps new : List Pair) where
  axes_more : (s : Span) → AxesFit ps s → AxesFit (ps ++ new) s
  axes_more s h =
      record {
        within = omega (arith, h.within, length-append ps new);
        ascends = subst (λ xs. AscendingNumbers (map (λ p. p.axis) xs)) (sym (part-more s ps new h.within)) h.ascends;
      }

  component-more : (sets : ℕ) (c : Stored) → ComponentFits ps sets c → ComponentFits (ps ++ new) sets c
  component-more sets c h =
      record { gid = h.gid; axes = IfSome_then c.axes h.axes axes_more; axis_values_var = h.axis_values_var; transform_var = h.transform_var }

axes_new : (n : ℕ) (ps : List Pair) (given : Option (List Pair)) → length ps ≡ n → AscendingNumbers (map (λ p. p.axis) (listed given)) → IfSome (spanned n given) (AxesFit (ps ++ listed given))
axes_new n ps None e h = tt
axes_new n ps (Some new) e h =
    record {
      within = omega (arith, length-append ps new);
      ascends = subst (λ xs. AscendingNumbers (map (λ p. p.axis) xs)) (sym (part_new n ps new e)) h;
    }

within_more : (m n : ℕ) → m ≤ n → (s : Span) → Within m s → Within n s
within_more m n le s h = omega arith

module _ (j : Job) (l : Lists) (fits : JobFits j l) where
  abbrev H : Lists
  H = held j.counts l

  pub long_pairs : length H.pairs ≡ j.counts.pairs
  long_pairs = length-take-le j.counts.pairs l.pairs fits.counted.pairs

  pub long_components : length H.components ≡ j.counts.components
  long_components = length-take-le j.counts.components l.components fits.counted.components

  pub long_composites : length H.composites ≡ j.counts.composites
  long_composites = length-take-le j.counts.composites l.composites fits.counted.composites

  pub long_sets : length H.sets ≡ j.counts.sets
  long_sets = length-take-le j.counts.sets l.sets fits.counted.sets

  pub begun_sound : SoundState (begun (state j l))
  begun_sound =
      let s = fits.sound in
      let x : Span = record { place = j.counts.components; count = 0 } in
      record {
        few = s.few;
        regions = s.regions;
        entries = s.entries;
        sets = s.sets;
        components = s.components;
        composites = All-push (Within (length H.components)) H.composites x s.composites (omega (arith, long_components));
        axis_lists = s.axis_lists;
        groups = s.groups;
        begun = record { begun = omega (arith, length_push H.composites x); components = omega (arith, long_components); pairs = omega (arith, long_pairs) };
      }

  pub added_sound : (g : Given) → AscendingNumbers (map (λ p. p.axis) (listed g.axes)) → g.gid ≤ 0xFFFFFF → IdsKnown j.counts.sets g → SoundState (added g (state j l))
  added_sound g order gid ids =
      let s = fits.sound in
      let new = listed g.axes in
      let c : Stored = stored j.counts.pairs g in
      let longer = length-append H.pairs new in
      let more = length_push H.components c in
      let k = subst (λ n. IdsKnown n g) (sym long_sets) ids in
      record {
        few = s.few;
        regions = s.regions;
        entries = s.entries;
        sets = s.sets;
        components =
            All-push (ComponentFits (H.pairs ++ new) (length H.sets)) H.components c
            (All-weaker (ComponentFits H.pairs (length H.sets)) _ (component-more H.pairs new (length H.sets)) H.components s.components)
            (record { gid = gid; axes = axes_new j.counts.pairs H.pairs g.axes long_pairs order; axis_values_var = k.axis_values_var; transform_var = k.transform_var });
        composites = All-weaker _ _ (within_more (length H.components) (length (H.components ++ (c ∷ []))) (omega (arith, more))) H.composites s.composites;
        axis_lists = All-weaker _ _ (within_more (length H.pairs) (length (H.pairs ++ new)) (omega (arith, longer))) H.axis_lists s.axis_lists;
        groups = s.groups;
        begun =
            IfSome_then j.mark s.begun
            (λ m h. record { begun = h.begun; components = omega (arith, h.components, more); pairs = omega (arith, h.pairs, longer) });
      }

  module _ (m : Mark) (is : j.mark ≡ Some m) where
    pub mark_fits : MarkFits H m
    mark_fits = subst (λ o. IfSome o (MarkFits H)) is fits.sound.begun

    pub closed_sound : SoundState (closed (state j l))
    closed_sound =
        let s = fits.sound in
        let x : Span = record { place = m.components; count = j.counts.components - m.components } in
        subst (λ o. SoundState (closed_at o (state j l))) (sym is)
        (record {
          few = s.few;
          regions = s.regions;
          entries = s.entries;
          sets = s.sets;
          components = s.components;
          composites =
              All-push (Within (length H.components)) (take (j.counts.composites - 1) H.composites) x
              (All-take (Within (length H.components)) (j.counts.composites - 1) H.composites s.composites)
              (omega (arith, long_components, mark_fits.components));
          axis_lists = s.axis_lists;
          groups = s.groups;
          begun = tt;
        })

-- what is closed lies below the mark, before a call and after it

length_less_one : {X : Type 0} (xs : List X) (x : X) → take (length (xs ++ (x ∷ [])) - 1) (xs ++ (x ∷ [])) ≡ xs
length_less_one xs x =
    let e : length (xs ++ (x ∷ [])) - 1 ≡ length xs = omega (arith, length_push xs x) in
    ap (λ n. take n (xs ++ (x ∷ []))) e ∙ take_at xs (x ∷ []) (length xs) refl

module _ (j : Job) (l : Lists) (fits : JobFits j l) where
  abbrev K : Lists
  K = held j.counts l

  pub begun_below : Below (begun (state j l))
  begun_below =
      let s = fits.sound in
      let x : Span = record { place = j.counts.components; count = 0 } in
      let n = long_components j l fits in
      let p = long_pairs j l fits in
      record {
        composites = subst (AllByRecursion (Within j.counts.components)) (sym (length_less_one K.composites x)) (subst (λ k. AllByRecursion (Within k) K.composites) n s.composites);
        components =
            All-take _ j.counts.components K.components
            (All-weaker (ComponentFits K.pairs (length K.sets)) _ (λ c h. IfSome_then c.axes h.axes (λ a f. omega (arith, f.within, p))) K.components s.components);
        axis_lists = subst (λ k. AllByRecursion (Within k) K.axis_lists) p s.axis_lists;
      }

  pub added_below : (g : Given) → Below (state j l) → Below (added g (state j l))
  added_below g = below_at j.mark fits.sound.begun
    where
      below_at : (o : Option Mark) → IfSome o (MarkFits K) → IfSome o (BelowMark K) → IfSome o (BelowMark (added g (state j l)).held)
      below_at None f h = tt
      below_at (Some m) f h =
          record {
            composites = h.composites;
            components = subst (AllByRecursion (λ c. IfSome c.axes (Within m.pairs))) (sym (take-append-le m.components K.components (stored j.counts.pairs g ∷ []) f.components)) h.components;
            axis_lists = h.axis_lists;
          }

  axes_fewer : (m : Mark) (c : Stored) (sets : ℕ) → m.pairs ≤ length K.pairs → ComponentFits K.pairs sets c → IfSome c.axes (Within m.pairs) → ComponentFits (take m.pairs K.pairs) sets c
  axes_fewer m c sets le h w =
      record {
        gid = h.gid;
        axes = found_both (λ s f b. record {
          within = omega (arith, b, length-take-le m.pairs K.pairs le);
          ascends = subst (λ xs. AscendingNumbers (map (λ p. p.axis) xs)) (sym (part-take m.pairs s K.pairs b)) f.ascends;
        }) c.axes h.axes w;
        axis_values_var = h.axis_values_var;
        transform_var = h.transform_var;
      }

  module _ (m : Mark) (is : j.mark ≡ Some m) (below : BelowMark K m) where
    pub cancelled_sound : Sound None (cancelled_at (Some m) (state j l)).held
    cancelled_sound =
        let s = fits.sound in
        let f = mark_fits j l fits m is in
        let cs = length-take-le m.components K.components f.components in
        let ps = length-take-le m.pairs K.pairs f.pairs in
        let os = long_composites j l fits in
        record {
          few = s.few;
          regions = s.regions;
          entries = s.entries;
          sets = s.sets;
          components =
              all_both (ComponentFits K.pairs (length K.sets)) (λ c. IfSome c.axes (Within m.pairs)) _ (λ c. axes_fewer m c (length K.sets) f.pairs)
              (take m.components K.components) (All-take _ m.components K.components s.components) below.components;
          composites = subst (λ n. AllByRecursion (Within n) (take (j.counts.composites - 1) K.composites)) (sym cs) (subst (λ n. AllByRecursion (Within m.components) (take (n - 1) K.composites)) os below.composites);
          axis_lists = subst (λ n. AllByRecursion (Within n) K.axis_lists) (sym ps) below.axis_lists;
          groups = s.groups;
          begun = tt;
        }
