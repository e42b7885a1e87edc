-- What the calls leave.
use Rattle.std.proofs.Common.{◌≡◌, ℕ, ◌+◌, ◌-◌, ◌<◌, ◌≤◌, List, [], ◌∷◌, ◌++◌, length, take, set, IfSome, Some, None, Option, sym, ap, ◌∙◌, subst, arith}
use Rattle.std.proofs.lemmas.List.{take_more_set, take-take, length-take-le}
use Rattle.memory.specs.Lists.{Stored, Lists, held}
use Rattle.memory.specs.Fit.{MarkFits}
use Rattle.job.specs.Outcome.{State, state, JobFits, Room}
use Rattle.job.specs.Composites.{Given, listed, spanned, with_counts, with_composites, begun, added, closed, closed_at, cancelled, cancelled_at}
use Rattle.job.specs.declared.state.Job.{Job}
use Rattle.memory.specs.declared.memory.Mark.{Mark}
use Rattle.memory.specs.declared.records.Pair.{Pair}
use Rattle.memory.specs.declared.records.Span.{Span}

-- the last of n filled records written anew
take_last_set : {X : Type 0} (n : ℕ) (xs : List X) (x : X) → 0 < n → n ≤ length xs → take n (set xs (n - 1) x) ≡ take (n - 1) (take n xs) ++ (x ∷ [])
take_last_set n xs x some fits =
    let e : n ≡ n - 1 + 1 = omega arith in
    let l : n - 1 < length xs = omega arith in
    let b : n - 1 ≤ n = omega arith in
    ap (λ k. take k (set xs (n - 1) x)) e ∙ take_more_set xs (n - 1) x l ∙ ap (λ ys. ys ++ (x ∷ [])) (sym (take-take (n - 1) n xs b))

-- the record of a component whose pairs stand there
abbrev with_axes : Option Span → Given → Stored
with_axes axes g = record {
  reset_unspecified_axes = g.reset_unspecified_axes;
  gid = g.gid;
  condition = g.condition;
  axes = axes;
  axis_values_var = g.axis_values_var;
  transform_var = g.transform_var;
  transform = g.transform;
}

module _ (j : Job) (l : Lists) (fits : JobFits j l) where
  pub begin_leaves : Room 1 j.counts.composites (length l.composites) →
      state (begun (state j l)).job (with_composites l.pairs l.components (set l.composites j.counts.composites (record { place = j.counts.components; count = 0 })) l) ≡ begun (state j l)
  begin_leaves room =
      let b : j.counts.composites < length l.composites = omega arith in
      ap (λ os. record { job = (begun (state j l)).job; held = with_composites (held j.counts l).pairs (held j.counts l).components os (held j.counts l) })
      (take_more_set l.composites j.counts.composites _ b)

  -- with a component written, and pairs ps of which so many are new
  abbrev written : Given → ℕ → Option Span → List Pair → State
  written g more axes ps =
      state (record { number = j.number; counts = with_counts (j.counts.pairs + more) (j.counts.components + 1) j.counts.composites j.counts; mark = j.mark })
      (with_composites ps (set l.components j.counts.components (with_axes axes g)) l.composites l)

  pub component_leaves : (g : Given) (new ps : List Pair) (axes : Option Span) →
      new ≡ listed g.axes → axes ≡ spanned j.counts.pairs g.axes →
      j.counts.components + 1 ≤ length l.components →
      take (j.counts.pairs + length new) ps ≡ take j.counts.pairs l.pairs ++ new →
      written g (length new) axes ps ≡ added g (state j l)
  component_leaves g new ps axes New-is axes-is within e =
      let b : j.counts.components < length l.components = omega arith in
      let J : ℕ → Job = λ k. record { number = j.number; counts = with_counts (j.counts.pairs + k) (j.counts.components + 1) j.counts.composites j.counts; mark = j.mark } in
      let H : ℕ → List Pair → List Stored → State = λ k qs cs. record { job = J k; held = with_composites qs cs (held j.counts l).composites (held j.counts l) } in
      ap (λ qs. H (length new) qs (take (j.counts.components + 1) (set l.components j.counts.components (with_axes axes g)))) e
      ∙ ap (λ cs. H (length new) ((held j.counts l).pairs ++ new) cs) (take_more_set l.components j.counts.components _ b)
      ∙ ap (λ xs. H (length xs) ((held j.counts l).pairs ++ xs) ((held j.counts l).components ++ (with_axes axes g ∷ []))) New-is
      ∙ ap (λ a. H (length (listed g.axes)) ((held j.counts l).pairs ++ listed g.axes) ((held j.counts l).components ++ (with_axes a g ∷ []))) axes-is

  module _ (m : Mark) (is : j.mark ≡ Some m) where
    mark_fits : MarkFits (held j.counts l) m
    mark_fits = subst (λ o. IfSome o (MarkFits (held j.counts l))) is fits.sound.begun

    pub close_leaves :
        state (record { number = j.number; counts = j.counts; mark = None })
        (with_composites l.pairs l.components (set l.composites (j.counts.composites - 1) (record { place = m.components; count = j.counts.components - m.components })) l)
        ≡ closed (state j l)
    close_leaves =
        let n = length-take-le j.counts.composites l.composites fits.counted.composites in
        let some : 0 < j.counts.composites = omega (arith, mark_fits.begun) in
        ap (λ os. record { job = (closed_at (Some m) (state j l)).job; held = with_composites (held j.counts l).pairs (held j.counts l).components os (held j.counts l) })
        (take_last_set j.counts.composites l.composites _ some fits.counted.composites)
        ∙ ap (λ o. closed_at o (state j l)) (sym is)

    pub cancel_leaves : state (cancelled_at (Some m) (state j l)).job l ≡ cancelled (state j l)
    cancel_leaves =
        let n = length-take-le j.counts.components l.components fits.counted.components in
        let k = length-take-le j.counts.pairs l.pairs fits.counted.pairs in
        let cs = take-take m.components j.counts.components l.components (omega (arith, mark_fits.components)) in
        let ps = take-take m.pairs j.counts.pairs l.pairs (omega (arith, mark_fits.pairs)) in
        let os = take-take (j.counts.composites - 1) j.counts.composites l.composites (omega arith) in
        sym (ap (λ xs. record { job = (cancelled_at (Some m) (state j l)).job; held = with_composites xs (take m.components (held j.counts l).components) (take (j.counts.composites - 1) (held j.counts l).composites) (held j.counts l) }) ps
        ∙ ap (λ xs. record { job = (cancelled_at (Some m) (state j l)).job; held = with_composites (take m.pairs l.pairs) xs (take (j.counts.composites - 1) (held j.counts l).composites) (held j.counts l) }) cs
        ∙ ap (λ xs. record { job = (cancelled_at (Some m) (state j l)).job; held = with_composites (take m.pairs l.pairs) (take m.components l.components) xs (held j.counts l) }) os)
        ∙ ap (λ o. cancelled_at o (state j l)) (sym is)
