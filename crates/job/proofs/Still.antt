-- After a call on a job that fits its memory, the counts and the mark as they are then fit the memory as it is then.
use Rattle.std.proofs.Common.{◌≡◌, ◌≤◌, List, length, Option, sym, subst}
use Rattle.memory.specs.Lists.{Stored, Lists, held}
use Rattle.memory.specs.Fit.{Fits, Sound, Counted}
use Rattle.memory.specs.declared.memory.Counts.{Counts}
use Rattle.memory.specs.declared.memory.Mark.{Mark}
use Rattle.memory.specs.declared.records.Pair.{Pair}
use Rattle.memory.specs.declared.records.Span.{Span}
use Rattle.job.specs.Composites.{with_counts, with_composites}

-- only three counts may have changed
pub still_fits : (n k : Counts) (mark mark' : Option Mark) (l : Lists) (ps : List Pair) (cs : List Stored) (os : List Span) (h : Lists) →
    Fits n mark l → k ≡ with_counts k.pairs k.components k.composites n →
    k.pairs ≤ length ps → k.components ≤ length cs → k.composites ≤ length os →
    held k (with_composites ps cs os l) ≡ h → Sound mark' h → Fits k mark' (with_composites ps cs os l)
still_fits n k mark mark' l ps cs os h fits same bp bc bo leaves sound =
    let f = fits.counted in
    record {
      counted =
          subst (λ n. Counted n (with_composites ps cs os l)) (sym same)
          (record { coordinates = f.coordinates; regions = f.regions; values = f.values; entries = f.entries; sets = f.sets; pairs = bp; components = bc; composites = bo; axis_lists = f.axis_lists });
      sound = subst (Sound mark') (sym leaves) sound;
    }
