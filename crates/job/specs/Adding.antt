-- Delta sets added to a job.
use Rattle.std.specs.Prelude.{List, [], ◌∷◌, length, Result}
use Rattle.std.specs.List.{AllByRecursion}
use Rattle.memory.specs.Lists.{Lists, held}
use Rattle.memory.specs.declared.memory.Counts.{Counts}
use Rattle.memory.specs.declared.records.TemporaryDeltaSetId.{TemporaryDeltaSetId}
use Rattle.memory.specs.declared.refusal.Refusal.{Refusal}
use Rattle.memory.specs.declared.refusal.Refusal.TheVariants.{Memory, PartCounts, TupleLengths, AxisOrder, RegionOrder, NoRoom, Limit}
use Rattle.deltas.specs.Deltas.{Handed, Added, RegionsAscend, id_of, added, with_added}
use Rattle.deltas.specs.Limits.{DeltaLimits, counts_with}
use Rattle.deltas.specs.Parts.{AddUp, Level, Ascends, cuts}
use Rattle.job.specs.Outcome.{Check, ◌unless◌, Room, JobFits, State, state, Outcome}
use Rattle.job.specs.declared.state.Job.{Job}

-- Room in each list for what is added to it.
pub record DeltaRoom (n : Counts) (l : Lists) (a : Added) : Type 0 where
  pub coordinates : Room (length a.coordinates) n.coordinates (length l.coordinates)
  pub regions : Room (length a.regions) n.regions (length l.regions)
  pub values : Room (length a.values) n.values (length l.values)
  pub entries : Room (length a.entries) n.entries (length l.entries)
  pub sets : Room (length a.sets) n.sets (length l.sets)

abbrev pub delta_checks : Job → Lists → Handed → List Check
delta_checks j l d =
    Memory unless JobFits j l ∷
    PartCounts unless AddUp d.parts (length d.coordinates) (length d.values) ∷
    TupleLengths unless Level d.parts ∷
    AxisOrder unless AllByRecursion Ascends (cuts d.parts d.coordinates) ∷
    RegionOrder unless RegionsAscend (held j.counts l) d ∷
    NoRoom unless DeltaRoom j.counts l (added (held j.counts l) d) ∷
    Limit unless DeltaLimits (held j.counts l) d ∷ []

-- the job with the delta set and its new regions
abbrev pub with_deltas : Handed → State → State
with_deltas d s =
    record {
      job = record { number = s.job.number; counts = counts_with (added s.held d) s.job.counts; mark = s.job.mark };
      held = with_added s.held (added s.held d);
    }

-- what adding deltas answers and leaves
abbrev pub AddsDeltas : Job → Lists → Handed → Result TemporaryDeltaSetId Refusal → State → Type 0
AddsDeltas j l d r t = Outcome (delta_checks j l d) (state j l) (record { 0 = id_of (held j.counts l) d }) (with_deltas d (state j l)) r t
