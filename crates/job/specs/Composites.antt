-- Composites: begun, given components, closed or cancelled.
use Rattle.std.specs.Prelude.{◌≡◌, ℕ, ◌+◌, ◌-◌, ◌≤◌, true, List, [], ◌∷◌, ◌++◌, map, length, take, is_some, IfSome, Some, None, Option, Result}
use Rattle.std.specs.Borrow.{Bor}
use Rattle.std.specs.Option.{option_map}
use Rattle.std.specs.List.{AllByRecursion}
use Rattle.keys.specs.Numbers.{AscendingNumbers}
use Rattle.memory.specs.Fit.{IdsKnown, Within}
use Rattle.memory.specs.Lists.{Lists, Stored}
use Rattle.memory.specs.declared.memory.Counts.{Counts}
use Rattle.memory.specs.declared.memory.Mark.{Mark}
use Rattle.memory.specs.declared.records.Component.{Component}
use Rattle.memory.specs.declared.records.Pair.{Pair}
use Rattle.memory.specs.declared.records.Span.{Span}
use Rattle.memory.specs.declared.records.TemporaryDeltaSetId.{TemporaryDeltaSetId}
use Rattle.memory.specs.declared.refusal.Refusal.{Refusal}
use Rattle.memory.specs.declared.refusal.Refusal.TheVariants.{Memory, AxisOrder, NoRoom, GlyphId, UnknownId, IsOpen, NotOpen}
use Rattle.job.specs.Outcome.{Check, ◌unless◌, JobFits, State, state, Room, Outcome, Adds, Spends}
use Rattle.job.specs.declared.state.Job.{Job}
use Rattle.job.specs.declared.state.Kept.{Kept}
use Rattle.job.specs.declared.state.OpenComposite.{OpenComposite}

-- the lists and counts of composites, components and pairs changed, and no others
abbrev pub with_composites : List Pair → List Stored → List Span → Lists → Lists
with_composites ps cs os h =
    record {
      coordinates = h.coordinates;
      regions = h.regions;
      values = h.values;
      entries = h.entries;
      sets = h.sets;
      pairs = ps;
      components = cs;
      composites = os;
      axis_lists = h.axis_lists;
    }

abbrev pub with_counts : ℕ → ℕ → ℕ → Counts → Counts
with_counts ps cs os n =
    record {
      coordinates = n.coordinates;
      regions = n.regions;
      values = n.values;
      entries = n.entries;
      sets = n.sets;
      pairs = ps;
      components = cs;
      composites = os;
      axis_lists = n.axis_lists;
    }

-- new

abbrev pub fresh : ℕ → Job
fresh n =
    record {
      number = n;
      counts =
          record { coordinates = 0; regions = 0; values = 0; entries = 0; sets = 0; pairs = 0; components = 0; composites = 0; axis_lists = 0 };
      mark = None;
    }

-- begin

abbrev pub begin_checks : Job → Lists → List Check
begin_checks j l =
    Memory unless JobFits j l ∷
    NoRoom unless Room 1 j.counts.composites (length l.composites) ∷
    IsOpen unless (j.mark ≡ None) ∷ []

abbrev pub token : Job → OpenComposite
token j = record { job = j.number; composite = j.counts.composites }

abbrev pub begun : State → State
begun s =
    let n : Counts = s.job.counts in
    let h : Lists = s.held in
    record {
      job =
          record {
            number = s.job.number;
            counts = with_counts n.pairs n.components (n.composites + 1) n;
            mark = Some (record { components = n.components; pairs = n.pairs });
          };
      held = with_composites h.pairs h.components (h.composites ++ (record { place = n.components; count = 0 } ∷ [])) h;
    }

-- component

-- a component as it was handed in
abbrev pub Given : Type 0
Given = Component (List Pair) TemporaryDeltaSetId

abbrev pub given : Component (Bor (List Pair)) TemporaryDeltaSetId → Given
given c = record {
  reset_unspecified_axes = c.reset_unspecified_axes;
  gid = c.gid;
  condition = c.condition;
  axes = option_map (λ x. x.now) c.axes;
  axis_values_var = c.axis_values_var;
  transform_var = c.transform_var;
  transform = c.transform;
}

-- the pairs, none where there are none
abbrev pub listed : {X : Type 0} → Option (List X) → List X
listed None = []
listed (Some xs) = xs

-- where they will stand
abbrev pub spanned : {X : Type 0} → ℕ → Option (List X) → Option Span
spanned at None = None
spanned at (Some xs) = Some (record { place = at; count = length xs })

-- the token is of the composite that is open
pub record Opens (j : Job) (t : OpenComposite) : Type 0 where
  pub opened : is_some j.mark ≡ true
  pub number : t.job ≡ j.number
  pub last : t.composite + 1 ≡ j.counts.composites

-- the record of a component whose pairs stand from a place on
abbrev pub stored : ℕ → Given → Stored
stored at g = record {
  reset_unspecified_axes = g.reset_unspecified_axes;
  gid = g.gid;
  condition = g.condition;
  axes = spanned at g.axes;
  axis_values_var = g.axis_values_var;
  transform_var = g.transform_var;
  transform = g.transform;
}

-- room for a component and its pairs
pub record ComponentRoom (more : ℕ) (n : Counts) (l : Lists) : Type 0 where
  pub component : Room 1 n.components (length l.components)
  pub pairs : Room more n.pairs (length l.pairs)

abbrev pub component_checks : Job → Lists → OpenComposite → Given → List Check
component_checks j l t g =
    Memory unless JobFits j l ∷
    AxisOrder unless AscendingNumbers (map (λ p. p.axis) (listed g.axes)) ∷
    NoRoom unless ComponentRoom (length (listed g.axes)) j.counts l ∷
    GlyphId unless (g.gid ≤ 0xFFFFFF) ∷
    UnknownId unless IdsKnown j.counts.sets g ∷
    NotOpen unless Opens j t ∷ []

abbrev pub added : Given → State → State
added g s =
    let n : Counts = s.job.counts in
    let h : Lists = s.held in
    record {
      job =
          record {
            number = s.job.number;
            counts = with_counts (n.pairs + length (listed g.axes)) (n.components + 1) n.composites n;
            mark = s.job.mark;
          };
      held =
          with_composites (h.pairs ++ listed g.axes)
          (h.components ++ (stored n.pairs g ∷ [])) h.composites h;
    }

-- close and cancel

abbrev pub spend_checks : Job → Lists → OpenComposite → List Check
spend_checks j l t = Memory unless JobFits j l ∷ NotOpen unless Opens j t ∷ []

abbrev pub closed_at : Option Mark → State → State
closed_at None s = s
closed_at (Some m) s =
    let n : Counts = s.job.counts in
    let h : Lists = s.held in
    record {
      job = record { number = s.job.number; counts = n; mark = None };
      held =
          with_composites h.pairs h.components
          (take (n.composites - 1) h.composites ++ (record { place = m.components; count = n.components - m.components } ∷ [])) h;
    }

abbrev pub closed : State → State
closed s = closed_at s.job.mark s

abbrev pub cancelled_at : Option Mark → State → State
cancelled_at None s = s
cancelled_at (Some m) s =
    let n : Counts = s.job.counts in
    let h : Lists = s.held in
    record {
      job = record { number = s.job.number; counts = with_counts m.pairs m.components (n.composites - 1) n; mark = None };
      held = with_composites (take m.pairs h.pairs) (take m.components h.components) (take (n.composites - 1) h.composites) h;
    }

abbrev pub cancelled : State → State
cancelled s = cancelled_at s.job.mark s

-- What is closed lies below the mark: the composites before the open one, and the components and axis lists that stay where it is cancelled.
-- `begin` establishes it, the other calls keep it, and `cancel` needs it to leave a job that fits.
pub record BelowMark (h : Lists) (m : Mark) : Type 0 where
  pub composites : AllByRecursion (Within m.components) (take (length h.composites - 1) h.composites)
  pub components : AllByRecursion (λ c. IfSome c.axes (Within m.pairs)) (take m.components h.components)
  pub axis_lists : AllByRecursion (Within m.pairs) h.axis_lists

abbrev pub Below : State → Type 0
Below s = IfSome s.job.mark (BelowMark s.held)

-- From a job and its lists to those after a call: a job that fits still does, and what is closed still lies below the mark.
pub record Keeps (j : Job) (l : Lists) (j' : Job) (l' : Lists) : Type 0 where
  pub fits : JobFits j l → JobFits j' l'
  pub below : Below (state j l) → Below (state j' l')

-- the same, where a job that fits is kept only with what is closed below the mark: a call may take the open composite away
pub record KeepsBelow (j : Job) (l : Lists) (j' : Job) (l' : Lists) : Type 0 where
  pub fits : JobFits j l → Below (state j l) → JobFits j' l'
  pub below : Below (state j l) → Below (state j' l')

-- what each call answers and leaves

abbrev pub Begins : Job → Lists → Result OpenComposite Refusal → State → Type 0
Begins j l r t = Outcome (begin_checks j l) (state j l) (token j) (begun (state j l)) r t

abbrev pub AddsComponent : {X : Type 0} → Job → Lists → OpenComposite → Given → Result X Refusal → State → Type 0
AddsComponent j l o g r t = Adds (component_checks j l o g) (state j l) (added g (state j l)) r t

abbrev pub Closes : {X : Type 0} → Job → Lists → OpenComposite → Result X Kept → State → Type 0
Closes j l o r t = Spends (spend_checks j l o) (state j l) o (closed (state j l)) r t

abbrev pub Cancels : {X : Type 0} → Job → Lists → OpenComposite → Result X Kept → State → Type 0
Cancels j l o r t = Spends (spend_checks j l o) (state j l) o (cancelled (state j l)) r t
