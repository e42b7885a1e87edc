-- A walk over the runs of packed values, and what a run is written as.
use Rattle.std.specs.Prelude.{◌≡◌, ℕ, ◌+◌, ◌-◌, ◌^◌, ◌<◌, ◌≤◌, List, ◌∷◌, length, take, drop, ℤ, Some, None, Option}
use Rattle.std.specs.List.{flat_map}
use Rattle.format.specs.declared.Width.{Width}
use Rattle.format.specs.declared.Width.TheVariants.{Zero, One, Two, Four}
use Rattle.format.specs.Packed.{next_run, control, bytes}
use Rattle.encode.specs.declared.runs.Run.{Run}
use Rattle.encode.specs.declared.runs.Runs.{Runs}

-- a run of the values vs: the one that begins at its place; the machine can say where it ends
pub record RunOf (vs : List ℤ) (run : Run) : Type 0 where
  pub within : run.place < length vs
  pub is : ◌≡◌ {A = ℕ × Width} (run.count, run.width) (next_run (drop run.place vs))
  pub fits : run.place + run.count < 2 ^ 64

-- One step of a walk: before the end, the run that begins here, and on to the place after it; at the end, none.
abbrev pub Steps : List ℤ → ℕ → Option Run → ℕ → Type 0
Steps vs at None after = (length vs ≤ at) × (after ≡ at)
Steps vs at (Some run) after = (run.place ≡ at) × RunOf vs run × (after ≡ at + run.count)

-- A call of `next`: the same values, and one step.
abbrev pub Walks : {V : Type 0} → (V → List ℤ) → Runs V → Option Run → Runs V → Type 0
Walks deltas s r t = (t.values.now ≡ s.values.now) × Steps (deltas s.values.now) s.place r t.place

-- in how many bytes a value of a width is written
abbrev pub width_size : Width → ℕ
width_size Zero = 0
width_size One = 1
width_size Two = 2
width_size Four = 4

-- the bytes of a run of the values vs: its control byte, and each value in its width
abbrev pub run_bytes : Run → List ℤ → List ℕ
run_bytes run vs = control run.width (run.count - 1) ∷ flat_map (bytes run.width) (take run.count (drop run.place vs))
