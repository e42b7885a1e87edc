-- What a call answers, and what it leaves.
use Rattle.std.specs.Prelude.{◌≡◌, ℕ, ◌+◌, ◌≤◌, ◌⊎◌, List, [], ◌∷◌, Ok, Err, Result}
use Rattle.memory.specs.Fit.{Fits}
use Rattle.memory.specs.Lists.{Lists, held}
use Rattle.memory.specs.declared.refusal.Refusal.{Refusal}
use Rattle.job.specs.declared.state.Job.{Job}
use Rattle.job.specs.declared.state.Kept.{Kept}
use Rattle.job.specs.declared.state.OpenComposite.{OpenComposite}

infix 68 ◌unless◌
-- a check: refused so, unless this holds
pub record Check : Type 1 where
  pub answer : Refusal
  pub holds : Type 0

abbrev pub ◌unless◌ : Refusal → Type 0 → Check
◌unless◌ why P = record { answer = why; holds = P }

-- the first check that refuses answers so
abbrev pub FirstOf : List Check → Refusal → Type 0
FirstOf [] why = ⊥
FirstOf (c ∷ rest) why = ((c.holds → ⊥) × (why ≡ c.answer)) ⊎ (c.holds × FirstOf rest why)

-- no check refuses
abbrev pub NoneOf : List Check → Type 0
NoneOf [] = Unit {0}
NoneOf (c ∷ rest) = c.holds × NoneOf rest

-- a job and what it holds: memory past the filled counts is no part of it
pub record State : Type 0 where
  pub job : Job
  pub held : Lists

abbrev pub state : Job → Lists → State
state j l = record { job = j; held = held j.counts l }

-- the job fits the lists: number 1 does not refuse it
abbrev pub JobFits : Job → Lists → Type 0
JobFits j l = Fits j.counts j.mark l

-- From s to t: refused by the first check that fits, and nothing changes; or x is answered, and what is left is done.
abbrev pub Outcome : {X : Type 0} → List Check → State → X → State → Result X Refusal → State → Type 0
Outcome checks s x done (Ok y) t = NoneOf checks × (y ≡ x) × (t ≡ done)
Outcome checks s x done (Err why) t = FirstOf checks why × (t ≡ s)

-- the same where nothing but the success is answered
abbrev pub Adds : {X : Type 0} → List Check → State → State → Result X Refusal → State → Type 0
Adds checks s done (Ok y) t = NoneOf checks × (t ≡ done)
Adds checks s done (Err why) t = FirstOf checks why × (t ≡ s)

-- the same where a token is spent, and handed back where the call is refused
abbrev pub Spends : {X : Type 0} → List Check → State → OpenComposite → State → Result X Kept → State → Type 0
Spends checks s token done (Ok y) t = NoneOf checks × (t ≡ done)
Spends checks s token done (Err e) t = FirstOf checks e.refusal × (e.token ≡ token) × (t ≡ s)

-- room for n records more than so many in a list of this size, and no more than 16,777,216
pub record Room (n filled size : ℕ) : Type 0 where
  pub within : filled + n ≤ size
  pub few : filled + n ≤ 16777216
