-- What a step of a run answers and leaves, by what the call itself does.
use Rattle.std.specs.Prelude.{◌≡◌, Some, None, Ok, Err, Result, ◌≢◌}
use Rattle.memory.specs.Lists.{Lists}
use Rattle.memory.specs.declared.refusal.Refusal.{Refusal}
use Rattle.job.specs.Composites.{given, AddsComponent, Closes, Cancels}
use Rattle.job.specs.Outcome.{State}
use Rattle.job.specs.declared.state.Job.{Job}
use Rattle.job.specs.declared.state.Kept.{Kept}
use Rattle.job.specs.declared.state.OpenComposite.{OpenComposite}
use Rattle.run.specs.declared.step.OnOpen.{OnOpen}
use Rattle.run.specs.declared.step.OnOpen.TheVariants.{Component, Close, Cancel}
use Rattle.run.specs.declared.step.Step.{Step}

-- after a call that looks at the token: it is kept
abbrev pub shown : OpenComposite → Result (Unit {0}) Refusal → Step
shown t r = record { answer = r; «open» = Some t }

-- after a call that spends the token, or hands it back
abbrev pub spent : Result (Unit {0}) Kept → Step
spent (Ok _) = record { answer = Ok tt; «open» = None }
spent (Err k) = shown k.token (Err k.refusal)

-- a call on the open composite that shows a token
abbrev pub OnOpenSteps : Job → Lists → OpenComposite → OnOpen → Step → State → Type 0
OnOpenSteps j l t (Component c) s after = (r : Result (Unit {0}) Refusal) × AddsComponent j l t (given c) r after × (s ≡ shown t r)
OnOpenSteps j l t Close s after = (r : Result (Unit {0}) Kept) × Closes j l t r after × (s ≡ spent r)
OnOpenSteps j l t Cancel s after = (r : Result (Unit {0}) Kept) × Cancels j l t r after × (s ≡ spent r)

-- a call on the open composite that shows the token of another job's, and is answered with it in hand
abbrev pub ShowsAnother : Job → Lists → OnOpen → Result (Unit {0}) Refusal → State → Type 0
ShowsAnother j l call a after =
    (t : OpenComposite) × (t.job ≢ j.number) × OnOpenSteps j l t call (record { answer = a; «open» = Some t }) after
