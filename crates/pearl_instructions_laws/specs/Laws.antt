-- What holds over whole runs of an object, over any entries that fit and after any number of steps.
use Rattle.std.specs.Prelude.{◌≡◌, ℕ, List, Some}
use Rattle.pearl_rules.specs.declared.action.Action.{Action}
use Rattle.pearl_rules.specs.declared.entry.Entry.{Entry}
use Rattle.pearl_rules.specs.Entries.{AreFitting}
use Rattle.pearl_rules.specs.Runs.{Running, kept_at}
use Rattle.pearl_rules.specs.Slots.{HasKinds}
use Rattle.pearl_stack.specs.Frames.{Frame}
use Rattle.pearl_instructions.specs.declared.object.Parts.{Parts as Object}
use Rattle.pearl_instructions.specs.Engines.{machine_run}
use Rattle.pearl_instructions.specs.Lawful.{IsObject}
use Rattle.pearl_instructions.specs.Setups.{setup_of}
use Rattle.pearl_instructions.specs.Valid.{IsValid}
use Rattle.pearl_instructions_laws.specs.Bounds.{HasStacks, IsNext, AreInBounds}
use Rattle.pearl_instructions_laws.specs.Ends.{ComesToItsEnd}

-- in each state of any object's run exactly the active tasks have a stack
abbrev pub TasksHaveStacks : Type 0
TasksHaveStacks = (o : Object) (es : List Entry) (n : ℕ) → HasStacks (machine_run o es n)

-- and what a task has offered is what its row offers
abbrev pub OffersAreNext : Type 0
OffersAreNext = (o : Object) (es : List Entry) (n t : ℕ) (running : Running (List Frame)) (action : Action) →
    kept_at (machine_run o es n).running t ≡ Some running → running.offer ≡ Some action → IsNext o running.stack action

-- this holds of each valid object over any entries that fit
abbrev pub OfRuns : (Object → List Entry → Type 0) → Type 0
OfRuns Holds = (o : Object) → IsValid o → IsObject o → (es : List Entry) → AreFitting (setup_of o) es → Holds o es

-- each state is in bounds
abbrev pub RunsStayInBounds : Type 0
RunsStayInBounds = OfRuns (λ o es. (n : ℕ) → AreInBounds o (machine_run o es n))

-- every variable of the module holds a value of its kind, and so does every input, in each state
abbrev pub RunsKeepKinds : Type 0
RunsKeepKinds = OfRuns (λ o es. (n : ℕ) → HasKinds (setup_of o) (machine_run o es n).core)

-- the run comes to its end
abbrev pub RunsEnd : Type 0
RunsEnd = OfRuns ComesToItsEnd
