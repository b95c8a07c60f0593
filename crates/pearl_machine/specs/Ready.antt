-- What is seen of a machine, and what holds of it between its calls.
use Rattle.std.specs.Prelude.{◌≡◌, ◌⊎◌, ◌≤◌, ℕ, List, [], ◌++◌, true, Option, Some, length, drop, slice_get}
use Rattle.pearl_rules.specs.declared.action.Action.{Action}
use Rattle.pearl_rules.specs.declared.setup.Setup.{Setup}
use Rattle.pearl_rules.specs.Core.{Report}
use Rattle.pearl_rules.specs.Pick.{states}
use Rattle.pearl_rules.specs.Runs.{Running, Offers, kept_at}
use Rattle.pearl_stack.specs.Frames.{Frame}
use Rattle.pearl_instructions.specs.declared.object.Parts.{Parts as Object}
use Rattle.pearl_instructions.specs.Lawful.{IsObject}
use Rattle.pearl_instructions.specs.Valid.{IsValid}
use Rattle.pearl_instructions.specs.Engines.{engine}
use Rattle.pearl_instructions.specs.Owners.{IsStackOf}
use Rattle.pearl_instructions.specs.Setups.{setup_of}
use Rattle.pearl_kernel.specs.Kept.{Kept, IsLawful, AllSettled, offered, is_unsettled}
use Rattle.pearl_machine.specs.declared.part.Part.{Part}
use Rattle.pearl_machine.specs.Parts.{HasMemories, is_going, running_of}
use Rattle.pearl_machine.specs.Seen.{Seen}

-- what is told and not written: the kernel's events, and how each task stands from the one that is due on
abbrev pub untold : Kept → (due : ℕ) → List (ℕ × Report)
untold k due = k.core.told ++ drop due (states k.core (offered k))

-- what is seen of a machine
abbrev pub seen_of : Object → Kept → List Part → (due : ℕ) → Seen
seen_of o k parts due = record {
  object = o;
  state = record { core = record k.core { told = untold k due }; running = running_of o k.core k.offers parts; entries = [] };
}

-- an active task's stack is its own, and what it has offered is what its code offers there
pub record Stands (o : Object) (t : ℕ) (running : Running (List Frame)) : Type 0 where
  pub own : IsStackOf o t running.stack
  pub offers : (action : Action) → running.offer ≡ Some action → (engine o).step t running.stack ≡ Offers action

abbrev pub AllStand : Object → List (Option (Running (List Frame))) → Type 0
AllStand o xs = (t : ℕ) (running : Running (List Frame)) → kept_at xs t ≡ Some running → Stands o t running

-- where the state of a task is due every active task has offered its action; where none is, as many are written as there are tasks
abbrev pub IsDue : Kept → (due : ℕ) → Type 0
IsDue k due = AllSettled k ⊎ (length k.core.tasks ≤ due)

-- The object is valid, the tables and the kernel are its own, each task has its stack, and one
-- that is under way to its action is active and has offered nothing.
pub record IsReady (o : Object) (setup : Setup) (k : Kept) (parts : List Part) (due : ℕ) : Type 0 where
  pub valid : IsValid o
  pub object : IsObject o
  pub tables : setup ≡ setup_of o
  pub lawful : IsLawful (setup_of o) k
  pub each : length parts ≡ length k.core.tasks
  pub memory : HasMemories o parts
  pub going : (t : ℕ) → is_going (slice_get parts t) ≡ true → is_unsettled k t ≡ true
  pub stand : AllStand o (running_of o k.core k.offers parts)
  pub owes : IsDue k due
