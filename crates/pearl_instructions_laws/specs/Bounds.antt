-- When a task's stack, and a whole state of a run, are in bounds.
use Rattle.std.specs.Prelude.{◌≡◌, ◌≢◌, ℕ, ◌+◌, ◌≤◌, List, Some, None, false, IsTrue, length, slice_get}
use Rattle.pearl_rules.specs.declared.action.Action.{Action}
use Rattle.pearl_rules.specs.declared.action.Answer.{Answer}
use Rattle.pearl_rules.specs.Core.{is_active}
use Rattle.pearl_rules.specs.Runs.{Running, Machine, kept_at, unsettled}
use Rattle.pearl_stack.specs.Frames.{Frame, used}
use Rattle.pearl_instructions.specs.declared.object.Task.{Task}
use Rattle.pearl_instructions.specs.declared.object.Parts.{Parts as Object}
use Rattle.pearl_instructions.specs.Actions.{IsOffered}
use Rattle.pearl_instructions.specs.Owned.{IsOfTask}
use Rattle.pearl_instructions.specs.Rows.{row}
use Rattle.pearl_instructions.specs.Stacks.{IsStack}
use Rattle.pearl_instructions.specs.Steps.{Offers, Missing}

-- exactly the active tasks have a stack
pub record HasStacks (m : Machine (List Frame)) : Type 0 where
  pub active : (t : ℕ) → IsTrue (is_active m.core t) →
      (running : Running (List Frame)) × (kept_at m.running t ≡ Some running)
  pub dormant : (t : ℕ) → is_active m.core t ≡ false → kept_at m.running t ≡ None

-- the row of a stack offers this action
abbrev pub IsNext : Object → List Frame → Action → Type 0
IsNext o frames action = (go : Answer → List Frame) × (row o frames ≡ Offers action go)

-- A task's stack is in bounds: it is one of the object, its lowest frame is of the task's routine, its next row is
-- there, there are no more cells and operands than the task states, and at most one frame more than procedures.
pub record IsInBounds (o : Object) (t : ℕ) (frames : List Frame) : Type 0 where
  pub task : Task
  pub there : slice_get o.tasks t ≡ Some task
  pub stack : IsStack o frames
  pub own : IsOfTask o t frames
  pub row : row o frames ≢ Missing
  pub depth : used frames ≤ task.code.depth
  pub few : length frames ≤ length o.procedures + 1

-- A state of a run is in bounds: exactly the active tasks have a stack, and each of these is in bounds, so also the
-- one whose instruction comes next; what a task has offered is what its row offers, and names what is there.
pub record AreInBounds (o : Object) (m : Machine (List Frame)) : Type 0 where
  pub stacks : HasStacks m
  pub each : (t : ℕ) (running : Running (List Frame)) → kept_at m.running t ≡ Some running →
      IsInBounds o t running.stack
  pub next : (t : ℕ) (frames : List Frame) → unsettled m ≡ Some (t, frames) → IsInBounds o t frames
  pub offers : (t : ℕ) (running : Running (List Frame)) (action : Action) → kept_at m.running t ≡ Some running →
      running.offer ≡ Some action → IsNext o running.stack action × IsOffered o action
