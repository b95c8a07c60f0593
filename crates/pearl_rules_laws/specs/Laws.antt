-- What it is that a task can act, that one variable changes, and that a task stands as it is declared.
use Rattle.std.specs.Prelude.{◌≡◌, ◌≢◌, ℕ, true, false, Some, None, IsTrue, slice_get}
use Rattle.pearl_value.specs.declared.cell.Cell.{Cell}
use Rattle.pearl_rules.specs.declared.action.Action.{Action}
use Rattle.pearl_rules.specs.declared.action.Action.TheVariants as action
use Rattle.pearl_rules.specs.declared.action.Answer.TheVariants.{Nothing}
use Rattle.pearl_rules.specs.declared.row.Kept.TheVariants as kept
use Rattle.pearl_rules.specs.declared.row.Mode.TheVariants.{Dormant, Active}
use Rattle.pearl_rules.specs.declared.setup.TaskEntry.{TaskEntry}
use Rattle.pearl_rules.specs.Core.{Core, row_of, mode_of}
use Rattle.pearl_rules.specs.Effect.{Effect, answering}
use Rattle.pearl_rules.specs.Pick.{Offered, guard}

-- the task is active, with whatever priority, and not suspended, and has offered an action that can be done now
pub record CanAct (core : Core) (offers : Offered) (t : ℕ) : Type 0 where
  pub priority : ℕ
  pub action : Action
  pub stands : mode_of core t ≡ Active priority false
  pub offered : offers t ≡ Some action
  pub possible : IsTrue (guard core action)

-- a request, a GET or a TAKE
abbrev pub MayWait : Action → Type 0
MayWait (action.Request list) = Unit {0}
MayWait (action.Get device format kinds) = Unit {0}
MayWait (action.Take device) = Unit {0}
MayWait asked = ⊥

-- an effect puts this value into a slot, and nothing else changes but who acted last; the task goes on
pub record ChangesSlot (core : Core) (own slot : ℕ) (value : Cell) (done : Effect) : Type 0 where
  pub named : slice_get done.core.slots slot ≡ Some value
  pub others : (other : ℕ) → other ≢ slot → slice_get done.core.slots other ≡ slice_get core.slots other
  pub rest : done ≡ answering (record core { last = Some own; slots = done.core.slots }) Nothing

-- nothing is planned for the task, it keeps no start, has its declared priority, and is active with it where it is MAIN, not suspended, and else dormant
pub record StandsAsDeclared (core : Core) (t : ℕ) (task : TaskEntry) : Type 0 where
  pub main : task.main ≡ true →
      row_of core t ≡
      Some (record {
        mode = Active task.priority false;
        declared = task.priority;
        kept = kept.Nothing;
        continuation = None;
        activation = None;
      })
  pub other : task.main ≡ false →
      row_of core t ≡ Some (record {
        mode = Dormant;
        declared = task.priority;
        kept = kept.Nothing;
        continuation = None;
        activation = None;
      })
