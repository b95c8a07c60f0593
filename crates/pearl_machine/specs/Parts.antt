-- The row of the tasks' stacks, and what it shows beside a core and what the tasks have offered.
use Rattle.std.specs.Prelude.{◌≡◌, ℕ, zero, suc, ◌+◌, ◌≤◌, List, [], ◌∷◌, Bool, true, false, Option, Some, None, length, slice_get, slice_set}
use Rattle.pearl_rules.specs.declared.action.Action.{Action}
use Rattle.pearl_rules.specs.declared.action.Answer.{Answer}
use Rattle.pearl_rules.specs.Core.{Core, is_active}
use Rattle.pearl_rules.specs.Runs.{Running, Silent, Offers, kept_at}
use Rattle.pearl_stack.specs.Frames.{Frame, Stack}
use Rattle.pearl_instructions.specs.declared.object.Parts.{Parts as Object}
use Rattle.pearl_instructions.specs.declared.object.Task.{Task}
use Rattle.pearl_instructions.specs.Rows.{begun}
use Rattle.pearl_instructions.specs.Stacks.{room}
use Rattle.pearl_instructions.specs.Engines.{engine}
use Rattle.pearl_instructions.specs.Owners.{IsStackOf}
use Rattle.pearl_exchange.specs.declared.offer.Offer.{Offer}
use Rattle.pearl_exchange.specs.Offers.{action_of}
use Rattle.pearl_solo.specs.declared.stepped.Gave.{Gave}
use Rattle.pearl_solo.specs.declared.stepped.Gave.TheVariants as gives
use Rattle.pearl_solo.specs.Settling.{Settles}
use Rattle.pearl_machine.specs.declared.part.Part.{Part}

-- f 0, f 1 and so on, so many
abbrev pub table : {X : Type 0} → ℕ → (ℕ → X) → List X
table zero f = []
table (suc n) f = f 0 ∷ table n (λ i. f (suc i))

-- A TASK'S STACK

-- the stack in a part
abbrev pub stack_in : Option Part → Stack
stack_in None = record { frames = []; room = 0; most = 0 }
stack_in (Some part) = part.stack

-- where the code of task t begins
abbrev pub start_of : Object → ℕ → List Frame
start_of o t = begun o (length o.procedures + t)

abbrev pub frames_if : (is_going : Bool) → List Frame → List Frame → List Frame
frames_if true start frames = frames
frames_if false start frames = start

abbrev pub is_going : Option Part → Bool
is_going None = false
is_going (Some part) = part.going

-- where an active task stands that has offered nothing: one that isn't under way to its action stands at its beginning
abbrev pub going_frames : List Frame → Option Part → List Frame
going_frames start part = frames_if (is_going part) start (stack_in part).frames

-- what is kept of an active task, by what it has offered
abbrev pub shown_active : List Frame → Option Action → Option Part → Running (List Frame)
shown_active start None part = record { stack = going_frames start part; offer = None }
shown_active start (Some action) part = record { stack = (stack_in part).frames; offer = Some action }

abbrev pub shown : (is_active : Bool) → List Frame → Option Action → Option Part → Option (Running (List Frame))
shown false start offer part = None
shown true start offer part = Some (shown_active start offer part)

-- what is kept of each task
abbrev pub running_of : Object → Core → List (Option Action) → List Part → List (Option (Running (List Frame)))
running_of o core offers parts =
    table (length core.tasks) (λ t. shown (is_active core t) (start_of o t) (kept_at offers t) (slice_get parts t))

-- MEMORY

-- the stack of task t has memory for all that comes on it
pub record HasMemory (o : Object) (t : ℕ) (part : Part) : Type 0 where
  pub room_is : room o (start_of o t) ≤ part.stack.room
  pub most : length o.procedures + 1 ≤ part.stack.most

abbrev pub HasMemories : Object → List Part → Type 0
HasMemories o parts = (t : ℕ) (part : Part) → slice_get parts t ≡ Some part → HasMemory o t part

-- a task has memory for its stack, and hasn't begun
abbrev pub first_part : ℕ → Task → Part
first_part most task = record { stack = record { frames = []; room = task.code.depth; most = most }; going = false }

abbrev pub IsShallow : Task → Type 0
IsShallow task = task.code.depth ≤ 4096

-- ONE TASK GOES ON

abbrev pub is_none_offered : Option Action → Bool
is_none_offered None = true
is_none_offered (Some action) = false

-- what an instruction offers, where its action lies beside it
abbrev pub offered_by : Gave → Offer → Option Action
offered_by gives.Silent offer = None
offered_by gives.Offered offer = Some (action_of offer)

-- an instruction was silent and left this stack, or it offers an action and changed nothing
abbrev pub Does : Object → ℕ → List Frame → List Frame → Option Action → Type 0
Does o t before after None = (engine o).step t before ≡ Silent after
Does o t before after (Some action) = ((engine o).step t before ≡ Offers action) × (after ≡ before)

-- one instruction of a task that had offered nothing; no other stack changed
pub record StepsPart (o : Object) (old : List Part) (t : ℕ) (new : List Part) (offer : Option Action) : Type 0 where
  pub after : Stack
  pub does : Does o t (going_frames (start_of o t) (slice_get old t)) after.frames offer
  pub own : IsStackOf o t after.frames
  pub same : new ≡ slice_set old t (record { stack = after; going = is_none_offered offer })

-- likewise all instructions up to its next action
pub record SettlesPart (o : Object) (old : List Part) (t : ℕ) (new : List Part) (action : Action) : Type 0 where
  pub after : Stack
  pub settles : Settles o (going_frames (start_of o t) (slice_get old t)) after.frames action
  pub own : IsStackOf o t after.frames
  pub same : new ≡ slice_set old t (record { stack = after; going = false })

-- a task's part after an answer to the action that it has offered, where this was its stack
abbrev pub heard_by : Object → ℕ → Stack → Answer → Part
heard_by o t stack answer =
    record { stack = record stack { frames = (engine o).answer t stack.frames answer }; going = true }

abbrev pub heard_part : Object → List Part → ℕ → Answer → Part
heard_part o parts t answer = heard_by o t (stack_in (slice_get parts t)) answer
